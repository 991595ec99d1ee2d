-- The two words tell it.
use borrow.Author.Tests.{eqb-true}
use Rattle.ranges.proofs.Tests.{and_both}
use Rattle.codec.proofs.Glances.{clear}
use Rattle.codec.proofs.scan.is_clear.Goals as goal

pub returns : goal.returns
returns c t xs a long bytes old-word word =
    let (olds, last) = and_both _ _ t in
    clear long bytes old-word word (eqb-true _ _ olds) (eqb-true _ _ last)
