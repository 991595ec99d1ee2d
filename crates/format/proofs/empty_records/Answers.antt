-- The records that the allowance holds are stored at once, and counted.
use native.Mathlib.Omega.{arith}
use mathlib.Core.Path.{refl}
use Rattle.layout.specs.Layout.{layout_of}
use Rattle.layout.specs.Record.{empty_record}
use Rattle.steps.specs.Store.{stripe}
use Rattle.steps.proofs.Alike.{ran_each}
use Rattle.format.proofs.Firsts.{empties_made}
use Rattle.format.proofs.empty_records.Goals as goal

pub returns : goal.returns
returns c cs zs =
    let l = layout_of c.args.g in
    rw c.count_all.ensures
    (ran_each (λ j. stripe j (empty_record l)) 0 (λ i. refl) (λ i. refl) l c.args.p c.args.g.s _ _ c.requires.1 (omega arith)
    (rw (c.put_empty_records.ensures, c.held-n.ensures, empties_made l)))
