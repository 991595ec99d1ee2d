use native.Mathlib.Omega.{arith}
use Rattle.codec.proofs.Fetching.{fill_more}
use Rattle.spares.proofs.block.Stamps.find_by_width.Goals as goal

pub loop-i-preserved : goal.loop-i-preserved
loop-i-preserved c =
    let o = c.loop-i.invariant in
    (o.0, o.1, o.2, fill_more o.3 (omega (arith, c.requires.3)) c.field_of.ensures)
