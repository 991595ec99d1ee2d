-- A block has at most as many pages as are looked at together, so there is one more block at least.
use Prim.Native.Nat.{◌/◌}
use native.Mathlib.Omega.{arith}
use Rattle.layout.specs.Layout.{layout_of}
use Rattle.layout.proofs.Limits.{within}
use Rattle.spares.proofs.Scanning.{together, stop_some}
use Rattle.spares.proofs.next_stop.Goals as goal

pub nonzero_div-some : goal.nonzero_div-some
nonzero_div-some c = omega (arith, (within (layout_of c.args.g) c.requires.0).places_low)

pub returns-then-some-blocks : goal.returns-then-some-blocks
returns-then-some-blocks c =
    let w = within (layout_of c.args.g) c.requires.0 in
    let h = together c.args.g.k (omega (arith, w.places_low)) w.places_high in
    stop_some c.args.b (128 / c.args.g.k) c.args.g.b c.args.g.k h.1 h.0 c.if-some-blocks.true
