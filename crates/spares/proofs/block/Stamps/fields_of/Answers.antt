-- Each arm gives the width of its number of members; the limits leave 6 to the last.
use native.Mathlib.Omega.{arith}
use mathlib.Core.Path.{◌≡◌}
use Rattle.layout.specs.Layout.{layout_of}
use Rattle.layout.proofs.Limits.{within}
use Rattle.spares.proofs.block.Stamps.fields_of.Goals as goal

pub find_by_width-requires-in_default : goal.find_by_width-requires-in_default
find_by_width-requires-in_default c =
    let n = within (layout_of c.args.g) c.requires.0 in
    let d = c.in_default.in_default-own.rest in
    let six : c.args.g.n ≡ 6 = omega (arith, n.members_low, n.members_high, d.1, d.0.1, d.0.0.1, d.0.0.0.1) in
    (c.requires.0, omega arith, c.requires.1, c.requires.2)
