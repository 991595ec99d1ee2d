-- Each arm is the definition at its number; the limits leave 6 to the last.
use Prim.Native.Nat.{ℕ, ◌+◌, ◌-◌, ◌%◌, ◌≤◌}
use native.Mathlib.Omega.{arith}
use mathlib.Core.Path.{◌≡◌}
use Rattle.layout.specs.declared.Geometry.{Geometry}
use Rattle.layout.specs.Layout.{layout_of}
use Rattle.layout.specs.Rotation.{parity_chip}
use Rattle.layout.proofs.Limits.{within}
use Rattle.codec.proofs.parity_chip.Goals as goal

rotated : (g : Geometry) (j n : ℕ) → g.n ≡ n → (n - j % (n + 1) ≡ parity_chip (layout_of g) j) × (n - j % (n + 1) ≤ g.n)
unfolding parity_chip
rotated g j n e = (rw e, omega arith)

pub returns-in-2 : goal.returns-in-2
returns-in-2 c = rotated c.args.g c.args.j 2 c.in-2.is

pub returns-in-3 : goal.returns-in-3
returns-in-3 c = rotated c.args.g c.args.j 3 c.in-3.is

pub returns-in-4 : goal.returns-in-4
returns-in-4 c = rotated c.args.g c.args.j 4 c.in-4.is

pub returns-in-5 : goal.returns-in-5
returns-in-5 c = rotated c.args.g c.args.j 5 c.in-5.is

pub returns-in_default : goal.returns-in_default
returns-in_default c =
    let w = within (layout_of c.args.g) c.requires in
    let d = c.in_default.in_default-own.rest in
    rotated c.args.g c.args.j 6 (omega (arith, w.members_low, w.members_high, d.1, d.0.1, d.0.0.1, d.0.0.0.1))
