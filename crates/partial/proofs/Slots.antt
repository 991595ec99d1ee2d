-- The lowest free slot, where there is one.
use Prim.Native.Nat.{ℕ, ◌+◌, ◌≤◌}
use native.Mathlib.Omega.{arith}
use mathlib.Core.Path.{◌≡◌}
use Rattle.std.specs.Prelude.{Some}
use Rattle.ranges.proofs.Looks.{first_at}
use Rattle.layout.specs.declared.Geometry.{Geometry}
use Rattle.layout.specs.Layout.{layout_of}
use Rattle.layout.specs.Record.{Record}
use Rattle.rules.specs.Partial.{free_slot, lowest_free_slot}

-- it is one of the M + 1
pub free_fits : (g : Geometry) (r : ℕ → Record) (i : ℕ) → lowest_free_slot (layout_of g) r ≡ Some i → i ≤ g.m
unfolding lowest_free_slot
free_fits g r i e = omega (arith, first_at (g.m + 1) (free_slot (layout_of g) r) i e)
