-- The loop's invariant: so many of the places from o to `at` have their number in the field of their record. Whatever chip's pages have
-- the tags and stripes, that is the test of their stamps.
use Prim.Native.Nat.{ℕ, ◌+◌}
use mathlib.Core.Path.{◌≡◌}
use mathlib.Core.Bool.{Bool}
use mathlib.Core.List.{List}
use lib.ListN.{get_or}
use Rattle.ranges.specs.Look.{count_below}
use Rattle.layout.specs.declared.Geometry.{Geometry}
use Rattle.layout.specs.Layout.{layout_of}
use Rattle.layout.specs.Record.{record_at}
use Rattle.spares.specs.Scans.{has_number}
use Rattle.spares.proofs.block.Stamps.count_named.Given as goal

-- place i has its number in its field
abbrev pub has : Geometry → List ℕ → ℕ → List ℕ → List ℕ → ℕ → Bool
has g records first stripes fields i =
    has_number (record_at (layout_of g) records (get_or stripes i 0)) (get_or fields i 0) (first + i)

abbrev pub invariant-loop-at : goal.invariant-loop-at
invariant-loop-at l = l.named + count_below l.o (has l.g l.records l.self.first l.self.stripes l.self.fields) ≡ count_below l.at (has l.g l.records l.self.first l.self.stripes l.self.fields)
