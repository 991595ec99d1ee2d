-- The loop's invariant: all slots below i are marked.
use mathlib.Core.Path.{◌≡◌}
use Rattle.std.specs.Prelude.{None}
use Rattle.ranges.specs.Look.{first_below}
use Rattle.records.specs.Slots.{unmarked}
use Rattle.records.proofs.lowest_unmarked.Given as goal

abbrev pub invariant-loop-i : goal.invariant-loop-i
invariant-loop-i l = first_below l.i (unmarked l.marks) ≡ None
