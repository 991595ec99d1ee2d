-- The loop's invariant: the places below i are in order by their tags.
use mathlib.Core.Path.{◌≡◌}
use Rattle.ranges.specs.Look.{all_below}
use Rattle.spares.proofs.Scanning.{order_tag}
use Rattle.spares.proofs.block.Stamps.is_ordered.Given as goal

abbrev pub invariant-loop-i : goal.invariant-loop-i
invariant-loop-i l = l.ordered ≡ all_below l.i (order_tag l.self.tags l.o)
