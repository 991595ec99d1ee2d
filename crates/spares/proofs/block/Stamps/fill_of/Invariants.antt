-- The loop's invariant: whether all places below i are clean by their tags, and whether none is.
use mathlib.Core.Path.{◌≡◌}
use Rattle.ranges.specs.Look.{all_below}
use Rattle.spares.proofs.Scanning.{free_tag, used_tag}
use Rattle.spares.proofs.block.Stamps.fill_of.Given as goal

abbrev pub invariant-loop-i : goal.invariant-loop-i
invariant-loop-i l = (l.clean ≡ all_below l.i (free_tag l.self.tags l.o)) × (l.full ≡ all_below l.i (used_tag l.self.tags l.o))
