-- The loop's invariant: the flag says that none of the first i places of the destination is named.
use mathlib.Core.Path.{◌≡◌}
use Rattle.ranges.specs.Look.{all_below}
use Rattle.layout.specs.Layout.{layout_of}
use Rattle.layout.specs.Record.{record_at}
use Rattle.rules.specs.Blocks.{unnamed_in}
use Rattle.spares.proofs.phase.phase1_passes.Given as goal

abbrev pub invariant-loop-i : goal.invariant-loop-i
invariant-loop-i l = l.free ≡ all_below l.i (unnamed_in (layout_of l.g) (record_at (layout_of l.g) l.records) l.c l.d)
