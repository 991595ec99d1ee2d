-- The loop's invariant: the flag is the test of the members below m. The other tests are the definition's own.
use mathlib.Core.Path.{◌≡◌}
use Rattle.ranges.specs.Look.{all_below}
use Rattle.layout.specs.Layout.{layout_of}
use Rattle.rules.specs.Sound.{member_sound}
use Rattle.codec.specs.Views.{record_from}
use Rattle.records.proofs.record_passes.Given as goal

abbrev pub invariant-loop-m : goal.invariant-loop-m
invariant-loop-m l = l.members ≡ all_below l.m (member_sound (layout_of l.g) (record_from (layout_of l.g) l.e))
