-- After m turns so many of the first m members are in the bitmap.
use mathlib.Core.Path.{◌≡◌}
use Rattle.ranges.specs.Look.{count_below}
use Rattle.layout.proofs.Bits.{test_bit}
use Rattle.costs.proofs.set_bits.Given as goal

abbrev pub invariant-loop-m : goal.invariant-loop-m
invariant-loop-m l = l.p ≡ count_below l.m (test_bit l.bitmap)
