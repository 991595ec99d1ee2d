-- The loop's invariant: the flag and the count are those of the numbers below m. What they tell together with the ending is in Glances.
use Prim.Native.Nat.{◌≤◌}
use mathlib.Core.Path.{◌≡◌}
use Rattle.ranges.specs.Look.{all_below, count_below}
use Rattle.codec.proofs.Glances.{low_in, given_in}
use Rattle.codec.proofs.scan.glance_at.Given as goal

abbrev pub invariant-loop-m : goal.invariant-loop-m
invariant-loop-m l = (l.low ≡ all_below l.m (low_in l.tops l.records l.a)) × (l.names ≡ count_below l.m (given_in l.records l.a)) × (l.names ≤ l.m)
