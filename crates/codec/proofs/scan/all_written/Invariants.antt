-- The loop's invariant: the flag is the test of the numbers below i.
use mathlib.Core.Path.{◌≡◌}
use Rattle.ranges.specs.Look.{all_below}
use Rattle.codec.specs.Scan.{written_in}
use Rattle.codec.proofs.scan.all_written.Given as goal

abbrev pub invariant-loop-i : goal.invariant-loop-i
invariant-loop-i l = l.written ≡ all_below l.i (written_in l.tops l.records l.a)
