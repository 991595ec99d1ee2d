use native.Mathlib.Numerals.{add-one}
use native.Mathlib.Omega.{arith}
use mathlib.Core.Path.{◌≡◌, refl}
use Rattle.ranges.specs.Look.{all_below}
use Rattle.codec.proofs.scan.all_written.Goals as goal

pub loop-i-init : goal.loop-i-init
unfolding all_below
loop-i-init c = refl

pub loop-i-preserved : goal.loop-i-preserved
unfolding all_below
loop-i-preserved c = rw (add-one, c.loop-i.invariant, c.number_at-x.ensures.0)

pub returns : goal.returns
returns c = let all : c.loop-i.i ≡ 8 = omega arith in rw all at c.loop-i.invariant
