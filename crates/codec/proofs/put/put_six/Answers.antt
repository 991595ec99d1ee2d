use native.Mathlib.Omega.{arith}
use mathlib.Core.Path.{◌≡◌}
use Rattle.codec.proofs.Fills.{numbers_none, numbers_more}
use Rattle.codec.proofs.put.put_six.Goals as goal

pub loop-m-init : goal.loop-m-init
loop-m-init c = numbers_none c.args.a 2 _ c.args.dst.now

pub loop-m-preserved : goal.loop-m-preserved
loop-m-preserved c = numbers_more c.loop-m.invariant (omega arith) c.put_number.ensures

pub shape_of-dst : goal.shape_of-dst
shape_of-dst c = c.loop-m.invariant.same

pub returns : goal.returns
returns c = let all : c.loop-m.m ≡ 6 = omega arith in rw all at c.loop-m.invariant.so_far
