use native.Mathlib.Omega.{arith}
use Rattle.octets.proofs.Lists.{stored_all}
use Rattle.codec.proofs.Fills.{digits_none, digits_more}
use Rattle.codec.proofs.put.fill_number.Goals as goal

pub loop-i-init : goal.loop-i-init
loop-i-init c = digits_none c.args.x c.args.dst.now

pub loop-i-preserved : goal.loop-i-preserved
loop-i-preserved c = digits_more c.loop-i.invariant (omega arith)

pub shape_of-dst : goal.shape_of-dst
shape_of-dst c = c.loop-i.invariant.stored.same

pub returns : goal.returns
returns c = stored_all c.loop-i.invariant.stored (omega arith)
