use native.Mathlib.Omega.{arith}
use mathlib.Core.Path.{refl}
use Rattle.octets.proofs.Lists.{stored_none, stored_more, stored_all}
use Rattle.octets.proofs.copy.Goals as goal

pub loop-i-init : goal.loop-i-init
loop-i-init c = stored_none c.requires

pub loop-i-preserved : goal.loop-i-preserved
loop-i-preserved c = stored_more c.loop-i.invariant (omega arith) refl

pub shape_of-dst : goal.shape_of-dst
shape_of-dst c = c.loop-i.invariant.same

pub returns : goal.returns
returns c = stored_all c.loop-i.invariant (omega arith)
