use native.Mathlib.Omega.{arith}
use Rattle.octets.proofs.Lists.{stored_none, stored_more, stored_rest, stored_all, get_or_xors}
use Rattle.octets.proofs.Xors.{length_xors_left}
use Rattle.octets.proofs.xor_into.Goals as goal

pub loop-i-init : goal.loop-i-init
loop-i-init c = stored_none (length_xors_left c.args.dst.now c.args.src.now (omega arith))

pub loop-i-preserved : goal.loop-i-preserved
loop-i-preserved c = let s = c.loop-i.invariant in
    stored_more s (omega arith) (rw (stored_rest s, get_or_xors))

pub shape_of-dst : goal.shape_of-dst
shape_of-dst c = c.loop-i.invariant.same

pub returns : goal.returns
returns c = stored_all c.loop-i.invariant (omega arith)
