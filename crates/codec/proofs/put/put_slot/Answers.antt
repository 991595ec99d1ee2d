-- The part that is lent is the slot, and comes back as the bytes.
use native.Mathlib.Nat.{add-sub_cancel_left}
use native.Mathlib.Omega.{arith}
use Rattle.octets.specs.Units.{put, unit_put}
use Rattle.codec.proofs.Offsets.{slot_within}
use Rattle.codec.proofs.put.put_slot.Goals as goal

pub overflow_mul-a : goal.overflow_mul-a
overflow_mul-a c = omega (arith, slot_within c.args.g c.args.slots.now c.requires.0 c.args.i c.requires.1)

pub overflow_add-e : goal.overflow_add-e
overflow_add-e c = omega (arith, slot_within c.args.g c.args.slots.now c.requires.0 c.args.i c.requires.1)

pub slice_bounds-copy-end : goal.slice_bounds-copy-end
slice_bounds-copy-end c = omega (arith, slot_within c.args.g c.args.slots.now c.requires.0 c.args.i c.requires.1)

pub returns : goal.returns
unfolding unit_put put
returns c = rw (c.copy.ensures, add-sub_cancel_left)
