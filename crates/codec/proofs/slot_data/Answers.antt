-- Slot i ends within the image; the part that is lent is that unit of it.
use Prim.Native.Nat.{◌*◌}
use native.Mathlib.Omega.{arith}
use native.Mathlib.Nat.{add-sub_cancel_left}
use mathlib.Core.Path.{refl}
use Rattle.octets.specs.Units.{part, unit}
use Rattle.octets.proofs.Units.{length_part}
use Rattle.layout.specs.Images.{slot_at}
use Rattle.codec.proofs.Offsets.{slot_within}
use Rattle.codec.proofs.slot_data.Goals as goal

pub overflow_mul-a : goal.overflow_mul-a
overflow_mul-a c = omega (arith, slot_within c.args.g c.args.slots.now c.requires.0 c.args.i c.requires.1)

pub overflow_add-e : goal.overflow_add-e
overflow_add-e c = omega (arith, slot_within c.args.g c.args.slots.now c.requires.0 c.args.i c.requires.1)

pub slice_bounds-result-end : goal.slice_bounds-result-end
slice_bounds-result-end c = omega (arith, slot_within c.args.g c.args.slots.now c.requires.0 c.args.i c.requires.1)

pub returns : goal.returns
unfolding slot_at unit part
returns c = let a = c.args in rw add-sub_cancel_left (refl, length_part (a.i * a.g.w) a.g.w a.slots.now (slot_within a.g a.slots.now c.requires.0 a.i c.requires.1))
