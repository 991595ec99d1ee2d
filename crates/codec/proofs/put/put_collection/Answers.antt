-- The part that is lent is the record, and comes back as its bytes.
use native.Mathlib.Nat.{add-sub_cancel_left}
use native.Mathlib.Omega.{arith}
use Rattle.octets.specs.Units.{put, unit_put}
use Rattle.steps.specs.Store.{recorded}
use Rattle.codec.proofs.Offsets.{record_within}
use Rattle.codec.proofs.put.put_collection.Goals as goal

pub overflow_mul-a : goal.overflow_mul-a
overflow_mul-a c = omega (arith, record_within c.args.g c.args.records.now c.requires.0 c.args.g.s (omega arith))

pub overflow_add-e : goal.overflow_add-e
overflow_add-e c = omega (arith, record_within c.args.g c.args.records.now c.requires.0 c.args.g.s (omega arith))

pub slice_bounds-fill_collection-end : goal.slice_bounds-fill_collection-end
slice_bounds-fill_collection-end c = omega (arith, record_within c.args.g c.args.records.now c.requires.0 c.args.g.s (omega arith))

pub returns : goal.returns
unfolding recorded unit_put put
returns c = rw (c.fill_collection.ensures c.args.g, add-sub_cancel_left)
