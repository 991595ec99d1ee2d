use native.Mathlib.Nat.{add-sub_cancel_left}
use native.Mathlib.Omega.{arith}
use mathlib.Core.Path.{refl}
use Rattle.std.proofs.Common.{◌+◌, ◌*◌, ◌≤◌, length}
use Rattle.octets.specs.Units.{put, unit_put}
use Rattle.layout.proofs.Rows.{empty_bytes}
use Rattle.codec.proofs.Fills.{firsts_none, firsts_more}
use Rattle.codec.proofs.Offsets.{record_within}
use Rattle.codec.proofs.put.put_empty_records.Goals as goal
use Rattle.codec.proofs.put.put_empty_records.Goals.{In-loop-j}

-- the record ends within the image
fits : (c : In-loop-j) → c.loop-j.j * 32 + 32 ≤ length c.loop-j.records
fits c = rw c.loop-j.invariant.same (record_within c.args.g c.args.records.now c.requires.0 c.loop-j.j (omega arith))

pub loop-j-init : goal.loop-j-init
loop-j-init c = firsts_none 32 c.args.n _ c.args.records.now

pub overflow_mul-first : goal.overflow_mul-first
overflow_mul-first c = omega (arith, fits c)

pub overflow_add-end : goal.overflow_add-end
overflow_add-end c = omega (arith, fits c)

pub slice_bounds-copy-end : goal.slice_bounds-copy-end
slice_bounds-copy-end c = omega (arith, fits c)

pub loop-j-preserved : goal.loop-j-preserved
unfolding unit_put put
loop-j-preserved c =
    let e = empty_bytes c.args.g in
    firsts_more c.loop-j.invariant (omega arith) (rw e refl) (fits (goal.at.loop-j-preserved c).In-loop-j) (rw (e, c.copy.ensures, add-sub_cancel_left))
