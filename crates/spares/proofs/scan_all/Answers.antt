use Prim.Native.Nat.{◌≤◌, ◌<◌}
use native.Mathlib.Omega.{arith}
use Rattle.codec.proofs.Sizes.{bounded}
use Rattle.spares.proofs.Scanning.{row_start, row_next, row_more, row_lost, row_all, all_start}
use Rattle.spares.proofs.scan_all.Goals as goal
use Rattle.spares.proofs.scan_all.Goals.{else-c-lost, then-c-lost}

pub loop-b-init : goal.loop-b-init
loop-b-init c = (omega arith, all_start _ _ _ _ (λ i. c.no_block-first.ensures _ _ _ i))

pub overflow_add-c-end : goal.overflow_add-c-end
overflow_add-c-end c = omega (arith, bounded c.args.g c.requires.0.limited)

pub loop-c-init : goal.loop-c-init
loop-c-init c = row_start _ _ _ _ _ _ c.loop-b.invariant.1

pub offset_bounds-scans-c : goal.offset_bounds-scans-c
offset_bounds-scans-c c = omega (arith, bounded c.args.g c.requires.0.limited)

pub bounds-scans-c : goal.bounds-scans-c
bounds-scans-c c = omega (arith, bounded c.args.g c.requires.0.limited)

pub with_blocks-scan-requires : goal.with_blocks-scan-requires
with_blocks-scan-requires c =
    let h = c.requires in
    let stop = c.next_stop-end.ensures in
    let low : c.loop-c.c ≤ c.args.g.n = omega arith in
    let seven : c.loop-c.c < 7 = omega (arith, bounded c.args.g c.requires.0.limited) in
    (h.0, h.1, low, stop.0, stop.1, stop.2, row_next c.loop-c.invariant seven low c.if-c-lost.true)

pub offset_bounds-scans-c-then-c-lost : goal.offset_bounds-scans-c-then-c-lost
offset_bounds-scans-c-then-c-lost c = omega (arith, bounded c.args.g c.requires.0.limited)

pub bounds-scans-c-then-c-lost : goal.bounds-scans-c-then-c-lost
bounds-scans-c-then-c-lost c = omega (arith, bounded c.args.g c.requires.0.limited)

pub loop-c-preserved : goal.loop-c-preserved
loop-c-preserved c =
    let seven : c.loop-c.c < 7 = omega (arith, bounded c.args.g c.requires.0.limited) in
    elim c.if-c-lost.branch [
      | then-c-lost w ↦ rw w.scans-is (row_more c.loop-c.invariant seven (omega arith) w.if-c-lost.true w.with_blocks-scan.ensures)
      | else-c-lost w ↦ rw w.scans-is (row_lost c.loop-c.invariant seven w.if-c-lost.false)
    ]

pub loop-b-preserved : goal.loop-b-preserved
loop-b-preserved c =
    (c.next_stop-end.ensures.1, row_all c.loop-c.invariant (omega arith))
