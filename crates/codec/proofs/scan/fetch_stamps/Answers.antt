use Prim.Native.Nat.{◌+◌, ◌*◌, ◌≤◌}
use native.Mathlib.Omega.{arith}
use lib.ListN.{length, length-set}
use Rattle.layout.specs.Layout.{layout_of}
use Rattle.layout.proofs.Limits.{within}
use Rattle.codec.proofs.Offsets.{page_high}
use Rattle.codec.proofs.Fetching.{fill_start, fill_more, spare_within, fetch_all}
use Rattle.codec.proofs.scan.fetch_stamps.Goals as goal
use Rattle.codec.proofs.scan.fetch_stamps.Goals.{In-loop-i}

-- the spare of page i is within the image
spare : (c : In-loop-i) → let a = c.args in
    let n = c.page_offset.result + a.g.w + c.loop-i.i * (a.g.w + 8) in
    (n + 4 ≤ length a.chips.now) × (n ≤ 1882689480)
spare c =
    let a = c.args in
    rw c.page_offset.ensures.0
    (spare_within a.g a.chips.now c.requires.0 a.c a.first a.count c.requires.1 c.requires.3 c.loop-i.i (omega arith))

pub page_offset-requires : goal.page_offset-requires
page_offset-requires c = (c.requires.0.limited, c.requires.1, c.requires.2)

pub overflow_add-start : goal.overflow_add-start
overflow_add-start c = omega (arith, page_high c.args.g c.args.c c.args.first c.requires.1 c.requires.2 c.requires.0.limited)

pub loop-i-init : goal.loop-i-init
loop-i-init c = (c.requires.5, c.requires.6, fill_start, fill_start)

pub overflow_add-a : goal.overflow_add-a
overflow_add-a c = omega (arith, (within (layout_of c.args.g) c.requires.0.limited).bytes_high)

pub overflow_mul-a : goal.overflow_mul-a
overflow_mul-a c = omega (arith, spare c)

pub overflow_add-a-in-loop-i : goal.overflow_add-a-in-loop-i
overflow_add-a-in-loop-i c = omega (arith, spare c)

pub tag_at-requires : goal.tag_at-requires
tag_at-requires c = omega (arith, spare c)

pub offset_bounds-tags-i : goal.offset_bounds-tags-i
offset_bounds-tags-i c = omega (arith, c.requires.4)

pub bounds-tags-i : goal.bounds-tags-i
bounds-tags-i c = omega (arith, c.requires.4)

pub overflow_add-a-in-loop-i-2 : goal.overflow_add-a-in-loop-i-2
overflow_add-a-in-loop-i-2 c = omega (arith, spare (goal.at.overflow_add-a-in-loop-i-2 c).In-loop-i)

pub number_at-requires : goal.number_at-requires
number_at-requires c = omega (arith, spare (goal.at.number_at-requires c).In-loop-i)

pub overflow_cast-stripes : goal.overflow_cast-stripes
overflow_cast-stripes c = record { fits = omega arith }

pub offset_bounds-stripes-i : goal.offset_bounds-stripes-i
offset_bounds-stripes-i c = omega (arith, c.requires.4)

pub bounds-stripes-i : goal.bounds-stripes-i
bounds-stripes-i c = omega (arith, c.requires.4)

pub loop-i-preserved : goal.loop-i-preserved
loop-i-preserved c =
    let o = c.loop-i in (
      rw length-set o.invariant.0,
      rw length-set o.invariant.1,
      fill_more o.invariant.2 (omega (arith, c.requires.4)) c.tag_at.ensures,
      fill_more o.invariant.3 (omega (arith, c.requires.4)) c.number_at.ensures.0,
    )

pub returns : goal.returns
returns c =
    let e = c.page_offset.ensures.0 in
    let o = c.loop-i in
    let a = c.args in
    let all = fetch_all a.g a.chips.now c.requires.0 a.c a.first a.count c.requires.1 c.requires.3 (rw e at o.invariant.2) (rw e at o.invariant.3) (omega arith) in
    (all, o.invariant.0, o.invariant.1)
