use native.Mathlib.Omega.{arith}
use mathlib.Core.Path.{◌≡◌}
use borrow.Author.Tests.{lt-ltb, le-ltb}
use Rattle.ranges.proofs.Counts.{count_le}
use Rattle.layout.specs.Layout.{layout_of}
use Rattle.layout.specs.Record.{record_at, slotted}
use Rattle.layout.specs.Collection.{collection_at}
use Rattle.codec.proofs.Sizes.{bounded}
use Rattle.records.proofs.Plains.{plain_names, plain_few}
use Rattle.records.proofs.Tables.{full_few, gone_few, looked_names, passed_start, passed_full, passed_plain, passed_next, passed_names, passed_all, passed_slots}
use Rattle.records.proofs.scan_records.Goals as goal
use Rattle.records.proofs.scan_records.Goals.{else-n-lost, else-seen_full+in-Some, else-seen_full+in_default, then-n-lost, then-seen_full}

pub loop-j-init : goal.loop-j-init
loop-j-init c =
    let a = c.args in (
      passed_start (c.no_tally-tally.ensures a.g (record_at (layout_of a.g) a.records.now)),
      elim c.if-n-lost.branch [
        | then-n-lost w ↦ rw (w.full-is, lt-ltb a.g.n a.lost w.if-n-lost.true)
        | else-n-lost w ↦ rw (w.full-is, le-ltb a.g.n a.lost w.if-n-lost.false)
      ],
    )

pub overflow_add-names : goal.overflow_add-names
overflow_add-names c =
    omega (arith, c.loop-j.invariant.0.few, c.loop-j.invariant.1, full_few c.args.g.n c.args.lost, bounded c.args.g c.requires.limited)

pub overflow_sub-names : goal.overflow_sub-names
overflow_sub-names c = gone_few _ _ _ _ c.requires.limited c.names_lost-gone.ensures (plain_names c.in-Some.ensures)

pub overflow_add-names-in-Some : goal.overflow_add-names-in-Some
overflow_add-names-in-Some c =
    omega (arith, c.loop-j.invariant.0.few, plain_few c.in-Some.ensures, bounded c.args.g c.requires.limited)

pub with_record-next-requires : goal.with_record-next-requires
with_record-next-requires c =
    let few = count_le c.loop-j.j (slotted (record_at (layout_of c.args.g) c.args.records.now)) in
    (c.requires.limited, omega (arith, c.loop-j.invariant.0.tally.counts, few, bounded c.args.g c.requires.limited))

pub overflow_sub-names-in_default : goal.overflow_sub-names-in_default
overflow_sub-names-in_default c =
    let a = c.args in
    let e = c.record_at-e.result in
    gone_few _ _ _ _ c.requires.limited c.names_lost-gone.ensures
    (looked_names a.g (record_at (layout_of a.g) a.records.now c.loop-j.j) e c.record_at-e.ensures.0 c.names_of.ensures.0)

pub overflow_add-names-in_default : goal.overflow_add-names-in_default
overflow_add-names-in_default c =
    omega (arith, c.loop-j.invariant.0.few, c.names_of.ensures.1, bounded c.args.g c.requires.limited)

pub loop-j-preserved : goal.loop-j-preserved
loop-j-preserved c =
    let limited = c.requires.limited in
    let p = c.loop-j.invariant.0 in
    elim c.if-seen_full.branch [
      | then-seen_full w ↦ (rw (w.seen-is, w.tally-is, w.names-is) (rw c.loop-j.invariant.1 (passed_full limited p (c.seen_full.ensures w.if-seen_full.true))), c.loop-j.invariant.1)
      | else-seen_full+in-Some w ↦ (rw (w.seen-is, w.tally-is, w.names-is) (passed_plain limited p w.in-Some.ensures w.names_lost-gone.ensures), c.loop-j.invariant.1)
      | else-seen_full+in_default w ↦ (rw (w.seen-is, w.tally-is, w.names-is) (passed_next limited p w.record_at-e.ensures w.record_ends-ends.ensures w.names_of.ensures w.with_record-next.ensures w.names_lost-gone.ensures), c.loop-j.invariant.1)
    ]

pub slots_told-slots-requires : goal.slots_told-slots-requires
slots_told-slots-requires c = (bounded c.args.g c.requires.limited).partials

pub returns : goal.returns
returns c =
    let a = c.args in
    let limited = c.requires.limited in
    let p = c.loop-j.invariant.0 in
    let all : c.loop-j.j ≡ a.g.s = omega arith in (
      rw c.collection_passes.ensures (passed_all limited p all (collection_at (layout_of a.g) a.records.now)),
      passed_names limited p all,
      rw c.slots_told-slots.ensures (passed_slots limited p all (bounded a.g limited).partials),
    )
