use Prim.Native.Nat.{ℕ, ◌+◌, ◌*◌, ◌<◌}
use native.Mathlib.Nat.{le_refl}
use native.Mathlib.Numerals.{add-one}
use native.Mathlib.Omega.{arith}
use mathlib.Core.Path.{◌≡◌}
use lib.ListN.{get_or}
use Rattle.ranges.proofs.Counts.{count_le, count_cong}
use Rattle.ranges.proofs.Tallies.{count_more, count_from}
use Rattle.layout.specs.Layout.{layout_of}
use Rattle.layout.specs.Record.{record_at}
use Rattle.codec.proofs.Fetching.{start_low}
use Rattle.spares.specs.Scans.{by_stamp_in}
use Rattle.spares.proofs.Fields.{field_test}
use Rattle.spares.proofs.block.Stamps.count_named.Invariants.{has}
use Rattle.spares.proofs.block.Stamps.count_named.Goals as goal
use Rattle.spares.proofs.block.Stamps.count_named.Goals.{else-has_number, then-has_number}

pub overflow_add-p : goal.overflow_add-p
overflow_add-p c =
    omega (arith, c.requires.1, start_low c.args.g c.requires.0.limited c.args.g.b (le_refl c.args.g.b))

pub overflow_add-named : goal.overflow_add-named
overflow_add-named c =
    let a = c.args in
    let o = c.loop-at in
    omega (arith, o.invariant, count_le o.at (has a.g a.records.now a.self.now.first a.self.now.stripes a.self.now.fields), c.requires.2)

pub loop-at-preserved : goal.loop-at-preserved
loop-at-preserved c =
    let a = c.args in
    let o = c.loop-at in
    let more = count_more o.at (has a.g a.records.now a.self.now.first a.self.now.stripes a.self.now.fields) in
    rw (add-one, more, ← o.invariant, ← c.has_number.ensures)
    (elim c.if-has_number.branch [
      | then-has_number w ↦ rw w.if-has_number.true (omega (arith, w.named-is))
      | else-has_number w ↦ rw w.if-has_number.false (omega (arith, w.named-is))
    ])

pub returns : goal.returns
returns c x chip block tags there here stamps found =
    let a = c.args in
    let l = layout_of a.g in
    let all : c.loop-at.at ≡ a.o + a.g.k = omega arith in
    let f = has a.g a.records.now a.self.now.first a.self.now.stripes a.self.now.fields in
    let right : (i : ℕ) → i < a.g.k → has a.g a.records.now a.self.now.first a.self.now.stripes a.self.now.fields (a.o + i) ≡ by_stamp_in l (record_at l a.records.now) x chip block i =
    λ i h.
    let at : a.self.now.first + (a.o + i) ≡ block * a.g.k + i = omega (arith, here) in
    let low : a.o + i < a.o + a.g.k = omega arith in
    let few : a.self.now.first + (a.o + i) < 65535 = omega (arith, c.requires.1, start_low a.g c.requires.0.limited a.g.b (le_refl a.g.b)) in
    rw (found.is (a.o + i) low, ← at)
    (field_test a.g a.records.now x chip (a.self.now.first + (a.o + i)) (get_or tags (a.o + i) 0) (get_or a.self.now.stripes (a.o + i) 0) c.requires.0.limited there few (stamps.tag (a.o + i) low) (stamps.stripe (a.o + i) low)) in
    omega (arith, rw all at c.loop-at.invariant, count_from a.o a.g.k f, count_cong a.g.k (λ i. f (a.o + i)) (by_stamp_in l (record_at l a.records.now) x chip block) right)
