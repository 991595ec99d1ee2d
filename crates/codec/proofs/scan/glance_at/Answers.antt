-- What the flag, the count and the ending tell is in Glances.
use Prim.Native.Nat.{ℕ, ◌*◌, ◌%◌, ◌<◌}
use native.Mathlib.Numerals.{add-one}
use native.Mathlib.Omega.{arith}
use mathlib.Core.Path.{◌≡◌, refl, ◌∙◌}
use mathlib.Core.Bool.{not}
use lib.Dec.{eqb}
use lib.ListN.{get_or}
use Rattle.ranges.specs.Look.{all_below, count_below}
use Rattle.ranges.proofs.Tallies.{ones, count_more}
use Rattle.codec.proofs.Sizes.{bounded}
use Rattle.codec.proofs.Offsets.{record_within}
use Rattle.codec.proofs.Glances.{next, given_in, tested, glanced}
use Rattle.codec.proofs.scan.glance_at.Goals as goal

pub overflow_mul-a : goal.overflow_mul-a
overflow_mul-a c = omega (arith, record_within c.args.g c.args.records.now c.requires.0 c.args.j (omega (arith, c.requires.1)))

pub overflow_mul-pages : goal.overflow_mul-pages
overflow_mul-pages c = omega (arith, bounded c.args.g c.requires.0.limited)

pub ending_at-end-requires : goal.ending_at-end-requires
ending_at-end-requires c = record_within c.args.g c.args.records.now c.requires.0 c.args.j (omega (arith, c.requires.1))

pub loop-m-init : goal.loop-m-init
unfolding all_below count_below
loop-m-init c = (refl, refl, omega arith)

pub overflow_add-a : goal.overflow_add-a
overflow_add-a c = omega (arith, record_within c.args.g c.args.records.now c.requires.0 c.args.j (omega (arith, c.requires.1)))

pub number_at-requires : goal.number_at-requires
number_at-requires c = omega (arith, record_within c.args.g c.args.records.now c.requires.0 c.args.j (omega (arith, c.requires.1)))

pub loop-m-preserved : goal.loop-m-preserved
unfolding all_below
loop-m-preserved c =
    let loop = c.loop-m in
    let number = c.number_at.ensures.0 in
    let page = not (eqb (next c.number_at.result) 0) in
    let own : c.from-names.result ≡ ones page = c.from-names.ensures ∙ (tested page).0 in (
      rw (add-one loop.m, loop.invariant.0, number),
      rw (own, number, loop.invariant.1, add-one loop.m, count_more loop.m (given_in c.args.records.now (c.args.j * 32))),
      omega (arith, c.from-names.ensures, (tested page).1),
    )

pub returns : goal.returns
returns c =
    let a = c.args in
    let loop = c.loop-m in
    let (olds, last) = c.ending_at-end.ensures in
    let bytes : (i : ℕ) → get_or a.records.now i 0 < 256 = λ i. (c.type_inv.records i).fits in
    let long = record_within a.g a.records.now c.requires.0 a.j (omega (arith, c.requires.1)) in
    let ends = c.is_clear.ensures c.if-not-is_clear.false a.records.now (a.j * 32) long bytes olds last in
    let all : loop.m ≡ 8 = omega arith in
    glanced {p = c.ending_at-end.result.last % 65536} c.requires.0 c.requires.1 c.requires.2 bytes
    (omega (arith, last.sum, last.first))
    ends
    (rw all at loop.invariant.0)
    (rw all at loop.invariant.1)
    c.if-not-plain.false
    c.from.ensures
