use native.Mathlib.Numerals.{add-one}
use native.Mathlib.Omega.{arith}
use mathlib.Core.Path.{◌≡◌, refl}
use mathlib.Core.Bool.{and-true}
use borrow.Author.Tests.{eq-eqb, ne_eqb}
use Rattle.ranges.specs.Look.{all_below}
use Rattle.layout.specs.Layout.{layout_of, none}
use Rattle.rules.specs.Sound.{slot_sound, record_sound}
use Rattle.codec.specs.Views.{record_from}
use Rattle.codec.proofs.Sizes.{bounded}
use Rattle.records.proofs.record_passes.Goals as goal
use Rattle.records.proofs.record_passes.Goals.{else-e-eq0, then-e-eq0}

pub overflow_mul-pages : goal.overflow_mul-pages
overflow_mul-pages c = omega (arith, bounded c.args.g c.requires)

pub loop-m-init : goal.loop-m-init
unfolding all_below
loop-m-init c = refl

pub loop-m-preserved : goal.loop-m-preserved
unfolding all_below
loop-m-preserved c = rw (add-one, c.loop-m.invariant, c.member_passes-members.ensures)

pub overflow_shl-result : goal.overflow_shl-result
overflow_shl-result c = omega (arith, bounded c.args.g c.requires)

pub returns : goal.returns
unfolding record_sound record_from none
returns c =
    let slot_is : let a = c.args in
    c.if-e-eq0.slot ≡ slot_sound (layout_of a.g) (record_from (layout_of a.g) a.e) =
    let bits = c.args.e.bitmap in
    elim c.if-e-eq0.branch [
      | then-e-eq0 w ↦ rw (eq-eqb bits 0 w.if-e-eq0.true) w.slot-is
      | else-e-eq0 w ↦ rw (ne_eqb bits 0 w.if-e-eq0.false) w.slot-is
    ] in
    let loop = c.loop-m in
    let six : loop.m ≡ 6 = omega arith in
    rw (slot_is, loop.invariant, six, (bounded c.args.g c.requires).bitmaps, and-true)
