-- The three cases of the code are those of the definition. A sound record with a slot has one of the M + 1.
use native.Mathlib.Omega.{arith}
use mathlib.Core.Path.{sym, ◌∙◌}
use Rattle.layout.specs.Layout.{layout_of, no_chip}
use Rattle.steps.specs.Allowance.{images}
use Rattle.rules.specs.declared.Role.TheVariants.{Current}
use Rattle.fetch.proofs.Pages.{fetched_from}
use Rattle.layout.proofs.Limits.{within}
use Rattle.rules.proofs.Soundness.RecordChecks.{record_sound_lem}
use Rattle.codec.specs.Views.{record_from}
use Rattle.partial.proofs.Partials.{without_slot, without_bit, with_bit}
use Rattle.partial.proofs.new_partial.Goals as goal
use Rattle.partial.proofs.new_partial.Goals.{else-bit_of, then-bit_of}

pub returns-then-e-eq-NO_SLOT : goal.returns-then-e-eq-NO_SLOT
returns-then-e-eq-NO_SLOT c =
    let a = c.args in
    let v = a.view.now in
    without_slot v.g v.chips.now v.slots.now a.j a.m a.bytes.now a.e c.if-e-eq-NO_SLOT.true c.copy.ensures

pub slot_data-requires : goal.slot_data-requires
unfolding record_from
slot_data-requires c =
    let v = c.args.view.now in
    let l = layout_of v.g in
    let sound = record_sound_lem l (record_from l c.args.e) c.requires.5 in
    (v.slots_fit, sound.slot (λ z. c.if-e-eq-NO_SLOT.false (sound.no_slot_lem z)))

pub bit_of-requires : goal.bit_of-requires
bit_of-requires c =
    let v = c.args.view.now in
    omega (arith, c.requires.3, (within (layout_of v.g) v.chips_fit.limited).members_high)

pub returns : goal.returns
returns c =
    let a = c.args in
    let v = a.view.now in
    let slot = c.copy-2.ensures ∙ c.slot_data.ensures.0 in
    let has = c.if-e-eq-NO_SLOT.false in
    let bit = sym c.bit_of.ensures in
    rw c.xor_into.ensures
    (elim c.if-bit_of.branch [
      | then-bit_of w ↦
          rw (w.work-is, w.reads-is) (with_bit v.g v.chips.now v.slots.now a.j a.m a.bytes.now a.e has slot (bit ∙ w.if-bit_of.true)
          (fetched_from (layout_of v.g) (images v.chips.now v.records.now v.slots.now) no_chip a.j (Current a.m) c.requires.4 w.fetch-got.ensures))
      | else-bit_of w ↦ rw (w.work-is, w.reads-is) (without_bit v.g v.chips.now v.slots.now a.j a.m a.bytes.now a.e has slot (bit ∙ w.if-bit_of.false))
    ])
