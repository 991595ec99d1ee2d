-- The slot is copied; into it come the pages outside the bitmap, or the old parity and then the old pages inside.
use mathlib.Core.Path.{refl, ◌∙◌}
use Rattle.layout.specs.Layout.{layout_of, no_chip}
use Rattle.steps.specs.Allowance.{images}
use Rattle.rules.specs.declared.Role.TheVariants.{Parity}
use Rattle.fetch.proofs.Pages.{fetched_from}
use Rattle.layout.proofs.Limits.{within}
use Rattle.rules.proofs.Soundness.RecordChecks.{record_sound_lem}
use Rattle.rules.proofs.Data.Contents.{slot_bits}
use Rattle.codec.specs.Views.{record_from}
use Rattle.parity.proofs.Parities.{most_told, parity_outside, parity_inside}
use Rattle.parity.proofs.new_parity.Goals as goal

pub slot_data-requires : goal.slot_data-requires
unfolding record_from
slot_data-requires c =
    let l = layout_of c.args.view.now.g in
    let r = record_from l c.args.e in
    let sound = record_sound_lem l r c.requires.3 in
    (c.args.view.now.slots_fit, sound.slot (slot_bits l r sound c.requires.4))

pub most_in_partial-requires : goal.most_in_partial-requires
most_in_partial-requires c =
    let v = c.args.view.now in
    (within (layout_of v.g) v.chips_fit.limited).members_high

pub returns-then-most_in_partial : goal.returns-then-most_in_partial
unfolding record_from
returns-then-most_in_partial c =
    let a = c.args in
    let v = a.view.now in
    let l = layout_of v.g in
    let told = most_told l a.e (c.set_bits.ensures.0 (record_from l a.e) refl) c.most_in_partial.ensures in
    let called = c.gather_members.ensures in
    parity_outside v.g (within l v.chips_fit.limited) v.chips.now v.slots.now a.j a.e (c.copy.ensures ∙ c.slot_data.ensures.0) (told ∙ c.if-most_in_partial.true) called.0 called.1

pub returns : goal.returns
unfolding record_from
returns c =
    let a = c.args in
    let v = a.view.now in
    let l = layout_of v.g in
    let told = most_told l a.e (c.set_bits.ensures.0 (record_from l a.e) refl) c.most_in_partial.ensures in
    let called = c.gather_members-2.ensures in
    parity_inside v.g (within l v.chips_fit.limited) v.chips.now v.slots.now a.j a.e (c.copy.ensures ∙ c.slot_data.ensures.0) (told ∙ c.if-most_in_partial.false)
    (fetched_from l (images v.chips.now v.records.now v.slots.now) no_chip a.j Parity c.requires.2 c.fetch-got.ensures) called.0 called.1
