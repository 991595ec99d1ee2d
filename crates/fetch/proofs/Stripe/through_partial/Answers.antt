-- The slot is XORed in, and then the other pages of the bitmap. A record with a bit has a slot, and its numbers are those of pages.
use Prim.Native.Nat.{ℕ}
use native.Mathlib.Omega.{arith}
use native.Mathlib.Nat.{zero-add}
use mathlib.Core.Path.{refl, sym, ap, ◌∙◌}
use mathlib.Core.List.{List}
use Rattle.octets.specs.Xor.{◌⊕◌}
use Rattle.layout.specs.Layout.{layout_of}
use Rattle.layout.specs.Page.{page_at}
use Rattle.layout.specs.Record.{record_at}
use Rattle.layout.specs.Images.{slot_at}
use Rattle.rules.specs.Fetch.{gathered, others_inside, through_partial}
use Rattle.rules.proofs.Soundness.RecordChecks.{record_sound_lem}
use Rattle.fetch.specs.Into.{begun}
use Rattle.fetch.proofs.Pages.{into_two}
use Rattle.fetch.proofs.Others.{slot_low}
use Rattle.fetch.proofs.Stripe.through_partial.Goals as goal

pub slot_data-requires : goal.slot_data-requires
slot_data-requires c =
    let s = c.args.self.now in
    let l = layout_of s.view.g in
    let r = record_at l s.view.records.now s.j in
    (s.view.slots_fit, rw c.slot_at-i.ensures.0 (slot_low l r (record_sound_lem l r s.sound) c.args.m c.requires.1))

pub returns : goal.returns
unfolding through_partial
returns c =
    let a = c.args in
    let s = a.self.now in
    let l = layout_of s.view.g in
    let r = record_at l s.view.records.now s.j in
    let z = slot_at l s.view.slots.now in
    let rest = (gathered l (page_at l s.view.chips.now) s.j (others_inside l a.m r)).bytes in
    let called = c.gather.ensures in
    into_two (z r.slot) rest refl
    (called.0 ∙ ap (λ (x : List ℕ). x ⊕ rest)
    (c.add.ensures ∙ ap (λ (x : List ℕ). begun a.fresh a.work.now ⊕ x) (c.slot_data.ensures.0 ∙ ap z c.slot_at-i.ensures.0)))
    (called.1 ∙ sym (zero-add _)) refl (omega (arith, called.2))
