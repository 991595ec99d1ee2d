-- The record store that ends a commit.
use Prim.Native.Nat.{ℕ, suc, ◌<◌}
use native.Mathlib.Decide.{ℕ_discrete}
use native.Mathlib.Omega.{arith}
use mathlib.Core.Path.{◌≡◌, refl, sym, ap, ◌∙◌}
use mathlib.Core.Logic.{◌≢◌}
use mathlib.Core.Bool.{true}
use mathlib.Core.List.{List}
use Rattle.ranges.specs.Look.{count_below}
use Rattle.ranges.specs.Update.{at}
use Rattle.ranges.proofs.Updates.{at_same, at_other}
use Rattle.ranges.proofs.Counts.{count_flip}
use Rattle.layout.specs.Layout.{Layout}
use Rattle.layout.specs.Rotation.{parity_chip, member_of, stripe_of}
use Rattle.layout.specs.Page.{page_at}
use Rattle.layout.specs.Record.{Record, no_slot, has_slot, slotted, record_at}
use Rattle.layout.specs.Collection.{collection_at}
use Rattle.layout.specs.Images.{Images, slot_at}
use Rattle.layout.proofs.Records.{SixMembers, six_members}
use Rattle.layout.proofs.Pages.{page_number_lem}
use Rattle.steps.specs.Store.{stripe, apply}
use Rattle.rules.specs.Parity.{committed}
use Rattle.rules.proofs.Soundness.Statements.{Usable, RecordSound, Sound}
use Rattle.rules.proofs.Stores.Kept.{CopiesOf, Kept}
use Rattle.rules.proofs.Stores.Storing.{stripe_view, stripe_collection, sound_stripe}
use Rattle.rules.proofs.Data.Contents.{StripeData, Data, pages_whole}
use Rattle.rules.proofs.Data.Parity.{commit_data}
use Rattle.rules.proofs.Data.Carries.{Carries, kept_carries, new_parity_kept}
use Rattle.rules.proofs.Data.Entries.{committed_six, committed_sound, committed_main, committed_side}
use Rattle.rules.proofs.Data.NewRecord.{NewPage, main_stamped, side_stamped, stored_here, stored_other, stored_copies, stored_data, stored_read}
use Rattle.rules.proofs.Data.Feeds.{parity_bytes}

module _ (l : Layout) (u : Usable l) where
  open l use {S}

  -- The record of a commit, stored on images t in which the parity page stands at p, worked out from s.
  module _ (s t : Images) (k : Kept l s t) (same : t.records ≡ s.records) (rest : (collection_at l t.records).phase ≡ 0)
      (j p : ℕ) (fits : j < S) (slot : has_slot (record_at l t.records j) ≡ true)
      (new : NewPage l t (parity_chip l j) j p (parity_bytes l (page_at l s.chips) (slot_at l s.slots) j (record_at l s.records j))) where
    abbrev r : Record
    r = record_at l t.records j

    abbrev r' : Record
    r' = committed l p r

    abbrev committed_images : Images
    committed_images = apply l (stripe j r') t

    sound : RecordSound l r
    sound = k.sound.stripes.stripe j fits

    sound' : RecordSound l r'
    sound' = committed_sound l u.within r sound p new.fits

    six : SixMembers l r'
    six = committed_six l p r (six_members l t.records j)

    no_slot_lem : r'.slot ≡ no_slot
    unfolding committed
    no_slot_lem = refl

    fewer : count_below S (slotted (record_at l t.records)) ≡ suc (count_below S (slotted (at j r' (record_at l t.records))))
    fewer =
        count_flip S (slotted (at j r' (record_at l t.records))) (slotted (record_at l t.records)) j fits
        (rw (at_same j r' (record_at l t.records), no_slot_lem)) slot (λ i h d. rw (at_other j r' (record_at l t.records) i d))

    pub commit_collection : collection_at l committed_images.records ≡ collection_at l t.records
    commit_collection = stripe_collection l u t k.sound j r' fits sound' six

    -- the stripe has no slot any more; the others are as they were
    pub commit_frees : suc (count_below S (slotted (record_at l committed_images.records))) ≡ count_below S (slotted (record_at l t.records))
    commit_frees = rw (stripe_view l u t k.sound j r' fits sound' six) (sym fewer)

    pub commit_others : (i : ℕ) → i ≢ j → record_at l committed_images.records i ≡ record_at l t.records i
    commit_others = stored_other l u t k.sound j fits r' sound' six

    commit_sound : Sound l committed_images
    commit_sound =
        let y = page_at l t.chips in
        let main = main_stamped l u t k.sound j fits in
        let side = side_stamped l u t k.sound j fits in
        sound_stripe l u t k.sound j r' fits sound' six rest (λ d. absurd (d no_slot_lem))
        (omega (arith, fewer, k.sound.stripes.few)) (committed_main l y j r main side p new.stamped) (committed_side l y j r main side p)

    -- the parity page holds what a commit of t would put there
    same_record : record_at l s.records j ≡ r
    same_record = ap (λ (x : List ℕ). record_at l x j) (sym same)

    new_parity_lem : CopiesOf l s
        → parity_bytes l (page_at l s.chips) (slot_at l s.slots) j (record_at l s.records j) ≡ parity_bytes l (page_at l t.chips) (slot_at l t.slots) j r
    new_parity_lem c =
        rw same_record
        (sym (new_parity_kept l (page_at l s.chips) (page_at l t.chips) j r
        (λ e b. rw same_record at (k.main c e j b fits).bytes)
        (λ e b. rw same_record at (k.side c e j b fits).bytes)
        (slot_at l s.slots) (slot_at l t.slots) ((rw same_record at (k.memory j fits)) slot)))

    stripe_data : CopiesOf l s → Data l t → StripeData l (page_at l t.chips) (slot_at l t.slots) j r'
    stripe_data c d =
        commit_data l u.within (page_at l t.chips) (pages_whole l t k.sound.chips) (slot_at l t.slots) j r sound (d j fits)
        p (page_number_lem l u.within p new.fits) slot (page_at l t.chips) (new.bytes ∙ new_parity_lem c) (λ m h. refl) (slot_at l t.slots)

    same_current : (i m : ℕ) → (record_at l committed_images.records i).current m ≡ (record_at l t.records i).current m
    unfolding committed
    same_current i m = elim (ℕ_discrete i j) [
      | yes e ↦ rw e (ap (λ (x : Record). x.current m) (stored_here l u t k.sound j fits r' sound' six))
      | no d ↦ ap (λ (x : Record). x.current m) (commit_others i d)
    ]

    -- nothing is lost
    pub commit_carries : Carries l s committed_images
    commit_carries =
        let kept = kept_carries l u s t k in
        record {
          sound = commit_sound;
          copies = λ c. stored_copies l u t k.sound j fits r' sound' six rest;
          data_too = λ c d. let d' = kept.data_too c d in stored_data l u t k.sound j fits r' sound' six (stripe_data c d') d';
          reads = λ c i h.
              stored_read l u t k.sound j fits r' sound' six i (same_current (stripe_of l i) (member_of l i)) ∙ kept.reads c i h;
        }
