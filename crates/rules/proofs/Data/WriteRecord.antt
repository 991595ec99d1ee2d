-- The record store that ends a write.
use Prim.Native.Nat.{ℕ, ◌+◌, ◌*◌, ◌≤◌, ◌<◌}
use native.Mathlib.Nat.{div-add-mod'}
use native.Mathlib.Decide.{ℕ_discrete}
use native.Mathlib.Omega.{arith}
use mathlib.Core.Path.{◌≡◌, refl, sym, ap, ap₂, ◌∙◌}
use mathlib.Core.Logic.{◌≢◌}
use mathlib.Core.Bool.{true, false}
use mathlib.Core.List.{List}
use lib.ListN.{length}
use borrow.Author.Tests.{ne_eqb}
use Rattle.ranges.specs.Look.{count_below}
use Rattle.ranges.specs.Update.{at}
use Rattle.ranges.proofs.Looks.{by_test}
use Rattle.ranges.proofs.Updates.{at_same, at_other}
use Rattle.ranges.proofs.Counts.{count_cong, count_flip}
use Rattle.layout.specs.Layout.{Layout, no_chip, none}
use Rattle.layout.specs.Rotation.{member_chip, member_of, stripe_of}
use Rattle.layout.specs.Page.{page_at}
use Rattle.layout.specs.Record.{Record, bit, no_slot, has_slot, slotted, record_at}
use Rattle.layout.specs.Collection.{collection_at}
use Rattle.layout.specs.Images.{Images, slot_at}
use Rattle.layout.proofs.Records.{SixMembers, six_members}
use Rattle.layout.proofs.Pages.{page_number_lem}
use Rattle.layout.proofs.Rotations.{stripe_fits, member_fits}
use Rattle.steps.specs.Store.{stripe, apply}
use Rattle.rules.specs.Partial.{written}
use Rattle.rules.specs.Fetch.{under_parity}
use Rattle.rules.specs.Read.{fetch}
use Rattle.rules.proofs.Soundness.Statements.{Usable, RecordSound, Sound}
use Rattle.rules.proofs.Stores.Names.{main_member, side_member, unnamed_at}
use Rattle.rules.proofs.Stores.Kept.{Kept}
use Rattle.rules.proofs.Stores.Storing.{sound_stripe}
use Rattle.rules.proofs.Data.Contents.{StripeData, Data, directly, page_itself, pages_whole}
use Rattle.rules.proofs.Data.Parity.{written_current, written_current_other, write_data}
use Rattle.rules.proofs.Data.Rebuild.{fetch_direct}
use Rattle.rules.proofs.Data.Carries.{Wrote, kept_carries}
use Rattle.rules.proofs.Data.Entries.{written_six, written_sound, written_main, written_side}
use Rattle.rules.proofs.Data.NewRecord.{NewPage, main_stamped, side_stamped, stored_chips, stored_here, stored_other, stored_copies, stored_data, stored_read}
use Rattle.rules.proofs.Data.Feeds.{partial_bytes}

module _ (l : Layout) (u : Usable l) where
  open l use {N, W, S, M}

  -- The record of a write, stored on images t in which the page stands at p and the partial parity, worked out from s, in slot i.
  module _ (s t : Images) (k : Kept l s t) (same : t.records ≡ s.records) (chips : t.chips ≡ s.chips)
      (rest : (collection_at l t.records).phase ≡ 0)
      (page p i : ℕ) (xs : List ℕ) (inside : page < N * S) (whole : length xs ≡ W)
      (new : NewPage l t (member_chip l (stripe_of l page) (member_of l page)) (stripe_of l page) p xs)
      (place : i < M + 1) (free : (j : ℕ) → j < S → (record_at l t.records j).slot ≢ i)
      (partial : slot_at l t.slots i ≡ partial_bytes l (page_at l s.chips) (slot_at l s.slots) (stripe_of l page) (member_of l page) xs (record_at l s.records (stripe_of l page)))
      (few : has_slot (record_at l t.records (stripe_of l page)) ≡ false → count_below S (slotted (record_at l t.records)) < M) where
    abbrev j : ℕ
    j = stripe_of l page

    abbrev m : ℕ
    m = member_of l page

    abbrev r : Record
    r = record_at l t.records j

    abbrev r' : Record
    r' = written l m p i r

    abbrev written_images : Images
    written_images = apply l (stripe j r') t

    fits : j < S
    fits = stripe_fits l u.within page inside

    member : m < N
    member = member_fits l u.within page

    page_there : p ≢ none l
    page_there = page_number_lem l u.within p new.fits

    sound : RecordSound l r
    sound = k.sound.stripes.stripe j fits

    -- the record names the new page nowhere
    fresh : p ≢ under_parity l r m
    unfolding under_parity
    fresh =
        let (main, side) = unnamed_at l (record_at l t.records) (member_chip l j m) p new.unnamed j fits in
        by_test (bit r m)
        (λ b. rw b (λ e. side (side_member l j m r ∙ sym e)))
        (λ b. rw b (λ e. main (main_member l j m r ∙ sym e)))

    sound' : RecordSound l r'
    sound' = written_sound l u.within r sound m p i member new.fits fresh place

    six : SixMembers l r'
    six = written_six l m p i r (omega (arith, member, u.within.members_high)) (six_members l t.records j)

    its_slot : r'.slot ≡ i
    unfolding written
    its_slot = refl

    has_slot_lem : slotted (at j r' (record_at l t.records)) j ≡ true
    has_slot_lem = rw (at_same j r' (record_at l t.records), its_slot, ne_eqb i no_slot (omega (arith, place, u.within.partials_high)))

    others_slotted : (n : ℕ) → n ≢ j → slotted (at j r' (record_at l t.records)) n ≡ slotted (record_at l t.records) n
    others_slotted n d = rw (at_other j r' (record_at l t.records) n d)

    still_few : count_below S (slotted (at j r' (record_at l t.records))) ≤ M
    still_few =
        let before = slotted (record_at l t.records) in
        let after = slotted (at j r' (record_at l t.records)) in
        by_test (has_slot r)
        (λ b. omega (
          arith,
          k.sound.stripes.few,
          count_cong S after before (λ n h. elim (ℕ_discrete n j) [
            | yes e ↦ rw e (has_slot_lem ∙ sym b)
            | no d ↦ others_slotted n d
          ]),
        ))
        (λ b. omega (arith, few b, count_flip S before after j fits b has_slot_lem (λ n h d. sym (others_slotted n d))))

    write_sound : Sound l written_images
    write_sound =
        let y = page_at l t.chips in
        let main = main_stamped l u t k.sound j fits in
        let side = side_stamped l u t k.sound j fits in
        sound_stripe l u t k.sound j r' fits sound' six rest (λ _ n h d e. free n h (e ∙ its_slot))
        still_few (written_main l y j r main side m p i new.stamped) (written_side l y j r main side m p i)

    -- the slot holds what a write on t would put there
    new_partial_lem : partial_bytes l (page_at l s.chips) (slot_at l s.slots) j m xs (record_at l s.records j)
        ≡ partial_bytes l (page_at l t.chips) (slot_at l t.slots) j m xs r
    unfolding partial_bytes
    new_partial_lem =
        let same_record : record_at l s.records j ≡ r = ap (λ (x : List ℕ). record_at l x j) (sym same) in
        rw (same_record, chips)
        (by_test (has_slot r) (λ b. rw (b, (rw same_record at (k.memory j fits)) b)) (λ b. rw b))

    stripe_data : Data l t → StripeData l (page_at l t.chips) (slot_at l t.slots) j r'
    stripe_data d =
        write_data l u.within (page_at l t.chips) (pages_whole l t k.sound.chips) (slot_at l t.slots) j r sound (d j fits)
        m p i xs member page_there new.bytes whole (slot_at l t.slots) (partial ∙ new_partial_lem)

    new_current : (record_at l written_images.records j).current m ≡ p
    new_current = ap (λ (x : Record). x.current m) (stored_here l u t k.sound j fits r' sound' six) ∙ written_current l m p i r

    write_here : fetch l written_images no_chip page ≡ directly xs
    write_here =
        fetch_direct l u.within written_images page (rw new_current page_there)
        ∙ rw (new_current, stored_chips l u t k.sound j fits r' sound' six) (page_itself l (page_at l t.chips) (member_chip l j m) p page_there ∙ ap directly new.bytes)

    -- another page is of another stripe, or another member
    same_current : (q : ℕ) → q ≢ page
        → (record_at l written_images.records (stripe_of l q)).current (member_of l q) ≡ (record_at l t.records (stripe_of l q)).current (member_of l q)
    same_current q d = elim (ℕ_discrete (stripe_of l q) j) [
      | yes e ↦
          let other : member_of l q ≢ m = λ e'. d (sym (div-add-mod' q N) ∙ ap₂ (λ (a b : ℕ). a * N + b) e e' ∙ div-add-mod' page N) in
          rw e
          (ap (λ (x : Record). x.current (member_of l q)) (stored_here l u t k.sound j fits r' sound' six)
          ∙ written_current_other l m p i r (member_of l q) other)
      | no other ↦ ap (λ (x : Record). x.current (member_of l q)) (stored_other l u t k.sound j fits r' sound' six (stripe_of l q) other)
    ]

    -- the write is made, and nothing else is lost
    pub write_wrote : Wrote l page xs s written_images
    write_wrote =
        let kept = kept_carries l u s t k in
        record {
          sound = write_sound;
          copies = λ c. stored_copies l u t k.sound j fits r' sound' six rest;
          data_too = λ c d. let d' = kept.data_too c d in stored_data l u t k.sound j fits r' sound' six (stripe_data d') d';
          here = write_here;
          elsewhere = λ c q h d. stored_read l u t k.sound j fits r' sound' six q (same_current q d) ∙ kept.reads c q h;
        }
