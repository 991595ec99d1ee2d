-- What every cut of a call keeps, of all but a format: soundness, the copies of a collection, both XOR groups of every stripe, and what every page reads as.
use Prim.Native.Nat.{ℕ, ◌+◌, ◌*◌, ◌<◌}
use native.Mathlib.Decide.{ℕ_discrete}
use mathlib.Core.Path.{◌≡◌, refl, sym, ap, ◌∙◌}
use mathlib.Core.Logic.{◌≢◌}
use mathlib.Core.Bool.{true}
use mathlib.Core.List.{List}
use borrow.Author.Tests.{eq-eqb, eqb-true}
use Rattle.ranges.proofs.Looks.{by_test}
use Rattle.layout.specs.Layout.{Layout, no_chip, none}
use Rattle.layout.specs.Rotation.{parity_chip, member_chip, member_of, stripe_of}
use Rattle.layout.specs.Page.{Page, page_at}
use Rattle.layout.specs.Record.{Record, bit, has_slot, record_at}
use Rattle.layout.specs.Images.{Images, slot_at}
use Rattle.layout.proofs.Limits.{Within}
use Rattle.layout.proofs.Rotations.{parity_chip_fits, member_chip_fits, stripe_fits, page_chip_fits}
use Rattle.layout.proofs.Records.{same_bit, same_slotted}
use Rattle.rules.specs.Names.{main_number, side_number}
use Rattle.rules.specs.Fetch.{itself, under_parity}
use Rattle.rules.specs.Read.{fetch}
use Rattle.rules.proofs.Soundness.Statements.{Usable, Sound}
use Rattle.rules.proofs.Stores.Names.{main_member, side_member, main_parity}
use Rattle.rules.proofs.Stores.Kept.{CopiesOf, Same, Kept}
use Rattle.rules.proofs.Data.Contents.{current_inside, StripeData, Data, directly, page_itself, bytes_page, bytes_none, gathered_cong}
use Rattle.rules.proofs.Data.Rebuild.{fetch_unwritten, fetch_direct}
use Rattle.rules.proofs.Data.Feeds.{current_outside, old_inside, parity_bytes}

module _ (l : Layout) where
  open l use {N, S}

  -- nothing that is written is lost between s and t
  pub record Carries (s t : Images) : Type 0 where
    pub sound : Sound l t
    pub copies : CopiesOf l s → CopiesOf l t
    pub data_too : CopiesOf l s → Data l s → Data l t
    pub reads : CopiesOf l s → (i : ℕ) → i < N * S → fetch l t no_chip i ≡ fetch l s no_chip i

  -- t is s with the write of logical page p made
  pub record Wrote (p : ℕ) (xs : List ℕ) (s t : Images) : Type 0 where
    pub sound : Sound l t
    pub copies : CopiesOf l s → CopiesOf l t
    pub data_too : CopiesOf l s → Data l s → Data l t
    pub here : fetch l t no_chip p ≡ directly xs
    pub elsewhere : CopiesOf l s → (i : ℕ) → i < N * S → i ≢ p → fetch l t no_chip i ≡ fetch l s no_chip i

  -- nothing lost in no stores, and in one list of stores after another
  pub carries_refl : (s : Images) → Sound l s → Carries s s
  carries_refl s f = record { sound = f; copies = λ c. c; data_too = λ c d. d; reads = λ c i h. refl }

  pub carries_trans : (s t v : Images) → Carries s t → Carries t v → Carries s v
  carries_trans s t v a b = record {
    sound = b.sound;
    copies = λ c. b.copies (a.copies c);
    data_too = λ c d. b.data_too (a.copies c) (a.data_too c d);
    reads = λ c i h. b.reads (a.copies c) i h ∙ a.reads c i h;
  }

  pub carries_wrote : (p : ℕ) (xs : List ℕ) (s t v : Images) → Carries s t → Wrote p xs t v → Wrote p xs s v
  carries_wrote p xs s t v a b = record {
    sound = b.sound;
    copies = λ c. b.copies (a.copies c);
    data_too = λ c d. b.data_too (a.copies c) (a.data_too c d);
    here = b.here;
    elsewhere = λ c i h d. b.elsewhere (a.copies c) i h d ∙ a.reads c i h;
  }

  -- A stripe whose numbers name the same bytes as before: its groups.
  module _ (y y' : ℕ → ℕ → Page) (j : ℕ) (r r' : Record) (bits : r'.bitmap ≡ r.bitmap)
      (main : (c : ℕ) → c < N + 1 → (itself l y' c (main_number l c j r')).bytes ≡ (itself l y c (main_number l c j r)).bytes)
      (side : (c : ℕ) → c < N + 1 → (itself l y' c (side_number l c j r')).bytes ≡ (itself l y c (side_number l c j r)).bytes) where
    parity_kept : (itself l y' (parity_chip l j) r'.parity).bytes ≡ (itself l y (parity_chip l j) r.parity).bytes
    parity_kept = rw (main_parity l j r', main_parity l j r) at (main (parity_chip l j) (parity_chip_fits l j))

    module _ (m : ℕ) (h : m < N) where
      abbrev SameBytes : ℕ → ℕ → Type 0
      SameBytes p p' = (itself l y' (member_chip l j m) p').bytes ≡ (itself l y (member_chip l j m) p).bytes

      current_kept : SameBytes (r.current m) (r'.current m)
      current_kept = rw (main_member l j m r', main_member l j m r) at (main (member_chip l j m) (member_chip_fits l j m h))

      old_kept : SameBytes (r.old m) (r'.old m)
      old_kept = rw (side_member l j m r', side_member l j m r) at (side (member_chip l j m) (member_chip_fits l j m h))

      none_kept : SameBytes (none l) (none l)
      none_kept = bytes_none l y' (member_chip l j m) ∙ sym (bytes_none l y (member_chip l j m))

      inside_kept : SameBytes (current_inside l r m) (current_inside l r' m)
      unfolding current_inside
      inside_kept = rw (same_bit r r' bits m) (by_test (bit r m) (λ t. rw t current_kept) (λ t. rw t none_kept))

      outside_kept : SameBytes (current_outside l r m) (current_outside l r' m)
      unfolding current_outside
      outside_kept = rw (same_bit r r' bits m) (by_test (bit r m) (λ t. rw t none_kept) (λ t. rw t current_kept))

      old_inside_kept : SameBytes (old_inside l r m) (old_inside l r' m)
      unfolding old_inside
      old_inside_kept = rw (same_bit r r' bits m) (by_test (bit r m) (λ t. rw t old_kept) (λ t. rw t none_kept))

      under_parity_kept : SameBytes (under_parity l r m) (under_parity l r' m)
      unfolding under_parity
      under_parity_kept = rw (same_bit r r' bits m) (by_test (bit r m) (λ t. rw t old_kept) (λ t. rw t current_kept))

    module _ (z z' : ℕ → List ℕ) (slot : r'.slot ≡ r.slot) (memory : has_slot r ≡ true → z' r.slot ≡ z r.slot) where
      stripe_kept : StripeData l y z j r → StripeData l y' z' j r'
      stripe_kept d = record {
        partial = λ t.
            let had = sym (same_slotted r r' slot) ∙ t in
            ap z' slot
            ∙ memory had
            ∙ d.partial had
            ∙ sym (gathered_cong l y y' j (current_inside l r) (current_inside l r') inside_kept);
        parity = parity_kept ∙ d.parity ∙ sym (gathered_cong l y y' j (under_parity l r) (under_parity l r') under_parity_kept);
      }

  -- the parity that a commit works out of the same bytes
  pub new_parity_kept : (y y' : ℕ → ℕ → Page) (j : ℕ) (r : Record)
      → ((c : ℕ) → c < N + 1 → (itself l y' c (main_number l c j r)).bytes ≡ (itself l y c (main_number l c j r)).bytes)
      → ((c : ℕ) → c < N + 1 → (itself l y' c (side_number l c j r)).bytes ≡ (itself l y c (side_number l c j r)).bytes)
      → (z z' : ℕ → List ℕ) → z' r.slot ≡ z r.slot → parity_bytes l y' z' j r ≡ parity_bytes l y z j r
  unfolding parity_bytes
  new_parity_kept y y' j r main side z z' memory =
      rw (
        memory,
        gathered_cong l y y' j (current_outside l r) (current_outside l r) (outside_kept y y' j r r refl main side),
        gathered_cong l y y' j (old_inside l r) (old_inside l r) (old_inside_kept y y' j r r refl main side),
        parity_kept y y' j r r refl main side,
      )

  -- a number that names the same bytes as before
  same_itself : (y y' : ℕ → ℕ → Page) (c p p' : ℕ) → p ≢ none l → p' ≢ none l → (itself l y' c p').bytes ≡ (itself l y c p).bytes
      → itself l y' c p' ≡ itself l y c p
  same_itself y y' c p p' d d' e =
      page_itself l y' c p' d'
      ∙ ap directly (sym (bytes_page l y' c p' d') ∙ e ∙ bytes_page l y c p d)
      ∙ sym (page_itself l y c p d)

  -- a page whose number does
  pub same_read : Within l → (s t : Images) (i : ℕ)
      → Same l (page_at l s.chips) (page_at l t.chips) (member_chip l (stripe_of l i) (member_of l i))
      ((record_at l s.records (stripe_of l i)).current (member_of l i)) ((record_at l t.records (stripe_of l i)).current (member_of l i))
      → fetch l t no_chip i ≡ fetch l s no_chip i
  same_read w s t i same =
      let c = member_chip l (stripe_of l i) (member_of l i) in
      let p = (record_at l s.records (stripe_of l i)).current (member_of l i) in
      let p' = (record_at l t.records (stripe_of l i)).current (member_of l i) in
      elim (ℕ_discrete p (none l)) [
        | yes e ↦
            fetch_unwritten l t no_chip i (eqb-true p' (none l) (same.none_too ∙ eq-eqb p (none l) e)) ∙ sym (fetch_unwritten l s no_chip i e)
        | no d ↦
            let d' : p' ≢ none l = λ e. d (eqb-true p (none l) (sym same.none_too ∙ eq-eqb p' (none l) e)) in
            fetch_direct l w t i d' ∙ same_itself (page_at l s.chips) (page_at l t.chips) c p p' d d' same.bytes ∙ sym (fetch_direct l w s i d)
      ]

  -- what keeps every number's bytes keeps both groups and every read
  pub kept_carries : Usable l → (s t : Images) → Kept l s t → Carries s t
  kept_carries u s t k = record {
    sound = k.sound;
    copies = k.copies;
    data_too = λ c d j h.
        stripe_kept (page_at l s.chips) (page_at l t.chips) j (record_at l s.records j) (record_at l t.records j) (k.bitmap j h)
        (λ e b. (k.main c e j b h).bytes) (λ e b. (k.side c e j b h).bytes)
        (slot_at l s.slots) (slot_at l t.slots) (k.slot j h) (k.memory j h) (d j h);
    reads = λ c i h.
        let j = stripe_of l i in
        let m = member_of l i in
        same_read u.within s t i
        (rw (main_member l j m (record_at l s.records j), main_member l j m (record_at l t.records j))
        at (k.main c (member_chip l j m) j (page_chip_fits l u.within i) (stripe_fits l u.within i h)));
  }
