-- The records that a commit and a write store are sound, and the pages that they name are stamped.
use Prim.Native.Nat.{ℕ, ◌+◌, ◌≤◌, ◌<◌}
use native.Mathlib.Decide.{ℕ_discrete}
use native.Mathlib.Omega.{arith}
use mathlib.Core.Path.{◌≡◌, refl, ◌∙◌}
use mathlib.Core.Logic.{◌≢◌}
use mathlib.Core.Bool.{true}
use mathlib.Core.List.{List}
use lib.ListN.{length}
use lib.Pow.{pow_pos}
use Rattle.octets.specs.Xor.{◌⊕◌}
use Rattle.ranges.proofs.Looks.{by_test, both}
use Rattle.octets.proofs.Xors.{length_xors, length_xors_left}
use Rattle.layout.specs.Layout.{Layout, none, pages}
use Rattle.layout.specs.Rotation.{parity_chip, member_chip}
use Rattle.layout.specs.Page.{Page, page_at}
use Rattle.layout.specs.Record.{Record, bit, has_slot, record_at}
use Rattle.layout.specs.Images.{Images, slot_at}
use Rattle.layout.proofs.Limits.{Within}
use Rattle.layout.proofs.Bits.{set_bound, set_nonzero}
use Rattle.layout.proofs.Rotations.{parity_chip_fits, member_chip_fits}
use Rattle.layout.proofs.Records.{bits_of_none, SixMembers}
use Rattle.layout.proofs.Pages.{page_number_lem}
use Rattle.rules.specs.Names.{main_number, side_number}
use Rattle.rules.specs.Costs.{set_bits, most_in_partial}
use Rattle.rules.specs.Parity.{committed}
use Rattle.rules.specs.Partial.{written}
use Rattle.rules.proofs.Soundness.Statements.{Numbered, MemberSound, RecordSound, Stamped, Sound, sound_member}
use Rattle.rules.proofs.Stores.Names.{main_member, side_member, main_parity, side_parity, by_chip}
use Rattle.rules.proofs.Stores.Stays.{stays_same, member_same}
use Rattle.rules.proofs.Data.Contents.{numbered_none, length_bytes_most, length_gathered, pages_whole, slot_whole, slot_bits}
use Rattle.rules.proofs.Data.Parity.{written_bit, written_bit_other, written_current, written_current_other, written_old, written_old_other, numbered_outside, numbered_under_parity, numbered_old}
use Rattle.rules.specs.Fetch.{itself, gathered, under_parity}
use Rattle.rules.proofs.Data.Feeds.{current_outside, old_inside, parity_bytes, partial_bytes}

module _ (l : Layout) where
  open l use {N, W, S, M}

  -- what is stored has no numbers beyond the six members either
  pub committed_six : (p : ℕ) (r : Record) → SixMembers l r → SixMembers l (committed l p r)
  unfolding committed
  committed_six p r six m h = ((six m h).0, refl)

  pub written_six : (m p i : ℕ) (r : Record) → m < 6 → SixMembers l r → SixMembers l (written l m p i r)
  written_six m p i r h six k b =
      let d : k ≢ m = omega arith in
      (written_current_other l m p i r k d ∙ (six k b).0, written_old_other l m p i r k d ∙ (six k b).1)

  written_parity : (m p i : ℕ) (r : Record) → (written l m p i r).parity ≡ r.parity
  unfolding written
  written_parity m p i r = refl

  module _ (w : Within l) (r : Record) (f : RecordSound l r) where
    -- ---- commit

    module _ (p : ℕ) (page : p < pages l) where
      committed_member : (m : ℕ) → m < 6 → MemberSound l (committed l p r) m
      unfolding committed
      committed_member m h = record {
        current = (f.member m h).current;
        old = numbered_none l;
        beyond = λ b. (((f.member m h).beyond b).0, refl);
        old_under_bit_lem = λ d. absurd (d refl);
        current_under_bit_lem = λ t. both (bit (committed l p r) m) t (bits_of_none (committed l p r) refl m);
        parity_under_old = λ d. absurd (d refl);
        parity_under_current = λ d t. page_number_lem l w p page;
      }

      pub committed_sound : RecordSound l (committed l p r)
      unfolding committed
      committed_sound = record {
        member = committed_member;
        parity = λ d. page;
        bitmap = pow_pos N;
        no_slot_lem = λ e. refl;
        slot = λ d. absurd (d refl);
        rest = refl;
      }

    -- ---- write

    -- what the parity holds of a member needs a parity page
    under_parity_needs : (m : ℕ) → m < N → under_parity l r m ≢ none l → r.parity ≢ none l
    unfolding under_parity
    under_parity_needs m h =
        by_test (bit r m) (λ t. rw t (sound_member l w r f m h).parity_under_old) (λ t. rw t (λ d. (sound_member l w r f m h).parity_under_current d t))

    module _ (m p i : ℕ) (h : m < N) (page : p < pages l) (fresh : p ≢ under_parity l r m) where
      written_here : MemberSound l (written l m p i r) m
      written_here = record {
        current = rw (written_current l m p i r) (λ d. page);
        old = rw (written_old l m p i r) (numbered_under_parity l w r f m h);
        beyond = λ b. absurd (omega arith);
        old_under_bit_lem = λ d. written_bit l m p i r;
        current_under_bit_lem = λ t. rw (written_current l m p i r, written_old l m p i r) (page_number_lem l w p page, fresh);
        parity_under_old = rw (written_old l m p i r, written_parity m p i r) (under_parity_needs m h);
        parity_under_current = λ d t. both (bit (written l m p i r) m) (written_bit l m p i r) t;
      }

      written_member : (k : ℕ) → k < 6 → MemberSound l (written l m p i r) k
      written_member k b = elim (ℕ_discrete k m) [
        | yes e ↦ rw e written_here
        | no d ↦
            member_same l r (written l m p i r) k (written_bit_other l m p i r k d) (stays_same l f.parity (written_parity m p i r))
            (written_current_other l m p i r k d) (written_old_other l m p i r k d) (f.member k b)
      ]

      pub written_sound : i < M + 1 → RecordSound l (written l m p i r)
      unfolding written
      written_sound place = record {
        member = written_member;
        parity = f.parity;
        bitmap = set_bound r.bitmap m N f.bitmap h;
        no_slot_lem = λ e. absurd (set_nonzero r.bitmap m e);
        slot = λ d. omega arith;
        rest = refl;
      }

  -- ---- the pages that they name, where those of r are stamped

  -- on every chip: the page of a number
  abbrev pub StampedBy : (ℕ → ℕ → Page) → ℕ → (ℕ → ℕ) → Type 0
  StampedBy y j number = (c : ℕ) → c < N + 1 → number c ≢ none l → Stamped l (y c) c j (number c)

  module _ (y : ℕ → ℕ → Page) (j : ℕ) (r : Record)
      (main : StampedBy y j (λ c. main_number l c j r)) (side : StampedBy y j (λ c. side_number l c j r)) where
    abbrev Good : ℕ → ℕ → Type 0
    Good c p = p ≢ none l → Stamped l (y c) c j p

    good_parity : Good (parity_chip l j) r.parity
    good_parity = rw (main_parity l j r) at (main (parity_chip l j) (parity_chip_fits l j))

    good_current : (m : ℕ) → m < N → Good (member_chip l j m) (r.current m)
    good_current m h = rw (main_member l j m r) at (main (member_chip l j m) (member_chip_fits l j m h))

    good_old : (m : ℕ) → m < N → Good (member_chip l j m) (r.old m)
    good_old m h = rw (side_member l j m r) at (side (member_chip l j m) (member_chip_fits l j m h))

    good_under_parity : (m : ℕ) → m < N → Good (member_chip l j m) (under_parity l r m)
    unfolding under_parity
    good_under_parity m h = by_test (bit r m) (λ t. rw t (good_old m h)) (λ t. rw t (good_current m h))

    -- both numbers of another record, chip by chip
    stamped_main : (r' : Record) → Good (parity_chip l j) r'.parity → ((m : ℕ) → m < N → Good (member_chip l j m) (r'.current m))
        → StampedBy y j (λ c. main_number l c j r')
    stamped_main r' parity member c chip =
        by_chip l c j chip (λ e. rw (e, main_parity l j r') parity) (λ m h e. rw (e, main_member l j m r') (member m h))

    stamped_side : (r' : Record) → ((m : ℕ) → m < N → Good (member_chip l j m) (r'.old m)) → StampedBy y j (λ c. side_number l c j r')
    stamped_side r' member c chip =
        by_chip l c j chip (λ e. rw (e, side_parity l j r') (λ d. absurd (d refl))) (λ m h e. rw (e, side_member l j m r') (member m h))

    pub committed_main : (p : ℕ) → Stamped l (y (parity_chip l j)) (parity_chip l j) j p → StampedBy y j (λ c. main_number l c j (committed l p r))
    unfolding committed
    committed_main p new = stamped_main (committed l p r) (λ d. new) good_current

    pub committed_side : (p : ℕ) → StampedBy y j (λ c. side_number l c j (committed l p r))
    unfolding committed
    committed_side p = stamped_side (committed l p r) (λ m h d. absurd (d refl))

    module _ (m p i : ℕ) where
      pub written_main : Stamped l (y (member_chip l j m)) (member_chip l j m) j p → StampedBy y j (λ c. main_number l c j (written l m p i r))
      written_main new = stamped_main (written l m p i r) (rw (written_parity m p i r) good_parity) λ k h. elim (ℕ_discrete k m) [
        | yes e ↦ rw (e, written_current l m p i r) (λ d. new)
        | no d ↦ rw (written_current_other l m p i r k d) (good_current k h)
      ]

      pub written_side : StampedBy y j (λ c. side_number l c j (written l m p i r))
      written_side = stamped_side (written l m p i r) λ k h. elim (ℕ_discrete k m) [
        | yes e ↦ rw (e, written_old l m p i r) (good_under_parity m (rw e at h))
        | no d ↦ rw (written_old_other l m p i r k d) (good_old k h)
      ]

  -- ---- the bytes of a new parity and of a new partial parity

  module _ (w : Within l) (s : Images) (j : ℕ) (f : Sound l s) (fits : j < S) where
    abbrev r : Record
    r = record_at l s.records j

    abbrev y : ℕ → ℕ → Page
    y = page_at l s.chips

    sound : RecordSound l r
    sound = f.stripes.stripe j fits

    length_slot : has_slot r ≡ true → length (slot_at l s.slots r.slot) ≡ W
    length_slot t = slot_whole l s f.slots r.slot (omega (arith, sound.slot (slot_bits l r sound t)))

    short : (g : ℕ → ℕ) → ((m : ℕ) → m < N → Numbered l (g m)) → length (gathered l y j g).bytes ≤ W
    short = length_gathered l y j (pages_whole l s f.chips)

    -- both are W bytes long
    pub new_parity_length : has_slot r ≡ true → length (parity_bytes l y (slot_at l s.slots) j r) ≡ W
    unfolding parity_bytes
    new_parity_length t =
        let x = slot_at l s.slots r.slot in
        let parity = (itself l y (parity_chip l j) r.parity).bytes in
        let old = (gathered l y j (old_inside l r)).bytes in
        by_test (most_in_partial l.N (set_bits l r))
        (λ e. rw e (length_xors_left x (gathered l y j (current_outside l r)).bytes (omega (arith, length_slot t, short (current_outside l r) (numbered_outside l w r sound))) ∙ length_slot t))
        (λ e. rw e
        (length_xors_left x (parity ⊕ old)
        (omega (arith, length_slot t, length_xors parity old, short (old_inside l r) (numbered_old l w r sound), length_bytes_most l y (pages_whole l s f.chips) (parity_chip l j) r.parity (parity_chip_fits l j) sound.parity))
        ∙ length_slot t))

  pub new_partial_length : Within l → (s : Images) (j m : ℕ) (xs : List ℕ) → Sound l s → j < S → m < N → length xs ≡ W
      → length (partial_bytes l (page_at l s.chips) (slot_at l s.slots) j m xs (record_at l s.records j)) ≡ W
  unfolding partial_bytes
  new_partial_length w s j m xs f fits h long =
      let r = record_at l s.records j in
      let x = slot_at l s.slots r.slot in
      let page = (itself l (page_at l s.chips) (member_chip l j m) (r.current m)).bytes in
      let short =
      length_bytes_most l (page_at l s.chips) (pages_whole l s f.chips) (member_chip l j m) (r.current m) (member_chip_fits l j m h) (sound_member l w r (sound w s j f fits) m h).current in
      by_test (has_slot r)
      (λ t. by_test (bit r m)
      (λ b. rw (t, b) (omega (arith, length_xors (x ⊕ page) xs, length_xors x page, length_slot w s j f fits t, short, long)))
      (λ b. rw (t, b) (omega (arith, length_xors x xs, length_slot w s j f fits t, long))))
      (λ t. rw t long)
