-- A page that is fetched is as long as a page, so XORed into zeros it stands there.
use Prim.Native.Nat.{ℕ, ◌+◌, ◌<◌}
use native.Mathlib.Decide.{ℕ_discrete}
use native.Mathlib.Omega.{arith}
use mathlib.Core.Path.{◌≡◌, refl, ◌∙◌}
use mathlib.Core.Logic.{◌≢◌}
use mathlib.Core.Bool.{true, false}
use mathlib.Core.List.{List, []}
use lib.ListN.{length, replicate}
use lib.Dec.{eqb}
use borrow.Author.Tests.{eq-eqb, ne_eqb, eqb-false, not-true}
use Rattle.octets.proofs.Xors.{xor_nil_r, length_xors_left, xors_zeros_l}
use Rattle.ranges.proofs.Looks.{by_test}
use Rattle.ranges.proofs.Tests.{and_both}
use Rattle.layout.specs.Layout.{Layout, none, is_none, pages}
use Rattle.layout.specs.Rotation.{parity_chip, member_chip}
use Rattle.layout.specs.Page.{Page, page_at}
use Rattle.layout.specs.Record.{Record, bit, record_at}
use Rattle.layout.specs.Images.{Images, chips_length, slots_length, slot_at}
use Rattle.layout.proofs.Limits.{Within}
use Rattle.layout.proofs.Rotations.{parity_chip_fits, member_chip_fits}
use Rattle.rules.specs.declared.Role.TheVariants.{Current}
use Rattle.rules.specs.declared.Origin.TheVariants.{Unwritten, Direct}
use Rattle.rules.specs.Fetch.{itself, gathered, others_inside, others_under_parity, through_partial, through_parity, fetch_role, fetch_in}
use Rattle.rules.specs.Read.{fetch_member}
use Rattle.rules.proofs.Soundness.Statements.{RecordSound, sound_member}
use Rattle.rules.proofs.Data.Contents.{Whole, length_bytes, length_gathered, pages_whole, slot_whole, slot_bits, bit_slot}
use Rattle.rules.proofs.Data.Parity.{numbered_others_inside, numbered_others_under_parity}
use Rattle.fetch.specs.declared.Got.{Got}
use Rattle.fetch.specs.Into.{Into, is_direct}

module _ (l : Layout) (w : Within l) (y : ℕ → ℕ → Page) (whole : Whole l y) (z : ℕ → List ℕ) (slots : (i : ℕ) → i < l.M + 1 → length (z i) ≡ l.W)
    (j : ℕ) (r : Record) (s : RecordSound l r) (m : ℕ) (member : m < l.N) where
  open l use {W}

  partial_whole : bit r m ≡ true → length (through_partial l y z j r m).bytes ≡ W
  unfolding through_partial
  partial_whole t =
      let slot = slots r.slot (omega (arith, s.slot (slot_bits l r s (bit_slot l w r s m t)))) in
      let others = length_gathered l y j whole (others_inside l m r) (numbered_others_inside l w r s m) in
      length_xors_left (z r.slot) (gathered l y j (others_inside l m r)).bytes (omega arith) ∙ slot

  parity_whole : r.parity ≢ none l → length (through_parity l y z j r m).bytes ≡ W
  unfolding through_parity
  parity_whole d =
      let parity = length_bytes l y whole (parity_chip l j) r.parity (parity_chip_fits l j) s.parity d in
      let others = length_gathered l y j whole (others_under_parity l m r) (numbered_others_under_parity l w r s m) in
      length_xors_left (itself l y (parity_chip l j) r.parity).bytes (gathered l y j (others_under_parity l m r)).bytes (omega arith) ∙ parity

  current_whole : (lost : ℕ) → r.current m ≢ none l → length (fetch_role l y z j r lost (Current m)).bytes ≡ W
  unfolding fetch_role
  current_whole lost d =
      let here = sound_member l w r s m member in
      elim (ℕ_discrete (member_chip l j m) lost) [
        | yes e ↦
            rw (eq-eqb (member_chip l j m) lost e, ne_eqb (r.current m) (none l) d)
            (by_test (bit r m) (λ t. rw t (partial_whole t)) (λ t. rw t (parity_whole (here.parity_under_current d t))))
        | no e ↦ rw (ne_eqb (member_chip l j m) lost e) (length_bytes l y whole (member_chip l j m) (r.current m) (member_chip_fits l j m member) here.current d)
      ]

-- the read of a member
module _ (l : Layout) (w : Within l) (t : Images) (chips : length t.chips ≡ chips_length l) (slots : length t.slots ≡ slots_length l) (lost j m : ℕ) (member : m < l.N) where
  abbrev r : Record
  r = record_at l t.records j

  -- of no page nothing is fetched
  none_fetched : r.current m ≡ none l → fetch_role l (page_at l t.chips) (slot_at l t.slots) j r lost (Current m) ≡ record { bytes = []; reads = 0; origin = Unwritten }
  unfolding fetch_role itself
  none_fetched e =
      by_test (eqb (member_chip l j m) lost)
      (λ q. rw (q, e, eq-eqb (none l) (none l) refl))
      (λ q. rw (q, e, eq-eqb (none l) (none l) refl))

  pub read_is : RecordSound l r → {after : List ℕ} {got : Got} → Into (fetch_in l t lost j (Current m)) (replicate l.W 0) after got
      → record { bytes = after; reads = got.reads; origin = got.origin } ≡ fetch_member l t lost j m
  unfolding fetch_member fetch_in
  read_is s {after} {got} h =
      let y = page_at l t.chips in
      let z = slot_at l t.slots in
      elim (ℕ_discrete (r.current m) (none l)) [
        | yes e ↦ rw (eq-eqb (r.current m) (none l) e, h.bytes, h.reads, h.origin, none_fetched e, xor_nil_r (replicate l.W 0))
        | no d ↦
            let long = current_whole l w y (pages_whole l t chips) z (slot_whole l t slots) j r s m member lost d in
            rw (ne_eqb (r.current m) (none l) d, h.bytes, h.reads, h.origin, xors_zeros_l l.W (fetch_role l y z j r lost (Current m)).bytes (omega arith))
      ]

-- a member that is there, off its chip
module _ (l : Layout) (t : Images) (lost j m : ℕ) where
  told_direct : is_direct l (record_at l t.records j) lost j m ≡ true → (is_none l ((record_at l t.records j).current m) ≡ false) × (eqb (member_chip l j m) lost ≡ false)
  told_direct e = let h = and_both _ _ e in (not-true _ h.0, not-true _ h.1)

  pub direct_is : is_direct l (record_at l t.records j) lost j m ≡ true
      → record { bytes = (page_at l t.chips (member_chip l j m) ((record_at l t.records j).current m)).bytes; reads = 1; origin = Direct } ≡ fetch_member l t lost j m
  unfolding fetch_member fetch_in fetch_role itself
  direct_is e = let h = told_direct e in rw (h.0, h.1)

  pub direct_fits : Within l → RecordSound l (record_at l t.records j) → m < l.N → is_direct l (record_at l t.records j) lost j m ≡ true
      → (record_at l t.records j).current m < pages l
  direct_fits w s member e =
      (sound_member l w (record_at l t.records j) s m member).current (eqb-false ((record_at l t.records j).current m) (none l) (told_direct e).0)
