-- The two XOR groups of a stripe under a rebuilt read, a write and a commit.
use Prim.Native.Nat.{ℕ, ◌<◌}
use native.Mathlib.Decide.{ℕ_discrete}
use native.Mathlib.Omega.{arith}
use mathlib.Core.Path.{◌≡◌, refl, sym, ap, ◌∙◌}
use mathlib.Core.Logic.{◌≢◌}
use mathlib.Core.Bool.{true, false, not, ◌&&◌, and-true, and-false}
use mathlib.Core.List.{List}
use lib.ListN.{length}
use lib.Dec.{eqb}
use borrow.Author.Tests.{eq-eqb, ne_eqb}
use Rattle.octets.specs.Xor.{◌⊕◌}
use Rattle.ranges.proofs.Looks.{by_test, both}
use Rattle.ranges.proofs.Updates.{at_same, at_other}
use Rattle.octets.proofs.Xors.{xor_nil_l, xor_nil_r, cancel_around, cancel_inside, cancel_rest}
use Rattle.layout.specs.Layout.{Layout, none}
use Rattle.layout.specs.Rotation.{parity_chip, member_chip}
use Rattle.layout.specs.Page.{Page}
use Rattle.layout.specs.Record.{Record, bit, has_slot}
use Rattle.layout.proofs.Limits.{Within}
use Rattle.layout.proofs.Bits.{test_set_same, test_set_other}
use Rattle.layout.proofs.Rotations.{member_chip_fits}
use Rattle.layout.proofs.Records.{bits_of_none}
use Rattle.rules.specs.declared.Role.{Role}
use Rattle.rules.specs.declared.Role.TheVariants.{Current, Old, Parity}
use Rattle.rules.specs.Fetch.{itself, gathered, chip_in, number_in, under_parity, others_under_parity, others_inside, through_partial, through_parity, parity_anew, rebuilt}
use Rattle.rules.specs.Partial.{written}
use Rattle.rules.specs.Costs.{set_bits, most_in_partial}
use Rattle.rules.specs.Parity.{committed}
use Rattle.rules.proofs.Soundness.Statements.{Numbered, RecordSound, sound_member}
use Rattle.rules.proofs.Data.Contents.{current_inside, StripeData, Whole, bytes_none, bytes_page, numbered_none, numbered_cond, length_bytes, gathered_cong, gathered_same, gathered_none, gathered_one, gathered_split, length_gathered, gathered_whole, some_bit, bit_slot, no_slot_no_bit}
use Rattle.rules.proofs.Data.Feeds.{current_outside, old_inside, parity_bytes, partial_bytes}

-- ---- the record of a write

module _ (l : Layout) (m p i : ℕ) (r : Record) where
  pub written_bit : bit (written l m p i r) m ≡ true
  unfolding bit written
  written_bit = test_set_same r.bitmap m

  pub written_bit_other : (k : ℕ) → k ≢ m → bit (written l m p i r) k ≡ bit r k
  unfolding bit written
  written_bit_other k d = test_set_other r.bitmap m k d

  pub written_current : (written l m p i r).current m ≡ p
  unfolding written
  written_current = at_same m p r.current

  pub written_current_other : (k : ℕ) → k ≢ m → (written l m p i r).current k ≡ r.current k
  unfolding written
  written_current_other k d = at_other m p r.current k d

  -- the old page of the member is what the parity held of it
  pub written_old : (written l m p i r).old m ≡ under_parity l r m
  unfolding written under_parity
  written_old = by_test (bit r m) (λ t. rw t) (λ t. rw (t, at_same m (r.current m) r.old))

  pub written_old_other : (k : ℕ) → k ≢ m → (written l m p i r).old k ≡ r.old k
  unfolding written
  written_old_other k d = by_test (bit r m) (λ t. rw t) (λ t. rw (t, at_other m (r.current m) r.old k d))

  -- so the group under the parity does not change
  written_under_parity : (k : ℕ) → under_parity l (written l m p i r) k ≡ under_parity l r k
  unfolding under_parity
  written_under_parity k = elim (ℕ_discrete k m) [
    | yes e ↦ rw (e, written_bit) written_old
    | no d ↦ rw (written_bit_other k d, written_old_other k d, written_current_other k d)
  ]

  written_inside : current_inside l (written l m p i r) m ≡ p
  unfolding current_inside
  written_inside = rw written_bit written_current

  written_inside_other : (k : ℕ) → k ≢ m → others_inside l m r k ≡ current_inside l (written l m p i r) k
  unfolding current_inside others_inside
  written_inside_other k d =
      rw (ne_eqb k m d, and-true, written_bit_other k d, written_current_other k d)

-- ---- a member taken out of its group

module _ (l : Layout) (m : ℕ) (r : Record) where
  pub others_inside_here : others_inside l m r m ≡ none l
  unfolding others_inside
  others_inside_here = rw (eq-eqb m m refl, and-false)

  others_inside_other : (k : ℕ) → k ≢ m → others_inside l m r k ≡ current_inside l r k
  unfolding others_inside current_inside
  others_inside_other k d = rw (ne_eqb k m d, and-true)

  inside_set : bit r m ≡ true → current_inside l r m ≡ r.current m
  unfolding current_inside
  inside_set t = rw t

  inside_clear : bit r m ≡ false → current_inside l r m ≡ none l
  unfolding current_inside
  inside_clear t = rw t

  -- where its bit is clear, nothing is taken out
  others_inside_clear : bit r m ≡ false → (k : ℕ) → current_inside l r k ≡ others_inside l m r k
  others_inside_clear t k = elim (ℕ_discrete k m) [
    | yes e ↦ rw (e, others_inside_here) (inside_clear t)
    | no d ↦ sym (others_inside_other k d)
  ]

  under_parity_clear : bit r m ≡ false → under_parity l r m ≡ r.current m
  unfolding under_parity
  under_parity_clear t = rw t

  under_parity_set : bit r m ≡ true → under_parity l r m ≡ r.old m
  unfolding under_parity
  under_parity_set t = rw t

  pub under_parity_here : others_under_parity l m r m ≡ none l
  unfolding others_under_parity
  under_parity_here = rw (eq-eqb m m refl)

  under_parity_other : (k : ℕ) → k ≢ m → others_under_parity l m r k ≡ under_parity l r k
  unfolding others_under_parity
  under_parity_other k d = rw (ne_eqb k m d)

-- the record of a commit has every current page under the parity
committed_under_parity : (l : Layout) (p : ℕ) (r : Record) (m : ℕ) → under_parity l (committed l p r) m ≡ r.current m
unfolding committed
committed_under_parity l p r m = under_parity_clear l m (committed l p r) (bits_of_none (committed l p r) refl m)

-- ---- the numbers of a sound record are pages or none

module _ (l : Layout) (w : Within l) (r : Record) (f : RecordSound l r) where
  open l use {N}

  numbered_inside : (m : ℕ) → m < N → Numbered l (current_inside l r m)
  unfolding current_inside
  numbered_inside m h = numbered_cond l (bit r m) (r.current m) (none l) (sound_member l w r f m h).current (numbered_none l)

  pub numbered_outside : (m : ℕ) → m < N → Numbered l (current_outside l r m)
  unfolding current_outside
  numbered_outside m h = numbered_cond l (bit r m) (none l) (r.current m) (numbered_none l) (sound_member l w r f m h).current

  pub numbered_under_parity : (m : ℕ) → m < N → Numbered l (under_parity l r m)
  unfolding under_parity
  numbered_under_parity m h = numbered_cond l (bit r m) (r.old m) (r.current m) (sound_member l w r f m h).old (sound_member l w r f m h).current

  pub numbered_old : (m : ℕ) → m < N → Numbered l (old_inside l r m)
  unfolding old_inside
  numbered_old m h = numbered_cond l (bit r m) (r.old m) (none l) (sound_member l w r f m h).old (numbered_none l)

  pub numbered_others_inside : (m k : ℕ) → k < N → Numbered l (others_inside l m r k)
  unfolding others_inside
  numbered_others_inside m k h =
      numbered_cond l (bit r k && not (eqb k m)) (r.current k) (none l) (sound_member l w r f k h).current (numbered_none l)

  pub numbered_others_under_parity : (m k : ℕ) → k < N → Numbered l (others_under_parity l m r k)
  unfolding others_under_parity
  numbered_others_under_parity m k h =
      numbered_cond l (eqb k m) (none l) (under_parity l r k) (numbered_none l) (numbered_under_parity k h)

-- ---- the groups together

module _ (l : Layout) (y : ℕ → ℕ → Page) (j : ℕ) (r : Record) where
  inside_outside : (gathered l y j (current_inside l r)).bytes ⊕ (gathered l y j (current_outside l r)).bytes ≡ (gathered l y j r.current).bytes
  unfolding current_inside current_outside
  inside_outside =
      gathered_split l y j (current_inside l r) (current_outside l r) r.current
      (λ m h. by_test (bit r m)
      (λ t. rw (t, bytes_none l y (member_chip l j m)) (xor_nil_r (itself l y (member_chip l j m) (r.current m)).bytes))
      (λ t. rw (t, bytes_none l y (member_chip l j m)) (xor_nil_l (itself l y (member_chip l j m) (r.current m)).bytes)))

  old_outside : (gathered l y j (old_inside l r)).bytes ⊕ (gathered l y j (current_outside l r)).bytes ≡ (gathered l y j (under_parity l r)).bytes
  unfolding old_inside current_outside under_parity
  old_outside =
      gathered_split l y j (old_inside l r) (current_outside l r) (under_parity l r)
      (λ m h. by_test (bit r m)
      (λ t. rw (t, bytes_none l y (member_chip l j m)) (xor_nil_r (itself l y (member_chip l j m) (r.old m)).bytes))
      (λ t. rw (t, bytes_none l y (member_chip l j m)) (xor_nil_l (itself l y (member_chip l j m) (r.current m)).bytes)))

-- ---- one stripe

-- the member of a role is one of the N
abbrev pub MemberIn : Layout → Role → Type 0
MemberIn l (Current m) = m < l.N
MemberIn l (Old m) = m < l.N
MemberIn l Parity = Unit

module _ (l : Layout) (w : Within l) (y : ℕ → ℕ → Page) (whole : Whole l y) (z : ℕ → List ℕ) (j : ℕ) (r : Record) (f : RecordSound l r) (d : StripeData l y z j r) where
  open l use {N, W}

  page_whole : (m : ℕ) → m < N → r.current m ≢ none l → length (itself l y (member_chip l j m) (r.current m)).bytes ≡ W
  page_whole m h e =
      length_bytes l y whole (member_chip l j m) (r.current m) (member_chip_fits l j m h) (sound_member l w r f m h).current e

  -- the group of the slot, and the group of the parity, with one member taken out
  partial_one : (m : ℕ) → m < N → bit r m ≡ true
      → z r.slot ≡ (gathered l y j (others_inside l m r)).bytes ⊕ (itself l y (member_chip l j m) (r.current m)).bytes
  partial_one m h t =
      d.partial (bit_slot l w r f m t)
      ∙ gathered_one l y j (others_inside l m r) (current_inside l r) m h (others_inside_here l m r) (λ k b. others_inside_other l m r k)
      ∙ ap (λ p. (gathered l y j (others_inside l m r)).bytes ⊕ (itself l y (member_chip l j m) p).bytes) (inside_set l m r t)

  parity_one : (m : ℕ) → m < N
      → (itself l y (parity_chip l j) r.parity).bytes ≡ (gathered l y j (others_under_parity l m r)).bytes ⊕ (itself l y (member_chip l j m) (under_parity l r m)).bytes
  parity_one m h =
      d.parity
      ∙ gathered_one l y j (others_under_parity l m r) (under_parity l r) m h (under_parity_here l m r) (λ k b. under_parity_other l m r k)

  -- the group without a page gives the bytes of that page
  rebuilt_inside : (m : ℕ) → m < N → bit r m ≡ true → (through_partial l y z j r m).bytes ≡ (itself l y (member_chip l j m) (r.current m)).bytes
  unfolding through_partial
  rebuilt_inside m h t =
      cancel_rest (z r.slot) (gathered l y j (others_inside l m r)).bytes (itself l y (member_chip l j m) (r.current m)).bytes (partial_one m h t)
      (omega (arith, page_whole m h ((sound_member l w r f m h).current_under_bit_lem t).0, length_gathered l y j whole (others_inside l m r) (numbered_others_inside l w r f m)))

  rebuilt_under : (m : ℕ) → m < N → under_parity l r m ≢ none l → (through_parity l y z j r m).bytes ≡ (itself l y (member_chip l j m) (under_parity l r m)).bytes
  unfolding through_parity
  rebuilt_under m h page =
      cancel_rest (itself l y (parity_chip l j) r.parity).bytes (gathered l y j (others_under_parity l m r)).bytes (itself l y (member_chip l j m) (under_parity l r m)).bytes
      (parity_one m h)
      (omega (
        arith,
        length_bytes l y whole (member_chip l j m) (under_parity l r m) (member_chip_fits l j m h) (numbered_under_parity l w r f m h) page,
        length_gathered l y j whole (others_under_parity l m r) (numbered_others_under_parity l w r f m),
      ))

  rebuilt_parity : (parity_anew l y z j r).bytes ≡ (itself l y (parity_chip l j) r.parity).bytes
  unfolding parity_anew
  rebuilt_parity = sym d.parity

  -- a page in any role that is rebuilt is that page
  pub rebuilt_right : (role : Role) → MemberIn l role → number_in l r role ≢ none l
      → (rebuilt l y z j r role).bytes ≡ (itself l y (chip_in l j role) (number_in l r role)).bytes
  rebuilt_right (Current m) h page =
      by_test (bit r m)
      (λ t. rw t (rebuilt_inside m h t))
      (λ t. rw t (rw (under_parity_clear l m r t) at (rebuilt_under m h (rw (under_parity_clear l m r t) page))))
  rebuilt_right (Old m) h page =
      let t = (sound_member l w r f m h).old_under_bit_lem page in
      rw (under_parity_set l m r t) at (rebuilt_under m h (rw (under_parity_set l m r t) page))
  rebuilt_right Parity h page = rebuilt_parity

  -- ---- write

  no_others : (m : ℕ) → has_slot r ≡ false → (k : ℕ) → others_inside l m r k ≡ none l
  unfolding others_inside
  no_others m s k = rw (no_slot_no_bit l w r f s k)

  after_write : (m p i : ℕ) (xs : List ℕ) → m < N → p ≢ none l → (y (member_chip l j m) p).bytes ≡ xs
      → (gathered l y j (current_inside l (written l m p i r))).bytes ≡ (gathered l y j (others_inside l m r)).bytes ⊕ xs
  after_write m p i xs h page e =
      gathered_one l y j (others_inside l m r) (current_inside l (written l m p i r)) m h (others_inside_here l m r) (λ k b. written_inside_other l m p i r k)
      ∙ ap (λ q. (gathered l y j (others_inside l m r)).bytes ⊕ (itself l y (member_chip l j m) q).bytes) (written_inside l m p i r)
      ∙ ap (λ q. (gathered l y j (others_inside l m r)).bytes ⊕ q) (bytes_page l y (member_chip l j m) p page ∙ e)

  -- the partial of a write is the data and the other pages of the bitmap
  partial_written : (m : ℕ) (xs : List ℕ) → m < N → length xs ≡ W
      → partial_bytes l y z j m xs r ≡ (gathered l y j (others_inside l m r)).bytes ⊕ xs
  unfolding partial_bytes
  partial_written m xs h long =
      by_test (has_slot r)
      (λ s. by_test (bit r m)
      (λ t. rw (s, t, partial_one m h t)
      (cancel_inside (gathered l y j (others_inside l m r)).bytes (itself l y (member_chip l j m) (r.current m)).bytes xs
      (omega (arith, page_whole m h ((sound_member l w r f m h).current_under_bit_lem t).0))))
      (λ t. rw (s, t, d.partial s, gathered_same l y j (others_inside l m r) (current_inside l r) (λ k b. others_inside_clear l m r t k))))
      (λ s. rw (s, gathered_none l y j (others_inside l m r) (λ k b. no_others m s k)) (sym (xor_nil_l xs)))

  -- after the write both groups are right
  pub write_data : (m p i : ℕ) (xs : List ℕ) → m < N → p ≢ none l → (y (member_chip l j m) p).bytes ≡ xs → length xs ≡ W → (z' : ℕ → List ℕ)
      → z' i ≡ partial_bytes l y z j m xs r → StripeData l y z' j (written l m p i r)
  unfolding written
  write_data m p i xs h page e long z' q = record {
    partial = λ t. q ∙ partial_written m xs h long ∙ sym (after_write m p i xs h page e);
    parity = d.parity ∙ sym (gathered_same l y j (under_parity l r) (under_parity l (written l m p i r)) (λ k b. written_under_parity l m p i r k));
  }

  -- ---- commit

  partial_whole : has_slot r ≡ true → length (z r.slot) ≡ W
  partial_whole s =
      let (m, h, t) = some_bit l r f s in
      ap length (d.partial s)
      ∙ gathered_whole l y j whole (current_inside l r) (numbered_inside l w r f) m h
      (rw (inside_set l m r t) ((sound_member l w r f m h).current_under_bit_lem t).0)

  -- both formulas give the XOR of all current pages
  new_parity_is : has_slot r ≡ true → parity_bytes l y z j r ≡ (gathered l y j r.current).bytes
  unfolding parity_bytes
  new_parity_is s =
      let all = ap (λ x. x ⊕ (gathered l y j (current_outside l r)).bytes) (d.partial s) ∙ inside_outside l y j r in
      by_test (most_in_partial l.N (set_bits l r))
      (λ t. rw t all)
      (λ t. rw (t, d.parity, ← old_outside l y j r)
      (cancel_around (z r.slot) (gathered l y j (old_inside l r)).bytes (gathered l y j (current_outside l r)).bytes
      (omega (arith, partial_whole s, length_gathered l y j whole (old_inside l r) (numbered_old l w r f)))
      ∙ all))

  -- after the commit both groups are right
  pub commit_data : (p : ℕ) → p ≢ none l → has_slot r ≡ true → (y' : ℕ → ℕ → Page)
      → (y' (parity_chip l j) p).bytes ≡ parity_bytes l y z j r
      → ((m : ℕ) → m < N → (itself l y' (member_chip l j m) (r.current m)).bytes ≡ (itself l y (member_chip l j m) (r.current m)).bytes)
      → (z' : ℕ → List ℕ) → StripeData l y' z' j (committed l p r)
  unfolding committed
  commit_data p page s y' e same z' = record {
    partial = λ t. both false t refl;
    parity =
        bytes_page l y' (parity_chip l j) p page
        ∙ e
        ∙ new_parity_is s
        ∙ sym
        (gathered_cong l y y' j r.current (under_parity l (committed l p r))
        (λ m h. ap (λ q. (itself l y' (member_chip l j m) q).bytes) (committed_under_parity l p r m) ∙ same m h));
  }
