-- The lowest free slot: it stays while every record keeps its slot; when a stripe gives its slot back, it is the lower of the two.
use Prim.Native.Nat.{ℕ, suc, ◌+◌, ◌≤◌, ◌<◌}
use native.Mathlib.Omega.{arith}
use mathlib.Core.Path.{◌≡◌, sym, ap, ◌∙◌}
use mathlib.Core.Logic.{◌≢◌}
use mathlib.Core.Bool.{true, false, not, cond}
use lib.Dec.{eqb, ltb}
use borrow.Author.Tests.{lt-ltb, le-ltb, ne_eqb, eqb-true, not-false}
use Rattle.std.specs.Prelude.{Some}
use Rattle.ranges.specs.Look.{count_below}
use Rattle.ranges.proofs.Looks.{by_test, by_order, by_three, by_same, some_cong, some_false, first_at, first_is, first_cong}
use Rattle.ranges.proofs.Counts.{count_cong}
use Rattle.layout.specs.Layout.{Layout}
use Rattle.layout.specs.Record.{Record, no_slot, slotted, slot_of}
use Rattle.layout.specs.Collection.{Collection}
use Rattle.layout.proofs.Limits.{Within}
use Rattle.rules.specs.Partial.{free_slot, lowest_free_slot}
use Rattle.rules.proofs.Soundness.Statements.{RecordsSound}
use Rattle.rules.proofs.Data.Contents.{slot_bits}

module _ (l : Layout) where
  open l use {S, M}

  pub free_stays : (r r' : ℕ → Record) → ((j : ℕ) → j < S → (r' j).slot ≡ (r j).slot) → lowest_free_slot l r' ≡ lowest_free_slot l r
  unfolding lowest_free_slot
  free_stays r r' same =
      first_cong (M + 1) (free_slot l r') (free_slot l r)
      (λ i h. ap not (some_cong S (slot_of r' i) (slot_of r i) (λ j low. rw (same j low))))

  -- stripe k has given its slot back, which no other has
  pub record Frees (r r' : ℕ → Record) (k : ℕ) : Type 0 where
    pub slot : (r k).slot ≤ M
    pub own : (j : ℕ) → j < S → j ≢ k → (r j).slot ≢ (r k).slot
    pub freed : (r' k).slot ≡ no_slot
    pub others : (j : ℕ) → j < S → j ≢ k → (r' j).slot ≡ (r j).slot

  -- so it is where the records are sound, k had a slot, and one record less has one
  module _ {r : ℕ → Record} (r' : ℕ → Record) {co : Collection} (f : RecordsSound l r co) (k : ℕ) (fits : k < S) (has : slotted r k ≡ true)
      (fewer : suc (count_below S (slotted r')) ≡ count_below S (slotted r)) (same : (j : ℕ) → j < S → j ≢ k → (r' j).slot ≡ (r j).slot) where
    has_none : slotted r' k ≡ false
    has_none =
        by_test (slotted r' k)
        (λ t. absurd (omega (arith, count_cong S (slotted r') (slotted r) (λ j low. by_same j k (λ q. rw (q, has) t) (λ d. rw (same j low d))))))
        (λ t. t)

    its_own : (j : ℕ) → j < S → j ≢ k → (r j).slot ≢ (r k).slot
    its_own j low d e =
        by_three j k
        (λ less. f.own j k less fits has e)
        (λ q. d q)
        (λ more. f.own k j more low (rw e has) (sym e))

    pub frees : Frees r r' k
    frees = record {
      slot = (f.stripe k fits).slot (slot_bits l (r k) (f.stripe k fits) has);
      own = its_own;
      freed = eqb-true (r' k).slot no_slot (not-false (eqb (r' k).slot no_slot) has_none);
      others = same;
    }

  module _ (w : Within l) {r r' : ℕ → Record} {k : ℕ} (h : Frees r r' k) where
    -- every other slot is free where it was
    free_other : (i : ℕ) → i < M + 1 → i ≢ (r k).slot → free_slot l r' i ≡ free_slot l r i
    free_other i low d =
        ap not (some_cong S (slot_of r' i) (slot_of r i) (λ j below. by_same j k
        (λ q. rw (q, h.freed, ne_eqb no_slot i (omega (arith, w.partials_high)), ne_eqb (r k).slot i (λ e. d (sym e))))
        (λ o. rw (h.others j below o))))

    free_now : free_slot l r' (r k).slot ≡ true
    free_now =
        ap not (some_false S (slot_of r' (r k).slot) (λ j below. by_same j k
        (λ q. rw (q, h.freed) (ne_eqb no_slot (r k).slot (omega (arith, h.slot, w.partials_high))))
        (λ o. ne_eqb (r' j).slot (r k).slot (λ e. h.own j below o (sym (h.others j below o) ∙ e)))))

    pub free_lowered : (i : ℕ) → lowest_free_slot l r ≡ Some i → lowest_free_slot l r' ≡ cond (ltb i (r k).slot) (Some i) (Some (r k).slot)
    unfolding lowest_free_slot
    free_lowered i e =
        let (low, t, before) = first_at (M + 1) (free_slot l r) i e in
        by_order i (r k).slot
        (λ less.
        rw (lt-ltb i (r k).slot less)
        (first_is (M + 1) (free_slot l r') i low (free_other i low (omega arith) ∙ t) (λ n below. free_other n (omega arith) (omega arith) ∙ before n below)))
        (λ more.
        rw (le-ltb i (r k).slot more)
        (first_is (M + 1) (free_slot l r') (r k).slot (omega (arith, h.slot)) free_now (λ n below. free_other n (omega arith) (omega arith) ∙ before n (omega arith))))
