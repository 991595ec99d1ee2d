-- The members gathered one by one, and the new parity by its two ways.
use Prim.Native.Nat.{ℕ, ◌+◌, ◌*◌, ◌≤◌, ◌<◌}
use native.Mathlib.Nat.{zero-add}
use native.Mathlib.Numerals.{add-one}
use native.Mathlib.Omega.{arith}
use mathlib.Core.Path.{◌≡◌, refl, sym, ap, ◌∙◌}
use mathlib.Core.Bool.{Bool, true, false, not, cond, beq}
use mathlib.Core.List.{List, []}
use lib.ListN.{length}
use Rattle.ranges.specs.Look.{sum_below}
use Rattle.ranges.proofs.Looks.{by_test}
use Rattle.ranges.proofs.Counts.{count_le}
use Rattle.octets.specs.Xor.{◌⊕◌, xor_below}
use Rattle.octets.proofs.Xors.{xor_nil_r, xors_assoc}
use Rattle.layout.specs.declared.Geometry.{Geometry}
use Rattle.layout.specs.Layout.{Layout, layout_of, no_chip}
use Rattle.layout.specs.Page.{page_at}
use Rattle.layout.specs.Record.{Record, bit}
use Rattle.layout.specs.Images.{slot_at}
use Rattle.layout.proofs.Limits.{Within}
use Rattle.layout.proofs.Bits.{test_bit}
use Rattle.rules.specs.declared.Role.TheVariants.{Parity}
use Rattle.rules.specs.Costs.{set_bits, most_in_partial, cost_of}
use Rattle.rules.specs.Fetch.{fetch_role, members_feed}
use Rattle.rules.specs.Parity.{new_parity}
use Rattle.rules.proofs.Data.Feeds.{parity_fed}
use Rattle.rules.proofs.Data.Costs.{commit_reads}
use Rattle.steps.specs.Allowance.{most_reads}
use Rattle.codec.specs.declared.StripeRecord.{StripeRecord}
use Rattle.codec.specs.Views.{record_from}
use Rattle.fetch.specs.declared.Got.{Got}
use Rattle.fetch.specs.Into.{RoleFits, Into}
use Rattle.parity.specs.Members.{member_role, member_in, page_in, members_in, parity_in}

-- ---- members

-- the code's test of a bit
same_test : (b inside : Bool) → cond inside b (not b) ≡ beq b inside
same_test true true = refl
same_test true false = refl
same_test false true = refl
same_test false false = refl

-- the member of a role
pub member_fits : (g : Geometry) (inside : Bool) (m : ℕ) → m < g.n → RoleFits g (member_role inside m)
member_fits g true m h = h
member_fits g false m h = h

module _ (g : Geometry) (chips slots : List ℕ) (j : ℕ) (e : StripeRecord) (inside : Bool) (work₀ : List ℕ) where
  -- of the first m members those that belong are in
  pub record Members (m : ℕ) (work : List ℕ) (reads : ℕ) : Type 0 where
    pub few : g.n ≤ 6
    pub within : m ≤ g.n
    pub long : length work ≡ g.w
    pub bytes : work ≡ work₀ ⊕ xor_below m (λ i. cond (member_in g chips slots j e inside i) (page_in g chips slots j e (member_role inside i)).bytes [])
    pub counted : reads ≡ sum_below m (λ i. cond (member_in g chips slots j e inside i) (page_in g chips slots j e (member_role inside i)).reads 0)
    pub low : reads ≤ 7 * m

  pub members_none : g.n ≤ 6 → length work₀ ≡ g.w → Members 0 work₀ 0
  unfolding xor_below sum_below
  members_none few w = record { few = few; within = omega arith; long = w; bytes = rw (xor_nil_r work₀); counted = refl; low = omega arith }

module _ {g : Geometry} {chips slots : List ℕ} {j : ℕ} {e : StripeRecord} {inside : Bool} {work₀ : List ℕ} {m : ℕ} {work : List ℕ} {reads : ℕ}
    (s : Members g chips slots j e inside work₀ m work reads) (b : Bool) (is : b ≡ test_bit e.bitmap m) (h : m < g.n) where
  test_is : member_in g chips slots j e inside m ≡ beq b inside
  unfolding record_from bit
  test_is = rw is (same_test (test_bit e.bitmap m) inside)

  -- the next one belongs
  pub members_more : beq b inside ≡ true → {after : List ℕ} {got : Got} → length after ≡ length work
      → Into (fetch_role (layout_of g) (page_at (layout_of g) chips) (slot_at (layout_of g) slots) j (record_from (layout_of g) e) no_chip (member_role inside m)) work after got
      → Members g chips slots j e inside work₀ (m + 1) after (reads + got.reads)
  unfolding xor_below sum_below
  members_more t same into =
      record {
        few = s.few;
        within = omega arith;
        long = same ∙ s.long;
        bytes = rw (add-one, test_is ∙ t, into.bytes, s.bytes) (xors_assoc work₀ _ _);
        counted = rw (add-one, test_is ∙ t, into.reads, s.counted);
        low = omega (arith, s.low, into.few);
      }

  -- or not
  pub members_skip : beq b inside ≡ false → Members g chips slots j e inside work₀ (m + 1) work reads
  unfolding xor_below sum_below
  members_skip t =
      record {
        few = s.few;
        within = omega arith;
        long = s.long;
        bytes = rw (add-one, test_is ∙ t, xor_nil_r) s.bytes;
        counted = rw (add-one, test_is ∙ t) (omega (arith, s.counted));
        low = omega (arith, s.low);
      }

-- all of them
pub members_all : {g : Geometry} {chips slots : List ℕ} {j : ℕ} {e : StripeRecord} {inside : Bool} {work₀ : List ℕ} {m : ℕ} {work : List ℕ} {reads : ℕ}
    → Members g chips slots j e inside work₀ m work reads → g.n ≤ m
    → (work ≡ work₀ ⊕ (members_in g chips slots j e inside).bytes) × (reads ≡ (members_in g chips slots j e inside).reads) × (reads ≤ 42)
unfolding members_feed
members_all {g} {m} s h =
    let all : m ≡ g.n = omega (arith, s.within) in
    (rw all at s.bytes, rw all at s.counted, omega (arith, s.low, s.few, s.within))

-- ---- the new parity

-- whether most of the members are in the partial parity, as the code asks it
pub most_told : (l : Layout) (e : StripeRecord) {bits : ℕ} {most : Bool} → bits ≡ set_bits l (record_from l e) → most ≡ most_in_partial l.N bits
    → most_in_partial l.N (set_bits l (record_from l e)) ≡ most
most_told l e bits told = sym (told ∙ ap (most_in_partial l.N) bits)

module _ (g : Geometry) (w : Within (layout_of g)) (chips slots : List ℕ) (j : ℕ) (e : StripeRecord) where
  abbrev l : Layout
  l = layout_of g

  abbrev r : Record
  r = record_from l e

  cost_few : cost_of l.N (set_bits l r) ≤ most_reads
  unfolding cost_of set_bits
  cost_few =
      let few = count_le g.n (bit r) in
      by_test (most_in_partial l.N (set_bits l r)) (λ t. rw t (omega (arith, w.members_high))) (λ t. rw t (omega (arith, w.members_high)))

  parity_few : (parity_in g chips slots j e).reads ≤ most_reads
  parity_few = rw (parity_fed l w (page_at l chips) (slot_at l slots) j r) (omega (arith, commit_reads l r, cost_few))

  abbrev IsParity : List ℕ → ℕ → Type 0
  IsParity xs reads = (xs ≡ (parity_in g chips slots j e).bytes) × (reads ≡ (parity_in g chips slots j e).reads) × (reads ≤ most_reads)

  -- it is of these bytes and reads
  is_parity : {xs : List ℕ} {reads : ℕ} → xs ≡ (parity_in g chips slots j e).bytes → reads ≡ (parity_in g chips slots j e).reads → IsParity xs reads
  is_parity b c = (b, c, rw c parity_few)

  module _ {before : List ℕ} (slot : before ≡ slot_at l slots r.slot) where
    -- "partial ⊕ pages not in the bitmap"
    pub parity_outside : most_in_partial l.N (set_bits l r) ≡ true → {after : List ℕ} {reads : ℕ}
        → after ≡ before ⊕ (members_in g chips slots j e false).bytes → reads ≡ (members_in g chips slots j e false).reads → IsParity after reads
    unfolding new_parity
    parity_outside t bytes reads = is_parity (rw (t, bytes, slot)) (rw (t, reads, zero-add))

    -- "partial ⊕ old parity ⊕ old pages of the bitmap"
    pub parity_inside : most_in_partial l.N (set_bits l r) ≡ false → {work after : List ℕ} {got : Got} {reads : ℕ}
        → Into (fetch_role l (page_at l chips) (slot_at l slots) j r no_chip Parity) before work got
        → after ≡ work ⊕ (members_in g chips slots j e true).bytes → reads ≡ (members_in g chips slots j e true).reads → IsParity after (got.reads + reads)
    unfolding new_parity
    parity_inside t into bytes reads = is_parity (rw (t, bytes, into.bytes, slot) (xors_assoc _ _ _)) (rw (t, into.reads, reads, zero-add))
