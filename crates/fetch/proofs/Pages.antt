-- The pages of a stripe XORed member by member, and what a fetch leaves.
use Prim.Native.Nat.{ℕ, ◌+◌, ◌≤◌, ◌<◌}
use native.Mathlib.Numerals.{add-one}
use native.Mathlib.Omega.{arith}
use mathlib.Core.Path.{◌≡◌, refl, sym, ap, ◌∙◌}
use mathlib.Core.Logic.{◌≢◌}
use mathlib.Core.Bool.{Bool, true}
use mathlib.Core.List.{List}
use lib.ListN.{length}
use lib.Dec.{eqb}
use borrow.Author.Tests.{eq-eqb, ne_eqb}
use Rattle.ranges.specs.Look.{sum_below}
use Rattle.octets.specs.Xor.{◌⊕◌, xor_below}
use Rattle.ranges.proofs.Looks.{by_test}
use Rattle.ranges.proofs.Sums.{sum_cong}
use Rattle.octets.proofs.Xors.{xors_assoc, xor_nil_r, xors_zeros_l, xor_below_cong}
use Rattle.layout.specs.declared.Geometry.{Geometry}
use Rattle.layout.specs.Layout.{Layout, layout_of, none}
use Rattle.layout.specs.Rotation.{member_chip}
use Rattle.layout.specs.Page.{Page, page_at}
use Rattle.layout.specs.Record.{Record, record_at}
use Rattle.layout.specs.Images.{Images, slot_at}
use Rattle.rules.specs.declared.Role.{Role}
use Rattle.rules.specs.declared.Origin.TheVariants.{Unwritten, Direct}
use Rattle.rules.specs.Fetch.{Fetched, itself, members_feed, gathered, chip_in, number_in, rebuilt, fetch_role, fetch_in}
use Rattle.fetch.specs.declared.Got.{Got}
use Rattle.fetch.specs.Into.{begun, Into}

-- ---- XOR over the members

-- a page XORed in as it stands: there is none, or there is one
module _ (l : Layout) (y : ℕ → ℕ → Page) (c p : ℕ) (before : List ℕ) where
  pub page_none : p ≡ none l → (before ≡ before ⊕ (itself l y c p).bytes) × (0 ≡ (itself l y c p).reads) × (0 ≤ 1)
  unfolding itself
  page_none e = rw (eq-eqb p (none l) e) (sym (xor_nil_r before), refl, omega arith)

  pub page_there : p ≢ none l → {after : List ℕ} → after ≡ before ⊕ (y c p).bytes → (after ≡ before ⊕ (itself l y c p).bytes) × (1 ≡ (itself l y c p).reads) × (1 ≤ 1)
  unfolding itself
  page_there d e = rw (ne_eqb p (none l) d) (e, refl, omega arith)

-- a page that is as long becomes the buffer, where that is taken for zeros
pub fresh_is : (fresh : Bool) (xs ys : List ℕ) {after : List ℕ} → fresh ≡ true → length ys ≡ length xs → after ≡ ys → after ≡ begun fresh xs ⊕ ys
fresh_is fresh xs ys t long e = rw t (e ∙ sym (xors_zeros_l (length xs) ys (omega arith)))

direct : (l : Layout) (y : ℕ → ℕ → Page) (c p : ℕ) → p ≢ none l → Direct ≡ (itself l y c p).origin
unfolding itself
direct l y c p d = rw (ne_eqb p (none l) d)

-- the page of each member, as it stands
abbrev page_of : Geometry → List ℕ → ℕ → (ℕ → ℕ) → ℕ → Fetched
page_of g chips j f m = itself (layout_of g) (page_at (layout_of g) chips) (member_chip (layout_of g) j m) (f m)

-- the pages f 0, f 1, .. of the first m members are in
pub record Gathered (g : Geometry) (chips : List ℕ) (j : ℕ) (f : ℕ → ℕ) (work₀ : List ℕ) (m : ℕ) (work : List ℕ) (reads : ℕ) : Type 0 where
  pub few : g.n ≤ 6
  pub within : m ≤ g.n
  pub long : length work ≡ g.w
  pub bytes : work ≡ work₀ ⊕ xor_below m (λ i. (page_of g chips j f i).bytes)
  pub counted : reads ≡ sum_below m (λ i. (page_of g chips j f i).reads)
  pub low : reads ≤ m

-- before the first member
pub gathered_none : (g : Geometry) (chips : List ℕ) (j : ℕ) (f : ℕ → ℕ) (work : List ℕ) → g.n ≤ 6 → length work ≡ g.w
    → Gathered g chips j f work 0 work 0
unfolding xor_below sum_below
gathered_none g chips j f work n w = record { few = n; within = omega arith; long = w; bytes = rw (xor_nil_r work); counted = refl; low = omega arith }

module _ {g : Geometry} {chips : List ℕ} {j : ℕ} {f : ℕ → ℕ} {work₀ : List ℕ} {m : ℕ} {work : List ℕ} {reads : ℕ} (s : Gathered g chips j f work₀ m work reads) where
  -- the page of the next member
  pub gathered_more : m < g.n → {c p r : ℕ} {after : List ℕ} → c ≡ member_chip (layout_of g) j m → p ≡ f m → length after ≡ length work
      → (after ≡ work ⊕ (itself (layout_of g) (page_at (layout_of g) chips) c p).bytes) × (r ≡ (itself (layout_of g) (page_at (layout_of g) chips) c p).reads) × (r ≤ 1)
      → Gathered g chips j f work₀ (m + 1) after (reads + r)
  unfolding xor_below sum_below
  gathered_more h {c} {p} {r} {after} chip number long (bytes, counted, few) =
      record {
        few = s.few;
        within = omega arith;
        long = long ∙ s.long;
        bytes = rw (add-one, bytes, chip, number, s.bytes) (xors_assoc work₀ (xor_below m (λ i. (page_of g chips j f i).bytes)) (page_of g chips j f m).bytes);
        counted = rw (add-one, counted, chip, number, s.counted);
        low = omega (arith, s.low);
      }

  -- all members
  pub gathered_all : g.n ≤ m
      → (work ≡ work₀ ⊕ (gathered (layout_of g) (page_at (layout_of g) chips) j f).bytes)
      × (reads ≡ (gathered (layout_of g) (page_at (layout_of g) chips) j f).reads)
      × (reads ≤ 6)
  unfolding gathered members_feed
  gathered_all h =
      let all : m ≡ g.n = omega arith in
      (rw all at s.bytes, rw all at s.counted, omega (arith, s.low, s.few))

-- the same numbers, the same pages
pub gathered_same : (l : Layout) (y : ℕ → ℕ → Page) (j : ℕ) (f f' : ℕ → ℕ) → ((i : ℕ) → i < l.N → f i ≡ f' i) → gathered l y j f ≡ gathered l y j f'
unfolding gathered members_feed
gathered_same l y j f f' h =
    rw (
      xor_below_cong l.N (λ m. (itself l y (member_chip l j m) (f m)).bytes) (λ m. (itself l y (member_chip l j m) (f' m)).bytes) (λ i b. ap (λ p. (itself l y (member_chip l j i) p).bytes) (h i b)),
      sum_cong l.N (λ m. (itself l y (member_chip l j m) (f m)).reads) (λ m. (itself l y (member_chip l j m) (f' m)).reads) (λ i b. ap (λ p. (itself l y (member_chip l j i) p).reads) (h i b)),
    )

-- ---- what a fetch leaves

-- the same page, into the same bytes
pub into_same : {x x' : Fetched} {b b' a : List ℕ} {g : Got} → x ≡ x' → b ≡ b' → Into x b a g → Into x' b' a g
into_same e q h = rw (← e, ← q) h

-- from a record that is the one of the images
pub fetched_from : (l : Layout) (s : Images) (lost j : ℕ) (role : Role) {r : Record} {b a : List ℕ} {g : Got} → r ≡ record_at l s.records j
    → Into (fetch_in l s lost j role) b a g → Into (fetch_role l (page_at l s.chips) (slot_at l s.slots) j r lost role) b a g
unfolding fetch_in
fetched_from l s lost j role e h = rw e h

-- x is a and then b
pub into_two : {x : Fetched} (a b : List ℕ) {before after : List ℕ} {r : Got} → x.bytes ≡ a ⊕ b → after ≡ before ⊕ a ⊕ b → r.reads ≡ x.reads → r.origin ≡ x.origin → r.reads ≤ 7
    → Into x before after r
into_two a b {before} e after reads origin few =
    record { bytes = rw (after, e) (xors_assoc before a b); reads = reads; origin = origin; few = few }

-- a fetch by its three ways
module _ (l : Layout) (y : ℕ → ℕ → Page) (z : ℕ → List ℕ) (j : ℕ) (r : Record) (lost : ℕ) (role : Role) where
  -- there is no page
  pub fetched_none : {before after : List ℕ} → number_in l r role ≡ none l → after ≡ before → Into (fetch_role l y z j r lost role) before after (record { reads = 0; origin = Unwritten })
  unfolding fetch_role itself
  fetched_none {before} e is =
      by_test (eqb (chip_in l j role) lost)
      (λ t. rw (t, e, eq-eqb (none l) (none l) refl) (record { bytes = is ∙ sym (xor_nil_r before); reads = refl; origin = refl; few = omega arith }))
      (λ t. rw (t, e, eq-eqb (none l) (none l) refl) (record { bytes = is ∙ sym (xor_nil_r before); reads = refl; origin = refl; few = omega arith }))

  module _ {before after : List ℕ} (there : number_in l r role ≢ none l) where
    -- its chip is lost
    pub fetched_lost : {g : Got} → chip_in l j role ≡ lost → Into (rebuilt l y z j r role) before after g → Into (fetch_role l y z j r lost role) before after g
    unfolding fetch_role
    fetched_lost e h = rw (eq-eqb (chip_in l j role) lost e, ne_eqb (number_in l r role) (none l) there) h

    -- or not
    pub fetched_direct : chip_in l j role ≢ lost → {c p n : ℕ} → c ≡ chip_in l j role → p ≡ number_in l r role
        → (after ≡ before ⊕ (itself l y c p).bytes) × (n ≡ (itself l y c p).reads) × (n ≤ 1)
        → Into (fetch_role l y z j r lost role) before after (record { reads = n; origin = Direct })
    unfolding fetch_role
    fetched_direct d {c} {p} chip number (bytes, reads, few) =
        rw (ne_eqb (chip_in l j role) lost d, ← chip, ← number)
        (record { bytes = bytes; reads = reads; origin = direct l y c p (λ e. there (sym number ∙ e)); few = omega arith })
