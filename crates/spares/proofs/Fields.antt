-- Where the record of a stripe has the number of a page, found from the page's tag; and the test of the page by that number.
use Prim.Native.Nat.{ℕ, ◌+◌, ◌-◌, ◌%◌, ◌≤◌, ◌<◌}
use native.Mathlib.Omega.{arith}
use mathlib.Core.Path.{◌≡◌, refl}
use mathlib.Core.Logic.{◌≢◌}
use mathlib.Core.Bool.{Bool, true, false, ◌&&◌, and-true, and-false}
use mathlib.Core.List.{List}
use lib.ListN.{get_or}
use lib.Dec.{eqb, ltb}
use borrow.Author.Tests.{eq-eqb, ne_eqb, eqb-true, ltb-true, lt-ltb, le-ltb}
use Rattle.ranges.proofs.Looks.{by_test, by_same, by_order}
use Rattle.ranges.proofs.Tests.{and_both, both_and}
use Rattle.ranges.proofs.Tallies.{same_tests}
use Rattle.layout.specs.declared.Geometry.{Geometry}
use Rattle.layout.specs.Layout.{Layout, layout_of, limits, none}
use Rattle.layout.specs.Rotation.{parity_chip, member_on}
use Rattle.layout.specs.Page.{Page}
use Rattle.layout.specs.Record.{record_at}
use Rattle.layout.proofs.Limits.{within}
use Rattle.rules.specs.Names.{main_number, side_number, kind_on, member_byte, names}
use Rattle.names.specs.Stamps.{by_stamp}
use Rattle.codec.specs.Scan.{TagIs, tag_of, number_of}
use Rattle.spares.specs.Scans.{has_number, tag_on, field_on, field_of, FieldFits, FieldsOf, FieldsFit}

-- ---- the tag and the field of chip c's page of stripe j

module _ (l : Layout) (c j : ℕ) where
  -- the parity's chip, with the width of a stripe
  pub parity_is : {width : ℕ} → width ≡ l.N + 1 → width - 1 - j % width ≡ parity_chip l j
  unfolding parity_chip
  parity_is e = let is : l.N + 1 - 1 ≡ l.N = omega arith in rw (e, is)

  -- on the chip of the parity
  pub parity_field : c ≡ parity_chip l j → (tag_of 80 0 ≡ tag_on l c j) × (12 ≡ field_on l c j)
  unfolding field_on kind_on member_byte
  parity_field e = rw (eq-eqb c (parity_chip l j) e) (refl, refl)

  -- on that of member m
  pub member_field : (m : ℕ) → c ≢ parity_chip l j → m ≡ member_on l j c → (tag_of 68 m ≡ tag_on l c j) × (m ≡ field_on l c j)
  unfolding field_on kind_on member_byte
  member_field m d e = rw (ne_eqb c (parity_chip l j) d, ← e) (refl, refl)

  kind_low : kind_on l c j < 256
  unfolding kind_on
  kind_low = by_test (eqb c (parity_chip l j)) (λ e. rw e (omega arith)) (λ e. rw e (omega arith))

  -- a chip has one of six members
  member_low : c ≤ l.N → l.N ≤ 6 → c ≢ parity_chip l j → member_on l j c < 6
  unfolding member_on parity_chip
  member_low low few d = by_order c (parity_chip l j) (λ h. rw (lt-ltb c (parity_chip l j) h) (omega arith)) (λ h. rw (le-ltb c (parity_chip l j) h) (omega arith))

-- ---- a page of chip c with tag t and stripe j

module _ (l : Layout) (c t j : ℕ) where
  open l use {N, S}

  -- where the tag is not right or there is no such stripe
  pub no_field : eqb t (tag_on l c j) && ltb j S ≡ false → 255 ≡ field_of l c t j
  unfolding field_of
  no_field e = rw e

  -- where it is
  pub own_field : eqb t (tag_on l c j) && ltb j S ≡ true → field_on l c j ≡ field_of l c t j
  unfolding field_of
  own_field e = rw e

  -- a field is the parity's or a member's
  module _ (low : c ≤ N) (few : N ≤ 6) where
    on_low : (field_on l c j ≤ 12) × (field_on l c j ≢ 12 → field_on l c j < 6)
    on_low = by_same c (parity_chip l j)
        (λ e. rw (← (parity_field l c j e).1) (omega arith, λ d. absurd (d refl)))
        (λ d. let six = member_low l c j low few d in rw (← (member_field l c j (member_on l j c) d refl).1) (omega arith, λ _. six))

    pub field_fits : FieldFits l j (field_of l c t j)
    field_fits = by_test (eqb t (tag_on l c j) && ltb j S)
        (λ e.
        let (right, stripe) = and_both (eqb t (tag_on l c j)) (ltb j S) e in
        rw (← own_field e) (record { stripe = λ _. ltb-true j S stripe; low = λ _. on_low.0; member = λ _. on_low.1 }))
        (λ e. rw (← no_field e) (record { stripe = λ d. absurd (d refl); low = λ d. absurd (d refl); member = λ d. absurd (d refl) }))

-- ---- the test of a page by its field

-- a tag is right exactly if its kind and its member are
tag_test : {t k m : ℕ} (kind member : ℕ) → kind < 256 → TagIs t k m → eqb t (tag_of kind member) ≡ eqb k kind && eqb m member
tag_test {t} {k} {m} kind member low is =
    let rest = is.kind in
    let over = is.member in
    same_tests (eqb t (tag_of kind member)) (eqb k kind && eqb m member)
    (λ e. let same = eqb-true t (tag_of kind member) e in both_and (eq-eqb k kind (omega arith)) (eq-eqb m member (omega arith)))
    (λ e.
    let (a, b) = and_both (eqb k kind) (eqb m member) e in
    let same = eqb-true k kind a in
    let too = eqb-true m member b in
    eq-eqb t (tag_of kind member) (omega arith))

-- the tests of a stamp in the order of its definition, and with the tag as one
tests_in_order : (s k m n : Bool) → s && (true && k && m && n) ≡ (k && m && s) && n
tests_in_order true k m n = rw and-true
tests_in_order false k m n = rw and-false

-- page p of chip c, with tag t and stripe j
module _ (g : Geometry) (xs : List ℕ) (x : ℕ → Page) (c p t j : ℕ) (limited : limits (layout_of g) ≡ true) (chip : c ≤ g.n) (page : p < 65535)
    (is : TagIs t (x p).kind (x p).member) (stripe : j ≡ (x p).stripe) where
  -- the test of the stamp
  stamp_is : by_stamp (layout_of g) (record_at (layout_of g) xs) x c p
      ≡ (eqb t (tag_on (layout_of g) c j) && ltb j g.s) && names (layout_of g) (record_at (layout_of g) xs) c p j
  unfolding by_stamp
  stamp_is =
      let l = layout_of g in
      let k = eqb (x p).kind (kind_on l c j) in
      let m = eqb (x p).member (member_byte l c j) in
      rw (← stripe, eq-eqb j j refl, tag_test (kind_on l c j) (member_byte l c j) (kind_low l c j) is)
      (tests_in_order (ltb j g.s) k m (names l (record_at l xs) c p j))

  -- the record names the page exactly if it has its number in the chip's field
  names_is : has_number (record_at (layout_of g) xs j) (field_on (layout_of g) c j) p ≡ names (layout_of g) (record_at (layout_of g) xs) c p j
  unfolding names main_number side_number none has_number number_of
  names_is = by_same c (parity_chip (layout_of g) j)
      (λ e. rw (← (parity_field (layout_of g) c j e).1, eq-eqb c (parity_chip (layout_of g) j) e, ne_eqb 65535 p (λ q. omega arith)) refl)
      (λ d.
      let m = member_on (layout_of g) j c in
      let six = member_low (layout_of g) c j chip (within (layout_of g) limited).members_high d in
      let old : 6 + m - 6 ≡ m = omega arith in
      rw (
        ← (member_field (layout_of g) c j m d refl).1,
        ne_eqb c (parity_chip (layout_of g) j) d,
        ne_eqb m 255 (λ q. omega arith),
        ne_eqb m 12 (λ q. omega arith),
        lt-ltb m 6 six,
        le-ltb (6 + m) 6 (omega arith),
        lt-ltb (6 + m) 12 (omega arith),
        old,
      ) refl)

  pub field_test : has_number (record_at (layout_of g) xs j) (field_of (layout_of g) c t j) p ≡ by_stamp (layout_of g) (record_at (layout_of g) xs) x c p
  unfolding has_number
  field_test =
      let l = layout_of g in
      let right = eqb t (tag_on l c j) && ltb j g.s in
      by_test right
      (λ e. rw (stamp_is, e, ← own_field l c t j e) names_is)
      (λ e. rw (stamp_is, e, ← no_field l c t j e) refl)

-- ---- the fields of many pages

-- each is one of a record
pub fields_fit : (g : Geometry) (c : ℕ) {count : ℕ} {tags stripes fields : List ℕ} → limits (layout_of g) ≡ true → c ≤ g.n
    → FieldsOf (layout_of g) c count tags stripes fields → FieldsFit (layout_of g) count stripes fields
fields_fit g c {count} {tags} {stripes} limited chip found =
    let l = layout_of g in
    record { fit = λ i h. rw (found.is i h) (field_fits l c (get_or tags i 0) (get_or stripes i 0) chip (within l limited).members_high) }
