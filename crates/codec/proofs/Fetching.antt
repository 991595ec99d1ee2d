-- The tags and stripes of pages: where they stand in the chip image, and what the loop has fetched of them so far. The numbers of
-- a record.
use Prim.Native.Nat.{ℕ, ◌+◌, ◌-◌, ◌*◌, ◌≤◌, ◌<◌}
use native.Mathlib.Nat.{add-mul, mul-le-mul_right, le_refl, not-suc-le-zero}
use native.Mathlib.Numerals.{add-one}
use native.Mathlib.Omega.{arith}
use mathlib.Core.Path.{◌≡◌}
use mathlib.Core.Bool.{true}
use mathlib.Core.List.{List}
use lib.ListN.{length, get_or, set}
use lib.Seq.{get_or-set_same, get_or-set_other}
use Rattle.octets.specs.Number.{number}
use Rattle.octets.specs.Units.{part}
use Rattle.octets.proofs.Units.{part_unit}
use borrow.Author.Tests.{lt-ltb, le-ltb}
use Rattle.layout.specs.Record.{six_from, record_of, record_at}
use Rattle.ranges.proofs.Looks.{at_last, by_order}
use Rattle.layout.specs.declared.Geometry.{Geometry}
use Rattle.layout.specs.Layout.{layout_of, limits, none, pages}
use Rattle.layout.proofs.Limits.{within}
use Rattle.layout.specs.Page.{page_at}
use Rattle.layout.proofs.Pages.{page_in_fits}
use Rattle.codec.specs.Fit.{ChipsFit}
use Rattle.codec.proofs.Offsets.{offset, page_high, page_within, PageIn, page_in_lem}
use Rattle.codec.specs.Scan.{TagIs, StampsOf, number_of}

-- ---- a list that a loop fills

-- each of the first i numbers is as P says
pub record Filled (P : ℕ → ℕ → Type 0) (xs : List ℕ) (i : ℕ) : Type 0 where
  pub at : (m : ℕ) → m < i → P m (get_or xs m 0)

-- nothing before the first
pub fill_start : {P : ℕ → ℕ → Type 0} {xs : List ℕ} → Filled P xs 0
fill_start = record { at = λ m h. absurd (not-suc-le-zero h) }

-- with one more
pub fill_more : {P : ℕ → ℕ → Type 0} {xs : List ℕ} {i v : ℕ} → Filled P xs i → i < length xs → P i v → Filled P (set xs i v) (i + 1)
fill_more {P} {xs} {i} {v} h place e = record {
  at = λ m b. at_last m i (rw add-one at b)
      (λ less. rw (get_or-set_other xs i m v 0 (λ q. omega arith)) (h.at m less))
      (λ q. rw (q, get_or-set_same xs i v 0 place) e);
}

-- ---- page numbers

-- p is a page of a chip, and so a number of two bytes
abbrev pub OnChip : Geometry → ℕ → Type 0
OnChip g p = (p < pages (layout_of g)) × (p < 65535)

module _ (g : Geometry) (limited : limits (layout_of g) ≡ true) where
  -- the first b blocks have no more pages than two bytes number
  pub start_low : (b : ℕ) → b ≤ g.b → b * g.k ≤ 65535
  unfolding none
  start_low b h = omega (arith, (within (layout_of g) limited).pages_numbered, mul-le-mul_right g.k h)

  -- a place of a block is a page
  pub place_low : (b i : ℕ) → b < g.b → i < g.k → OnChip g (b * g.k + i)
  place_low b i block place =
      let low = page_in_fits (layout_of g) b i block place in (low, omega (arith, start_low g.b (le_refl g.b)))

-- ---- the spares of pages one behind another

-- t is the tag that stands m pages of u bytes behind offset a
abbrev pub TagAt : List ℕ → ℕ → ℕ → ℕ → ℕ → Type 0
TagAt chips a u m t = TagIs t (get_or chips (a + m * u) 0) (get_or chips (a + m * u + 1) 0)

-- and j the stripe
abbrev pub StripeAt : List ℕ → ℕ → ℕ → ℕ → ℕ → Type 0
StripeAt chips a u m j = j ≡ number (part (a + m * u + 2) 2 chips)

-- so many pages of chip c from p on are there
module _ (g : Geometry) (chips : List ℕ) (fit : ChipsFit g chips) (c p n : ℕ) (chip : c ≤ g.n) (there : p + n ≤ pages (layout_of g)) where
  -- the spare of page p + i is i pages behind that of page p
  spare_place : (i : ℕ) → offset g c p + g.w + i * (g.w + 8) ≡ offset g c (p + i) + g.w
  spare_place i =
      let e : c * pages (layout_of g) + (p + i) ≡ c * pages (layout_of g) + p + i = omega arith in
      rw (e, add-mul) (omega arith)

  -- it ends within the image, and its offset is no large number
  pub spare_within : (i : ℕ) → i < n
      → let a = offset g c p + g.w + i * (g.w + 8) in (a + 4 ≤ length chips) × (a ≤ 1882689480)
  spare_within i place =
      let low : p + i < pages (layout_of g) = omega arith in
      rw spare_place (rw fit.long (omega (arith, page_within g c (p + i) chip low)), omega (arith, page_high g c (p + i) chip low fit.limited))

  -- all tags and stripes from the first spare on are those of the pages
  pub fetch_all : {tags stripes : List ℕ} {i : ℕ}
      → Filled (TagAt chips (offset g c p + g.w) (g.w + 8)) tags i
      → Filled (StripeAt chips (offset g c p + g.w) (g.w + 8)) stripes i
      → i ≡ n
      → StampsOf (page_at (layout_of g) chips c) p n tags stripes
  fetch_all h s e =
      let page : (i : ℕ) → i < n → PageIn g chips c (p + i) = λ i place. page_in_lem g chips c (p + i) (omega arith) in
      record {
        tag = λ i place. rw ((page i place).kind, (page i place).member, ← spare_place i) (h.at i (rw e place));
        stripe = λ i place. rw ((page i place).stripe, ← spare_place i) (s.at i (rw e place));
      }

-- ---- the numbers of a record

-- number i of record j stands at 2 i
pub number_in : (g : Geometry) (xs : List ℕ) (j i : ℕ) → j < g.s → i ≤ 12 → number (part (j * 32 + 2 * i) 2 xs) ≡ number_of (record_at (layout_of g) xs j) i
unfolding number_of record_at record_of six_from
number_in g xs j i stripe h =
    let here = part_unit 32 j (2 * i) 2 xs (omega arith) in
    by_order i 6
    (λ low. let e : (0 + i) * 2 ≡ 2 * i = omega arith in rw (lt-ltb j g.s stripe, lt-ltb i 6 low, e, here))
    (λ high. by_order i 12
    (λ low. let e : (6 + (i - 6)) * 2 ≡ 2 * i = omega arith in rw (lt-ltb j g.s stripe, le-ltb i 6 high, lt-ltb i 12 low, lt-ltb (i - 6) 6 (omega arith), e, here))
    (λ last. let e : 2 * i ≡ 24 = omega arith in rw (lt-ltb j g.s stripe, le-ltb i 6 high, le-ltb i 12 last, e, part_unit 32 j 24 2 xs (omega arith))))
