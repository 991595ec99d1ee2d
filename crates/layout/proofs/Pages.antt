-- Page numbers on a chip: the place of a page in its block.
use Prim.Native.Nat.{ℕ, ◌+◌, ◌-◌, ◌*◌, ◌/◌, ◌%◌, ◌^◌, ◌<◌}
use native.Mathlib.Nat.{mul-zero, mod-lt, div-add-mod', div-lt_iff_lt-mul}
use native.Mathlib.Omega.{arith}
use mathlib.Core.Path.{◌≡◌, sym, ap}
use mathlib.Core.Logic.{◌≢◌}
use mathlib.Core.Bool.{true, false}
use lib.Arith.{digits_lt}
use lib.Dec.{leb, ltb}
use borrow.Author.Tests.{lt-ltb, le-leb, ltb-true, leb-true}
use Rattle.ranges.proofs.Looks.{by_test, by_order}
use Rattle.octets.proofs.Numbers.{pow_positive}
use Rattle.ranges.proofs.Tests.{and_both}
use Rattle.octets.proofs.Units.{same_index}
use Rattle.layout.specs.Layout.{Layout, none, pages, page_in, in_block}
use Rattle.layout.proofs.Limits.{Within}

module _ (l : Layout) where
  open l use {K, B, D}

  -- place i of block b
  pub page_in_fits : (b i : ℕ) → b < B → i < K → page_in l b i < pages l
  page_in_fits b i block place = digits_lt block place

  pub same_place : (b i b' i' : ℕ) → i < K → i' < K → page_in l b i ≡ page_in l b' i' → (b ≡ b') × (i ≡ i')
  same_place b i b' i' h h' e = same_index K b i b' i' h h' e

  some_places : (p : ℕ) → p < pages l → 0 < K
  some_places p h = by_order 0 K (λ k. k) (λ k. let e : K ≡ 0 = omega arith in absurd (omega (arith, h, ap (λ (x : ℕ). B * x) e, mul-zero B)))

  pub place_of_lem : (p : ℕ) → p < pages l → (b : ℕ) × (i : ℕ) × (b < B) × (i < K) × (p ≡ page_in l b i)
  place_of_lem p h =
      (p / K, p % K, (div-lt_iff_lt-mul (some_places p h)).1 h, mod-lt p (some_places p h), sym (div-add-mod' p K))

  pub in_own_block : (b i : ℕ) → i < K → in_block l b (page_in l b i) ≡ true
  in_own_block b i place = rw (le-leb (b * K) (b * K + i) (omega arith), lt-ltb (b * K + i) (b * K + K) (omega arith))

  pub place_in : (b p : ℕ) → in_block l b p ≡ true → (i : ℕ) × (i < K) × (p ≡ page_in l b i)
  place_in b p e =
      let h = and_both (leb (b * K) p) (ltb p (b * K + K)) e in
      let low = leb-true (b * K) p h.0 in
      let high = ltb-true p (b * K + K) h.1 in
      (p - b * K, omega arith, omega arith)

  pub in_other_block : (b b' i : ℕ) → b ≢ b' → i < K → in_block l b (page_in l b' i) ≡ false
  in_other_block b b' i d place =
      by_test (in_block l b (page_in l b' i))
      (λ t. let (k, h, e) = place_in b (page_in l b' i) t in absurd (d (same_place b k b' i h place (sym e)).0))
      (λ t. t)

  -- the number of a page is not the one that stands for none
  pub page_number_lem : Within l → (p : ℕ) → p < pages l → p ≢ none l
  page_number_lem w p h e = omega (arith, w.pages_numbered)

  pub none_fits : none l < 256 ^ D
  unfolding none
  none_fits = omega (arith, pow_positive D)
