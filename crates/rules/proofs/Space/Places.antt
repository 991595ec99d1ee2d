-- The place search, case by case: in a block that is begun, in a clean block, or nowhere.
use Prim.Native.Nat.{ℕ, ◌≤◌, ◌<◌}
use native.Mathlib.Omega.{arith}
use mathlib.Core.Path.{◌≡◌}
use mathlib.Core.Logic.{◌≢◌}
use mathlib.Core.Bool.{true, false, not}
use borrow.Author.Tests.{le-leb, lt-leb, not-true, not-false}
use Rattle.std.specs.Prelude.{Some, None}
use Rattle.ranges.specs.Look.{count_below, first_below, when_found}
use Rattle.ranges.proofs.Looks.{by_test, by_order, by_found, both, all_at, all_false, first_at, first_found, first_nothing}
use Rattle.ranges.proofs.Tests.{and_both}
use Rattle.ranges.proofs.Counts.{count_found, count_two}
use Rattle.layout.specs.Layout.{Layout, page_in}
use Rattle.layout.specs.Page.{Page}
use Rattle.rules.specs.Blocks.{clean_in, used_in, clean_block, full_block, lowest_clean_block}
use Rattle.rules.specs.Place.{open_block, lowest_clean_page, place_of}

module _ (l : Layout) (x : ℕ → Page) where
  open l use {K, B}

  pub clean_at : (b i : ℕ) → clean_block l x b ≡ true → i < K → clean_in l x b i ≡ true
  unfolding clean_block
  clean_at b i t place = all_at K (clean_in l x b) t i place

  -- a block that is begun is not wholly clean, and has a clean page
  pub open_begun : (b : ℕ) → open_block l x b ≡ true → clean_block l x b ≡ false
  unfolding open_block
  open_begun b t = not-true (clean_block l x b) (and_both (not (clean_block l x b)) (not (full_block l x b)) t).0

  open_clean : (b : ℕ) → open_block l x b ≡ true → (i : ℕ) × (i < K) × (clean_in l x b i ≡ true)
  unfolding open_block full_block
  open_clean b t =
      let nay = not-true (full_block l x b) (and_both (not (clean_block l x b)) (not (full_block l x b)) t).1 in
      let (i, place, e) = all_false K (used_in l x b) nay in
      (i, place, not-false (clean_in l x b i) e)

  is_full : (b : ℕ) → clean_block l x b ≡ false → open_block l x b ≡ false → full_block l x b ≡ true
  unfolding open_block
  is_full b begun shut = not-false (full_block l x b) (rw begun at shut)

  pub is_open : (b i : ℕ) → clean_block l x b ≡ false → i < K → clean_in l x b i ≡ true → open_block l x b ≡ true
  unfolding full_block
  is_open b i begun place t =
      by_test (open_block l x b)
      (λ e. e)
      (λ e. both (clean_in l x b i) t (not-true (clean_in l x b i) (all_at K (used_in l x b) (is_full b begun e) i place)))

  -- the answers
  pub place_begun : (b i : ℕ) → first_below B (open_block l x) ≡ Some b → first_below K (clean_in l x b) ≡ Some i → place_of l x ≡ Some (page_in l b i)
  unfolding place_of lowest_clean_page when_found
  place_begun b i e q = rw (e, q)

  pub place_fresh : (b : ℕ) → first_below B (open_block l x) ≡ None → 2 ≤ count_below B (clean_block l x) → first_below B (clean_block l x) ≡ Some b
      → place_of l x ≡ Some (page_in l b 0)
  unfolding place_of lowest_clean_block when_found
  place_fresh b e h q = rw (e, le-leb 2 (count_below B (clean_block l x)) h, q)

  pub place_nowhere : first_below B (open_block l x) ≡ None → count_below B (clean_block l x) < 2 → place_of l x ≡ None
  unfolding place_of when_found
  place_nowhere e h = rw (e, lt-leb 2 (count_below B (clean_block l x)) h)

  -- and no others
  pub by_place {ℓ} : {P : Type ℓ}
      → ((b i : ℕ) → first_below B (open_block l x) ≡ Some b → first_below K (clean_in l x b) ≡ Some i → P)
      → ((b : ℕ) → first_below B (open_block l x) ≡ None → 2 ≤ count_below B (clean_block l x) → first_below B (clean_block l x) ≡ Some b → P)
      → (first_below B (open_block l x) ≡ None → count_below B (clean_block l x) < 2 → P)
      → P
  by_place begun fresh nowhere =
      by_found (first_below B (open_block l x))
      (λ b e.
      let (k, place, t) = open_clean b (first_at B (open_block l x) b e).1 in
      let (i, q) = first_found K (clean_in l x b) k place t in
      begun b i e q)
      (λ e. by_order (count_below B (clean_block l x)) 2 (nowhere e) (λ h.
      let (k, fits, t) = count_found B (clean_block l x) (omega arith) in
      let (b, q) = first_found B (clean_block l x) k fits t in
      fresh b e h q))

  -- where there is none, all blocks are full but the one that is clean
  pub all_full : (b d : ℕ) → b < B → d < B → d ≢ b → clean_block l x b ≡ true → place_of l x ≡ None → full_block l x d ≡ true
  all_full b d fits fits' other t e =
      by_place
      (λ k i o q. cc (place_begun k i o q))
      (λ k o h q. cc (place_fresh k o h q))
      (λ o few. by_test (clean_block l x d)
      (λ s. absurd (omega (arith, count_two B (clean_block l x) d b fits' fits other s t)))
      (λ s. is_full d s (first_nothing B (open_block l x) o d fits')))
