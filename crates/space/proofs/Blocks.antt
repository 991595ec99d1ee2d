-- In a block no used page follows a clean one: so its first page tells whether the block is wholly clean, and its last one whether it is full.
use Prim.Native.Nat.{ℕ, zero, suc, ◌+◌, ◌-◌, ◌*◌, ◌≤◌, ◌<◌, suc-le-suc}
use native.Mathlib.Nat.{add-zero}
use native.Mathlib.Numerals.{add-one}
use native.Mathlib.Omega.{arith}
use mathlib.Core.Path.{◌≡◌, sym, ap, ◌∙◌}
use mathlib.Core.Bool.{Bool, true, not, ◌&&◌, not-not}
use mathlib.Core.List.{List}
use borrow.Author.Tests.{not-true}
use Rattle.ranges.proofs.Looks.{at_last, by_test, both, all_true, all_at}
use Rattle.ranges.proofs.Tallies.{same_tests}
use Rattle.ranges.proofs.Tests.{under, false_not}
use Rattle.layout.specs.declared.Geometry.{Geometry}
use Rattle.layout.specs.Layout.{Layout, layout_of}
use Rattle.layout.specs.Page.{Page, page_at, clean}
use Rattle.layout.proofs.Limits.{within}
use Rattle.rules.specs.Blocks.{clean_in, used_in, clean_block, full_block, in_order, ordered_block}
use Rattle.rules.specs.Place.{open_block}
use Rattle.rules.proofs.Space.Places.{clean_at}
use Rattle.codec.proofs.Fetching.{OnChip, place_low}
use Rattle.space.specs.Ordered.{Ordered}

module _ (l : Layout) (x : ℕ → Page) (b : ℕ) (order : ordered_block l x b ≡ true) where
  open l use {K}

  -- behind a clean place all are clean
  clean_behind : (i j : ℕ) → i ≤ j → j < K → clean_in l x b i ≡ true → clean_in l x b j ≡ true
  unfolding ordered_block
  clean_behind i zero h low t = let e : i ≡ 0 = omega arith in rw e at t
  clean_behind i (suc j) h low t = at_last i (suc j) (suc-le-suc h)
      (λ less. let before = clean_behind i j (omega arith) (omega arith) t in
      rw add-one at (under (clean_in l x b j) (clean_in l x b (j + 1)) (all_at (K - 1) (in_order l x b) order j (omega arith)) before))
      (λ e. rw e at t)

  module _ (some : 0 < K) where
    -- the block is wholly clean where its first page is
    clean_test : clean_block l x b ≡ clean (x (b * K))
    unfolding clean_block
    clean_test =
        same_tests (clean_block l x b) (clean (x (b * K)))
        (λ t. rw add-zero at (clean_at l x b 0 t some))
        (λ t. all_true K (clean_in l x b) (λ i low. clean_behind 0 i (omega arith) low (rw add-zero t)))

    -- it is full where its last page is used
    full_test : full_block l x b ≡ not (clean (x (b * K + K - 1)))
    unfolding full_block
    full_test =
        let last : b * K + K - 1 ≡ b * K + (K - 1) = omega arith in
        rw last
        (same_tests (full_block l x b) (used_in l x b (K - 1))
        (λ t. all_at K (used_in l x b) t (K - 1) (omega arith))
        (λ t. all_true K (used_in l x b) (λ i low. false_not (clean_in l x b i) (by_test (clean_in l x b i)
        (λ s. both (clean_in l x b (K - 1)) (clean_behind i (K - 1) (omega arith) (omega arith) s) (not-true (clean_in l x b (K - 1)) t))
        (λ s. s)))))

-- ---- block b of a chip as the code meets it

pub some_places : {g : Geometry} {chips : List ℕ} {c : ℕ} → Ordered g chips c → 0 < g.k
some_places {g} h = let w = within (layout_of g) h.chips_fit.limited in omega arith

module _ {g : Geometry} {chips : List ℕ} {c : ℕ} (h : Ordered g chips c) (b : ℕ) (low : b < g.b) where
  in_order_lem : ordered_block (layout_of g) (page_at (layout_of g) chips c) b ≡ true
  in_order_lem = all_at _ (ordered_block (layout_of g) (page_at (layout_of g) chips c)) h.order b low

  pub first_page : OnChip g (b * g.k)
  first_page = rw add-zero at (place_low g h.chips_fit.limited b 0 low (some_places h))

  pub last_page : OnChip g (b * g.k + g.k - 1)
  last_page =
      let last : b * g.k + g.k - 1 ≡ b * g.k + (g.k - 1) = omega (arith, some_places h) in
      rw last (place_low g h.chips_fit.limited b (g.k - 1) low (omega (arith, some_places h)))

  module _ {t : Bool} where
    -- t is whether its first page is clean
    pub first_tells : t ≡ clean (page_at (layout_of g) chips c (b * g.k)) → clean_block (layout_of g) (page_at (layout_of g) chips c) b ≡ t
    first_tells e = clean_test (layout_of g) (page_at (layout_of g) chips c) b in_order_lem (some_places h) ∙ sym e

    -- t is whether its last page is clean
    pub last_tells : t ≡ clean (page_at (layout_of g) chips c (b * g.k + g.k - 1)) → full_block (layout_of g) (page_at (layout_of g) chips c) b ≡ not t
    last_tells e = full_test (layout_of g) (page_at (layout_of g) chips c) b in_order_lem (some_places h) ∙ ap not (sym e)

  -- t and s are whether its first and its last page are clean
  pub open_tells : {t s : Bool} → t ≡ clean (page_at (layout_of g) chips c (b * g.k)) → s ≡ clean (page_at (layout_of g) chips c (b * g.k + g.k - 1))
      → open_block (layout_of g) (page_at (layout_of g) chips c) b ≡ not t && s
  unfolding open_block
  open_tells {s = s} e f = rw (first_tells e, last_tells f, not-not s)
