-- The limits as statements: the one record by which a proof knows them.
use Prim.Native.Nat.{◌+◌, ◌-◌, ◌*◌, ◌%◌, ◌≤◌}
use native.Mathlib.Omega.{arith}
use mathlib.Core.Path.{◌≡◌}
use mathlib.Core.Bool.{Bool, true}
use mathlib.Core.List.{List, [], ◌∷◌}
use lib.Dec.{leb, eqb}
use borrow.Author.Tests.{leb-true, eqb-true, le-leb, eq-eqb}
use Rattle.ranges.proofs.Looks.{by_test}
use Rattle.ranges.proofs.Tests.{and_left, and_right, all_chain}
use Rattle.layout.specs.Layout.{Layout, most_k, most_b, most_pages, sizes, limits}

module _ (l : Layout) where
  open l use {N, W, K, B, S, M, D}

  pub record Within : Type 0 where
    pub members_low : 2 ≤ N
    pub members_high : N ≤ 6
    pub bytes_low : 16 ≤ W
    pub bytes_high : W ≤ 4096
    pub bytes_unit : W % 16 ≡ 0
    pub places_low : 2 ≤ K
    pub places_high : K ≤ most_k l
    pub blocks_low : 2 ≤ B
    pub blocks_high : B ≤ most_b l
    pub pages_numbered : B * K ≤ most_pages l
    pub stripes_low : 1 ≤ S
    pub stripes_high : S ≤ 65535
    pub partials_low : 1 ≤ M
    pub partials_high : M ≤ 254
    pub room : S + M + 1 ≤ (B - 1) * K

  -- the tests, those of N and W first
  size_tests : List Bool
  size_tests = leb N 6 ∷ leb 16 W ∷ leb W 4096 ∷ eqb (W % 16) 0 ∷ []

  tests : List Bool
  tests =
      leb 2 K ∷ leb K (most_k l) ∷ leb 2 B ∷ leb B (most_b l) ∷ leb (B * K) (most_pages l)
      ∷ leb 1 S ∷ leb S 65535 ∷ leb 1 M ∷ leb M 254 ∷ leb (S + M + 1) ((B - 1) * K) ∷ []

  pub within : limits l ≡ true → Within
  unfolding limits
  within e = search (leb-true, eqb-true, and_left, and_right) depth 20

  pub limited : Within → limits l ≡ true
  unfolding limits size_tests tests
  limited w =
      all_chain (sizes l) tests
      (all_chain (leb 2 N) size_tests (le-leb _ _ w.members_low) (search (le-leb, eq-eqb, tt) depth 20))
      (search (le-leb, tt) depth 20)

  -- where N and W are within their limits, what is asked of the other four
  pub sized : sizes l ≡ true → (2 ≤ K) × (K ≤ most_k l) → (2 ≤ B) × (B ≤ most_b l) → B * K ≤ most_pages l → (1 ≤ S) × (S ≤ 65535) → (1 ≤ M) × (M ≤ 254)
      → S + M + 1 ≤ (B - 1) * K → limits l ≡ true
  unfolding limits tests
  sized e k b p s m room = all_chain (sizes l) tests e (search (le-leb, tt) depth 20)

  -- of every width
  pub places_most : Within → K ≤ 256
  places_most w = by_test (leb D 2) (λ e. omega (arith, rw e at w.places_high)) (λ e. omega (arith, rw e at w.places_high))

  pub blocks_most : Within → B ≤ 65535
  blocks_most w = by_test (leb D 2) (λ e. omega (arith, rw e at w.blocks_high)) (λ e. omega (arith, rw e at w.blocks_high))
