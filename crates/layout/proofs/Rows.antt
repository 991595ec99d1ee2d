-- The worked examples of document 01 on rotation and limits, and the fixed byte string of the empty record.
use Prim.Native.Nat.{ℕ, ◌+◌, ◌*◌, ◌≤◌}
use native.Mathlib.Omega.{arith}
use mathlib.Core.Path.{◌≡◌, refl}
use mathlib.Core.Bool.{true, false}
use mathlib.Core.List.{[], ◌∷◌, ◌++◌}
use lib.ListN.{replicate}
use Rattle.octets.specs.Number.{digits}
use Rattle.ranges.specs.Rows.{Rows}
use Rattle.ranges.proofs.Looks.{by_test}
use Rattle.layout.specs.declared.Geometry.{Geometry}
use Rattle.layout.specs.Layout.{Layout, layout_of, none, sizes, limits}
use Rattle.layout.specs.Rotation.{parity_chip, member_chip, member_of, stripe_of}
use Rattle.layout.specs.Record.{bytes_of_record, empty_record, row}
use Rattle.layout.proofs.Limits.{within, sized}

abbrev pub geometry : ℕ → ℕ → ℕ → ℕ → ℕ → ℕ → Layout
geometry n w k b s m = layout_of (record { n = n; w = w; k = k; b = b; s = s; m = m })

-- the chip of logical page i
abbrev pub chip_of : Layout → ℕ → ℕ
chip_of l i = member_chip l (stripe_of l i) (member_of l i)

module _ (l : Layout) where
  open l use {N, K, B, S, M, D}

  -- "N = 4: parity of stripes 0, 1, 4, 5 on chips 4, 3, 0, 4."
  pub parity_chips : N ≡ 4 → Rows (parity_chip l) ((0, 4) ∷ (1, 3) ∷ (4, 0) ∷ (5, 4) ∷ [])
  unfolding parity_chip
  parity_chips e = rw e (refl, (refl, (refl, (refl, tt))))

  -- "page 6 on chip 2, page 7 on 4, page 16 on 1"
  pub page_chips : N ≡ 4 → Rows (chip_of l) ((6, 2) ∷ (7, 4) ∷ (16, 1) ∷ [])
  unfolding member_chip parity_chip
  page_chips e = rw e (refl, (refl, (refl, tt)))

  -- "771 × 85 pages accepted", of page numbers of two bytes
  pub most_pages_lem : sizes l ≡ true → D ≡ 2 → B ≡ 771 → K ≡ 85 → 1 ≤ S → 1 ≤ M → M ≤ 254 → S + M + 1 ≤ 770 * 85 → limits l ≡ true
  unfolding none
  most_pages_lem e d b k s m₁ m₂ room =
      sized l e (rw (k, d) (omega arith, omega arith)) (rw (b, d) (omega arith, omega arith)) (rw (b, k, d) (omega arith)) (s, omega arith) (m₁, m₂) (rw (b, k) room)

  -- "512 × 128 is refusal 1"
  pub too_many_pages : D ≡ 2 → B ≡ 512 → K ≡ 128 → limits l ≡ false
  unfolding none
  too_many_pages d b k = by_test (limits l) (λ e. absurd (omega (arith, rw (b, k, d) at (within l e).pages_numbered))) (λ e. e)

  -- "K = 4, B = 4, M = 2: S = 9 accepted, 10 is refusal 1."
  pub most_stripes : sizes l ≡ true → D ≡ 2 → K ≡ 4 → B ≡ 4 → M ≡ 2 → S ≡ 9 → limits l ≡ true
  unfolding none
  most_stripes e d k b m s =
      sized l e (rw (k, d) (omega arith, omega arith)) (rw (b, d) (omega arith, omega arith)) (rw (b, k, d) (omega arith)) (omega arith, omega arith)
      (omega arith, omega arith) (rw (b, k, s, m) (omega arith))

  pub too_many_stripes : K ≡ 4 → B ≡ 4 → M ≡ 2 → S ≡ 10 → limits l ≡ false
  too_many_stripes k b m s = by_test (limits l) (λ e. absurd (omega (arith, rw (b, k, m, s) at (within l e).room))) (λ e. e)

-- "twenty-six bytes of 255, a 0, a 255 and four of 0"
pub empty_bytes :
    (g : Geometry)
    → bytes_of_record (layout_of g) (empty_record (layout_of g)) ≡ replicate 26 255 ++ (0 ∷ 255 ∷ replicate 4 0)
unfolding bytes_of_record empty_record row digits none
empty_bytes g = refl
