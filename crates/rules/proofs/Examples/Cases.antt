-- The cases that document 01 marks P ("Bags on the pan"), each for every layout that it is about.
use Prim.Native.Nat.{ℕ, ◌+◌, ◌*◌, ◌≤◌, ◌<◌}
use mathlib.Core.Path.{◌≡◌, refl}
use mathlib.Core.Bool.{true}
use mathlib.Core.List.{List, [], ◌∷◌}
use lib.ListN.{length}
use Rattle.ranges.specs.Rows.{Rows}
use Rattle.layout.specs.Layout.{Layout, sizes}
use Rattle.layout.specs.Rotation.{parity_chip}
use Rattle.layout.specs.Images.{Images, lengths}
use Rattle.layout.proofs.Rows.{chip_of, parity_chips, page_chips, most_pages_lem, too_many_pages, most_stripes, too_many_stripes}
use Rattle.rules.specs.declared.Refusal.TheVariants.{Geometry}
use Rattle.std.specs.Prelude.{Ok}
use Rattle.rules.specs.Costs.{cost_of}
use Rattle.rules.specs.Refusals.{refusal_number, checked, buffers_rows}
use Rattle.rules.specs.Calls.{verdict, done, format_call}
use Rattle.rules.proofs.Soundness.Accepted.{buffers_pass}
use Rattle.rules.proofs.Examples.Turned.{TurnedBack, outside_limits}
use Rattle.rules.proofs.Examples.FirstWrite.{FirstWrite, first_write}

module _ (l : Layout) where
  open l use {N, W, K, B, S, M, D}

  -- rows 1 and 2 pass with images of the right lengths
  abbrev pub Accepted : Type 0
  Accepted = (s : Images) → lengths l s ≡ true → checked (buffers_rows l s) ≡ Ok tt

  -- every call is refusal 1, and changes nothing
  abbrev pub Refusal1 : Type 0
  Refusal1 = TurnedBack l Geometry × (refusal_number Geometry ≡ 1)

  pub record Cases : Type 0 where
    -- "N = 4: parity of stripes 0, 1, 4, 5 on chips 4, 3, 0, 4."
    pub parities : N ≡ 4 → Rows (parity_chip l) ((0, 4) ∷ (1, 3) ∷ (4, 0) ∷ (5, 4) ∷ [])
    -- "page 6 on chip 2, page 7 on 4, page 16 on 1"
    pub pages : N ≡ 4 → Rows (chip_of l) ((6, 2) ∷ (7, 4) ∷ (16, 1) ∷ [])
    -- "cost at N = 4 for p = 1 to 4: 2, 2, 1, 0"
    pub costs_at_four : N ≡ 4 → Rows (cost_of l.N) ((1, 2) ∷ (2, 2) ∷ (3, 1) ∷ (4, 0) ∷ [])
    -- "N = 5, p = 1 to 5: 2, 3, 2, 1, 0"
    pub costs_at_five : N ≡ 5 → Rows (cost_of l.N) ((1, 2) ∷ (2, 3) ∷ (3, 2) ∷ (4, 1) ∷ (5, 0) ∷ [])
    -- "771 × 85 pages accepted; 512 × 128 is refusal 1": page numbers have two bytes
    pub pages_accepted : sizes l ≡ true → D ≡ 2 → B ≡ 771 → K ≡ 85 → 1 ≤ S → 1 ≤ M → M ≤ 254 → S + M + 1 ≤ 770 * 85 → Accepted
    pub pages_refused : D ≡ 2 → B ≡ 512 → K ≡ 128 → Refusal1
    -- "K = 4, B = 4, M = 2: S = 9 accepted, 10 is refusal 1."
    pub stripes_accepted : sizes l ≡ true → D ≡ 2 → K ≡ 4 → B ≡ 4 → M ≡ 2 → S ≡ 9 → Accepted
    pub stripes_refused : K ≡ 4 → B ≡ 4 → M ≡ 2 → S ≡ 10 → Refusal1
    -- "a first write takes 3 stores. Allowance 2 is cut and reads zeros; 3 is done."
    pub first : 1 ≤ D → D ≤ 4 → (s : Images) (allowance : ℕ) → verdict (format_call l s allowance).answer ≡ done
        → (i : ℕ) → i < N * S → (xs : List ℕ) → length xs ≡ W → FirstWrite l (format_call l s allowance).images i xs

  four_costs : N ≡ 4 → Rows (cost_of l.N) ((1, 2) ∷ (2, 2) ∷ (3, 1) ∷ (4, 0) ∷ [])
  unfolding cost_of
  four_costs e = rw e (refl, (refl, (refl, (refl, tt))))

  five_costs : N ≡ 5 → Rows (cost_of l.N) ((1, 2) ∷ (2, 3) ∷ (3, 2) ∷ (4, 1) ∷ (5, 0) ∷ [])
  unfolding cost_of
  five_costs e = rw e (refl, (refl, (refl, (refl, (refl, tt)))))

  pub cases : Cases
  cases = record {
    parities = parity_chips l;
    pages = page_chips l;
    costs_at_four = four_costs;
    costs_at_five = five_costs;
    pages_accepted = λ e d b k s m₁ m₂ room t. buffers_pass l t (most_pages_lem l e d b k s m₁ m₂ room);
    pages_refused = λ d b k. (outside_limits l (too_many_pages l d b k), refl);
    stripes_accepted = λ e d k b m s t. buffers_pass l t (most_stripes l e d k b m s);
    stripes_refused = λ k b m s. (outside_limits l (too_many_stripes l k b m s), refl);
    first = first_write l;
  }
