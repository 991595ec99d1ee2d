-- Lists of steps: what they make of the images, end to end and one by one.
use Prim.Native.Nat.{ℕ, zero, suc, ◌<◌}
use native.Mathlib.Nat.{le_refl}
use native.Mathlib.Omega.{arith}
use mathlib.Core.Path.{◌≡◌, refl}
use mathlib.Core.List.{List, [], ◌∷◌, ◌++◌}
use Rattle.layout.specs.Layout.{Layout}
use Rattle.layout.specs.Images.{Images}
use Rattle.steps.specs.Store.{apply}
use Rattle.steps.specs.Steps.{Step, apply_all, steps_below}

module _ (l : Layout) where
  pub apply_append : (xs ys : List Step) (s : Images) → apply_all l (xs ++ ys) s ≡ apply_all l ys (apply_all l xs s)
  unfolding apply_all
  apply_append [] ys s = refl
  apply_append (x ∷ xs) ys s = apply_append xs ys (apply l x.store s)

  -- what holds at the start and is carried on by each part of a list holds at its end
  pub below_carries : (P : ℕ → Images → Type 0) (n : ℕ) (f : ℕ → List Step) (s : Images) → P 0 s
      → ((i : ℕ) → i < n → (t : Images) → P i t → P (suc i) (apply_all l (f i) t)) → P n (apply_all l (steps_below n f) s)
  unfolding steps_below apply_all
  below_carries P zero f s start next = start
  below_carries P (suc n) f s start next =
      rw (apply_append (steps_below n f) (f n) s)
      (next n (le_refl (suc n)) (apply_all l (steps_below n f) s)
      (below_carries P n f s start (λ i h. next i (omega arith))))
