-- A function with one value replaced: that value, and the others.
use Prim.Native.Nat.{ℕ}
use native.Mathlib.Decide.{ℕ_discrete}
use mathlib.Core.Path.{◌≡◌, refl, fun_ext}
use mathlib.Core.Logic.{◌≢◌}
use borrow.Author.Tests.{eq-eqb, ne_eqb}
use Rattle.ranges.specs.Update.{at}

module _ {A : Type 0} where
  pub at_same : (i : ℕ) (x : A) (f : ℕ → A) → at i x f i ≡ x
  unfolding at
  at_same i x f = rw (eq-eqb i i refl)

  pub at_other : (i : ℕ) (x : A) (f : ℕ → A) (k : ℕ) → k ≢ i → at i x f k ≡ f k
  unfolding at
  at_other i x f k d = rw (ne_eqb k i d)

  -- the cases of a value of it
  pub by_at {ℓ} : {P : Type ℓ} (i : ℕ) (x : A) (f : ℕ → A) (k : ℕ) → (k ≡ i → at i x f k ≡ x → P) → (k ≢ i → at i x f k ≡ f k → P) → P
  by_at i x f k here there = elim (ℕ_discrete k i) [
    | yes e ↦ here e (rw e (at_same i x f))
    | no d ↦ there d (at_other i x f k d)
  ]

  -- a function that is x at i and f elsewhere is that update
  pub at_unique : (i : ℕ) (x : A) (f g : ℕ → A) → g i ≡ x → ((k : ℕ) → k ≢ i → g k ≡ f k) → g ≡ at i x f
  at_unique i x f g here there = fun_ext λ k. by_at i x f k (λ e n. rw (n, e) here) (λ d n. rw n (there k d))
