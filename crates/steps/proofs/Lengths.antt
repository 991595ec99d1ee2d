-- How long lists of steps are, and lists of the same steps.
use Prim.Native.Nat.{ℕ, zero, suc, ◌*◌, ◌≤◌, ◌<◌}
use native.Mathlib.Nat.{suc-mul, le_refl, le_step, lt-suc_self}
use native.Mathlib.Omega.{arith}
use mathlib.Core.Path.{◌≡◌, refl}
use mathlib.Core.Bool.{Bool}
use mathlib.Core.List.{List, [], append-nil}
use lib.ListN.{length, length-append}
use Rattle.ranges.specs.Look.{count_below}
use Rattle.ranges.proofs.Looks.{by_order}
use Rattle.ranges.proofs.Tallies.{ones, count_more}
use Rattle.layout.specs.Layout.{Layout}
use Rattle.layout.specs.Images.{Images}
use Rattle.steps.specs.Steps.{Step, apply_all, and_then, steps_below, then_below}

-- n lists of at most k steps
pub length_below : (k n : ℕ) (f : ℕ → List Step) → ((i : ℕ) → i < n → length (f i) ≤ k) → length (steps_below n f) ≤ n * k
unfolding steps_below
length_below k zero f h = omega arith
length_below k (suc n) f h =
    let first = length_below k n f (λ i low. h i (omega arith)) in
    rw (length-append, suc-mul) (omega (arith, h n (le_refl (suc n))))

-- the same, each worked out from the images after those before it
pub length_then_below : (l : Layout) (k n : ℕ) (f : ℕ → Images → List Step) (s : Images) → ((i : ℕ) (t : Images) → length (f i t) ≤ k)
    → length (then_below l n f s) ≤ n * k
unfolding then_below and_then
length_then_below l k zero f s h = omega arith
length_then_below l k (suc n) f s h =
    let first = length_then_below l k n f s h in
    rw (length-append, suc-mul) (omega (arith, h n (apply_all l (then_below l n f s) s)))

-- n lists of k steps
pub length_alike : (k n : ℕ) (f : ℕ → List Step) → ((i : ℕ) → length (f i) ≡ k) → length (steps_below n f) ≡ n * k
unfolding steps_below
length_alike k zero f h = omega arith
length_alike k (suc n) f h = let first = length_alike k n f h in rw (length-append, suc-mul) (omega (arith, h n))

-- a step for each number that passes t, and none for any other
pub length_counted : (n : ℕ) (t : ℕ → Bool) (f : ℕ → List Step) → ((i : ℕ) → length (f i) ≡ ones (t i)) → length (steps_below n f) ≡ count_below n t
unfolding steps_below count_below
length_counted zero t f h = refl
length_counted (suc n) t f h =
    let first = length_counted n t f h in
    rw (length-append, count_more n t) (omega (arith, h n))

module _ (l : Layout) (f : ℕ → Images → List Step) (s : Images) where
  -- where the lists from the n-th on are empty, those before it are all
  pub then_below_ends : (n m : ℕ) → n ≤ m → ((i : ℕ) → n ≤ i → i < m → f i (apply_all l (then_below l i f s) s) ≡ []) → then_below l m f s ≡ then_below l n f s
  unfolding then_below and_then
  then_below_ends zero zero h empty = refl
  then_below_ends (suc n) zero h empty = absurd (omega arith)
  then_below_ends n (suc m) h empty = by_order m n
      (λ less. let last : n ≡ suc m = omega arith in rw last)
      (λ more. rw (empty m more (lt-suc_self m), append-nil) (then_below_ends n m more (λ i low high. empty i low (le_step high))))

-- lists that are the same one by one are the same end to end
pub below_cong : (n : ℕ) (f g : ℕ → List Step) → ((i : ℕ) → i < n → f i ≡ g i) → steps_below n f ≡ steps_below n g
unfolding steps_below
below_cong zero f g h = refl
below_cong (suc n) f g h = rw (below_cong n f g (λ i b. h i (le_step b)), h n (lt-suc_self n))
