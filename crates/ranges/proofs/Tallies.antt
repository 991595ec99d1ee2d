-- Laws of counts: of two tests together, of one number alone, and of a test that another one implies.
use Prim.Native.Nat.{ℕ, zero, suc, ◌+◌, ◌≤◌, ◌<◌}
use native.Mathlib.Nat.{le_step, lt-suc_self, add-zero, add-suc}
use native.Mathlib.Omega.{arith}
use mathlib.Core.Path.{◌≡◌, refl, sym}
use mathlib.Core.Bool.{Bool, true, false, not, cond, ◌&&◌, ◌||◌, and-true, and-false}
use lib.Dec.{eqb}
use borrow.Author.Tests.{eq-eqb, eqb-true}
use Rattle.ranges.specs.Look.{count_below}
use Rattle.ranges.proofs.Looks.{by_test}
use Rattle.ranges.proofs.Counts.{count_start, count_pass, count_fail, count_zero, count_positive, one_count}

-- two tests of which each implies the other are the same
pub same_tests : (a b : Bool) → (a ≡ true → b ≡ true) → (b ≡ true → a ≡ true) → a ≡ b
same_tests true b h k = sym (h refl)
same_tests false true h k = k refl
same_tests false false h k = refl

-- what a test adds to a count
abbrev pub ones : Bool → ℕ
ones b = cond b 1 0

-- the count of one number more
pub count_more : (n : ℕ) (f : ℕ → Bool) → count_below (suc n) f ≡ count_below n f + ones (f n)
count_more n f = by_test (f n) (λ t. rw (count_pass n f t, t) (omega arith)) (λ t. rw (count_fail n f t, t) (omega arith))

-- where no number passes both f and g, the count of those that pass one of them is the sum
pub count_or : (n : ℕ) (h f g : ℕ → Bool) → ((i : ℕ) → i < n → h i ≡ f i || g i) → ((i : ℕ) → i < n → f i ≡ true → g i ≡ false)
    → count_below n h ≡ count_below n f + count_below n g
count_or zero h f g e d = omega (arith, count_start h, count_start f, count_start g)
count_or (suc n) h f g e d =
    let ih = count_or n h f g (λ i b. e i (le_step b)) (λ i b. d i (le_step b)) in
    let here : ones (h n) ≡ ones (f n) + ones (g n) = rw (e n (lt-suc_self n)) (apart (f n) (g n) (d n (lt-suc_self n))) in
    omega (arith, count_more n h, count_more n f, count_more n g)
  where
    apart : (a b : Bool) → (a ≡ true → b ≡ false) → ones (a || b) ≡ ones a + ones b
    apart true b k = rw (k refl)
    apart false true k = refl
    apart false false k = refl

-- of one number alone, where a passing b says that it is below n
pub count_at : (n i : ℕ) (b : Bool) → (b ≡ true → i < n) → count_below n (λ p. eqb i p && b) ≡ ones b
count_at n i true h =
    one_count n (λ p. eqb i p && true) i (h refl) (rw (eq-eqb i i refl)) (λ k _ t. sym (eqb-true i k (rw and-true at t)))
count_at n i false h = count_zero n (λ p. eqb i p && false) (λ k _. and-false (eqb i k))

-- f implies g, and no more numbers pass g: where g passes, f does
pub count_full : (n : ℕ) (f g : ℕ → Bool) → ((i : ℕ) → i < n → f i ≡ true → g i ≡ true) → count_below n g ≤ count_below n f
    → (i : ℕ) → i < n → g i ≡ true → f i ≡ true
count_full n f g h few i low t =
    let rest : ℕ → Bool = λ k. g k && not (f k) in
    let sum = count_or n g f rest (λ k b. split (f k) (g k) (h k b)) (λ k b p. rw (p, and-false)) in
    by_test (f i) (λ p. p) (λ p. absurd (omega (arith, count_positive n rest i low (rw (t, p)))))
  where
    split : (a b : Bool) → (a ≡ true → b ≡ true) → b ≡ a || (b && not a)
    split true b k = k refl
    split false b k = sym (and-true b)

-- the count below a + n is that below a with that of the n numbers from a on
pub count_from : (a n : ℕ) (f : ℕ → Bool) → count_below (a + n) f ≡ count_below a f + count_below n (λ i. f (a + i))
count_from a zero f = rw add-zero (omega (arith, count_start (λ i. f (a + i))))
count_from a (suc n) f = rw add-suc (omega (arith, count_from a n f, count_more (a + n) f, count_more n (λ i. f (a + i))))
