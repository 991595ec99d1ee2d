-- Laws of sums of the numbers f 0, f 1, .. below a bound.
use Prim.Native.Nat.{ℕ, zero, suc, ◌+◌, ◌≤◌, ◌<◌, suc-le-suc}
use native.Mathlib.Nat.{le_step, lt-suc_self, not-suc-le-zero}
use native.Mathlib.Numerals.{add-one}
use native.Mathlib.Omega.{arith}
use mathlib.Core.Path.{◌≡◌, refl, sym, ap}
use mathlib.Core.Bool.{Bool, cond}
use lib.Dec.{eqb, ltb}
use lib.Arith.{le-zero}
use borrow.Author.Tests.{eq-eqb, ne_eqb, eqb-true, lt-ltb, le-ltb}
use Rattle.ranges.specs.Look.{all_below, count_below, sum_below}
use Rattle.ranges.proofs.Looks.{at_last, all_at, all_true}
use Rattle.ranges.proofs.Counts.{count_start}
use Rattle.ranges.proofs.Tallies.{same_tests, ones, count_more}

-- the sum of none, and of one number more
pub sum_start : (f : ℕ → ℕ) → sum_below 0 f ≡ 0
unfolding sum_below
sum_start f = refl

pub sum_more : (n : ℕ) (f : ℕ → ℕ) → sum_below (suc n) f ≡ sum_below n f + f n
unfolding sum_below
sum_more n f = refl

-- sums of the same numbers are the same
pub sum_cong : (n : ℕ) (f g : ℕ → ℕ) → ((i : ℕ) → i < n → f i ≡ g i) → sum_below n f ≡ sum_below n g
unfolding sum_below
sum_cong zero f g h = refl
sum_cong (suc n) f g h = rw (sum_cong n f g (λ i b. h i (le_step b)), h n (lt-suc_self n))

-- each of the numbers is at most the sum
pub sum_at : (n : ℕ) (f : ℕ → ℕ) (i : ℕ) → i < n → f i ≤ sum_below n f
sum_at zero f i h = absurd (not-suc-le-zero h)
sum_at (suc n) f i h = at_last i n h
    (λ b. omega (arith, sum_more n f, sum_at n f i b))
    (λ q. rw q (omega (arith, sum_more n f)))

-- where each number is at most the other, so is the sum
sum_le : (n : ℕ) (f g : ℕ → ℕ) → ((i : ℕ) → i < n → f i ≤ g i) → sum_below n f ≤ sum_below n g
sum_le zero f g h = omega (arith, sum_start f)
sum_le (suc n) f g h =
    omega (arith, sum_more n f, sum_more n g, sum_le n f g (λ i b. h i (le_step b)), h n (lt-suc_self n))

-- and reaches the other sum only where each number reaches the other
sum_full : (n : ℕ) (f g : ℕ → ℕ) → ((i : ℕ) → i < n → f i ≤ g i) → sum_below n g ≤ sum_below n f → (i : ℕ) → i < n → f i ≡ g i
sum_full zero f g h few i low = absurd (not-suc-le-zero low)
sum_full (suc n) f g h few i low =
    let below : (k : ℕ) → k < n → f k ≤ g k = λ k b. h k (le_step b) in
    let rest = sum_le n f g below in
    let last = h n (lt-suc_self n) in
    at_last i n low
    (λ b. sum_full n f g below (omega (arith, sum_more n f, sum_more n g)) i b)
    (λ q. rw q (omega (arith, sum_more n f, sum_more n g)))

-- so the sums are the same exactly where all the numbers are
pub sum_same : (n : ℕ) (f g : ℕ → ℕ) → ((i : ℕ) → i < n → f i ≤ g i) → eqb (sum_below n f) (sum_below n g) ≡ all_below n (λ i. eqb (f i) (g i))
sum_same n f g h =
    let same : ℕ → Bool = λ i. eqb (f i) (g i) in
    same_tests (eqb (sum_below n f) (sum_below n g)) (all_below n same)
    (λ t.
    let e = eqb-true (sum_below n f) (sum_below n g) t in
    all_true n same (λ i b. eq-eqb (f i) (g i) (sum_full n f g h (omega arith) i b)))
    (λ t. eq-eqb (sum_below n f) (sum_below n g) (sum_cong n f g (λ i b. eqb-true (f i) (g i) (all_at n same t i b))))

-- numbers that are 0 from n on add nothing
pub sum_beyond : (n m : ℕ) (f : ℕ → ℕ) → n ≤ m → ((i : ℕ) → n ≤ i → i < m → f i ≡ 0) → sum_below m f ≡ sum_below n f
sum_beyond n zero f h z = rw (le-zero h)
sum_beyond n (suc m) f h z = at_last n (suc m) (suc-le-suc h)
    (λ b. omega (arith, sum_more m f, z m (omega arith) (lt-suc_self m), sum_beyond n m f (omega arith) (λ i a c. z i a (le_step c))))
    (λ q. rw q)

-- the sum of two numbers each is the two sums together
sum_plus : (n : ℕ) (f g : ℕ → ℕ) → sum_below n (λ i. f i + g i) ≡ sum_below n f + sum_below n g
sum_plus zero f g = omega (arith, sum_start f, sum_start g, sum_start (λ i. f i + g i))
sum_plus (suc n) f g = omega (arith, sum_more n f, sum_more n g, sum_more n (λ i. f i + g i), sum_plus n f g)

-- the sum of nothing but 0
sum_zero : (n : ℕ) → sum_below n (λ i. 0) ≡ 0
unfolding sum_below
sum_zero zero = refl
sum_zero (suc n) = rw (sum_zero n)

-- row by row and column by column the sum is the same
pub sum_swap : (n m : ℕ) (f : ℕ → ℕ → ℕ) → sum_below n (λ i. sum_below m (f i)) ≡ sum_below m (λ j. sum_below n (λ i. f i j))
unfolding sum_below
sum_swap zero m f = sym (sum_zero m)
sum_swap (suc n) m f = rw (sum_plus m (λ j. sum_below n (λ i. f i j)) (f n), sum_swap n m f)

-- two counts are the sum of what the tests add
pub counts_sum : (n : ℕ) (f g : ℕ → Bool) → count_below n f + count_below n g ≡ sum_below n (λ i. ones (f i) + ones (g i))
counts_sum zero f g = omega (arith, count_start f, count_start g, sum_start (λ i. ones (f i) + ones (g i)))
counts_sum (suc n) f g = omega (arith, count_more n f, count_more n g, sum_more n (λ i. ones (f i) + ones (g i)), counts_sum n f g)

-- a count is the sum of what its test adds
pub count_sum : (n : ℕ) (f : ℕ → Bool) → count_below n f ≡ sum_below n (λ i. ones (f i))
count_sum zero f = omega (arith, count_start f, sum_start (λ i. ones (f i)))
count_sum (suc n) f = omega (arith, count_more n f, sum_more n (λ i. ones (f i)), count_sum n f)

-- the numbers f are the numbers g with one more between them, at k
pub sum_gap : (n k : ℕ) (f g : ℕ → ℕ) → k ≤ n → ((i : ℕ) → i < n → f (cond (ltb i k) i (i + 1)) ≡ g i)
    → sum_below (suc n) f ≡ sum_below n g + f k
sum_gap zero k f g h e = rw (le-zero h) (omega (arith, sum_more 0 f, sum_start f, sum_start g))
sum_gap (suc n) k f g h e = at_last k (suc n) (suc-le-suc h)
    (λ b.
    let ih = sum_gap n k f g (omega arith) (λ i c. e i (le_step c)) in
    let last : f (suc n) ≡ g n = rw (le-ltb n k (omega arith), add-one) at (e n (lt-suc_self n)) in
    omega (arith, sum_more (suc n) f, sum_more n g))
    (λ q. rw q (
    let low = sum_cong (suc n) f g (λ i c. rw (lt-ltb i k (omega arith)) at (e i c)) in
    omega (arith, sum_more (suc n) f)))

-- the numbers f, but 0 at k
abbrev pub but : ℕ → (ℕ → ℕ) → ℕ → ℕ
but k f i = cond (eqb i k) 0 (f i)

-- their sum is the same where k is not below the bound
pub sum_but_none : (n k : ℕ) (f : ℕ → ℕ) → n ≤ k → sum_below n (but k f) ≡ sum_below n f
sum_but_none n k f h = sum_cong n (but k f) f (λ i b. rw (ne_eqb i k (omega arith)))

-- and less by that number where it is
pub sum_but : (n k : ℕ) (f : ℕ → ℕ) → k < n → sum_below n (but k f) + f k ≡ sum_below n f
sum_but zero k f h = absurd (not-suc-le-zero h)
sum_but (suc n) k f h =
    let more = sum_more n (but k f) in
    at_last k n h
    (λ b. let last : but k f n ≡ f n = rw (ne_eqb n k (omega arith)) in omega (arith, sum_more n f, sum_but n k f b))
    (λ q. let last : but k f n ≡ 0 = rw (eq-eqb n k (sym q)) in let same = ap f q in omega (arith, sum_more n f, sum_but_none n k f (omega arith)))
