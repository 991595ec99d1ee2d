-- Laws of counts: how many of the numbers below a bound pass a test.
use Prim.Native.Nat.{ℕ, zero, suc, ◌≤◌, ◌<◌, suc-le-suc, ◌+◌}
use native.Mathlib.Nat.{not-suc-le-zero, le_step, lt-suc_self, le_refl, ne_of_lt, zero-lt-suc}
use native.Mathlib.Omega.{arith}
use native.Mathlib.Decide.{ℕ_discrete}
use mathlib.Core.Path.{◌≡◌, refl, sym, ap, ◌∙◌}
use mathlib.Core.Logic.{◌≢◌}
use mathlib.Core.Bool.{Bool, true, false, not, ◌&&◌, and-true, and-false, cond}
use lib.Dec.{eqb, ltb}
use lib.Arith.{le-zero}
use borrow.Author.Tests.{lt-ltb, le-ltb, eq-eqb, ne_eqb}
use Rattle.ranges.specs.Look.{some_below, count_below}
use Rattle.ranges.proofs.Looks.{by_test, by_order, by_three, at_last, some_at, some_none}

-- the next number, bounds, and where all or none pass
pub count_pass : (n : ℕ) (f : ℕ → Bool) → f n ≡ true → count_below (suc n) f ≡ suc (count_below n f)
unfolding count_below
count_pass n f t = rw t

pub count_fail : (n : ℕ) (f : ℕ → Bool) → f n ≡ false → count_below (suc n) f ≡ count_below n f
unfolding count_below
count_fail n f t = rw t

pub count_next : (n : ℕ) (f : ℕ → Bool) → (count_below n f ≤ count_below (suc n) f) × (count_below (suc n) f ≤ suc (count_below n f))
count_next n f = by_test (f n) (λ t. omega (arith, count_pass n f t)) (λ t. omega (arith, count_fail n f t))

pub count_start : (f : ℕ → Bool) → count_below 0 f ≡ 0
unfolding count_below
count_start f = refl

pub count_le : (n : ℕ) (f : ℕ → Bool) → count_below n f ≤ n
count_le zero f = omega (arith, count_start f)
count_le (suc n) f = omega (arith, count_next n f, count_le n f)

pub count_mono : (n m : ℕ) (f : ℕ → Bool) → n ≤ m → count_below n f ≤ count_below m f
count_mono n zero f h = rw (le-zero h) (le_refl (count_below 0 f))
count_mono n (suc m) f h = at_last n (suc m) (suc-le-suc h)
    (λ b. omega (arith, count_next m f, count_mono n m f (omega arith)))
    (λ q. rw q (le_refl (count_below (suc m) f)))

pub count_cong : (n : ℕ) (f g : ℕ → Bool) → ((i : ℕ) → i < n → f i ≡ g i) → count_below n f ≡ count_below n g
unfolding count_below
count_cong zero f g h = refl
count_cong (suc n) f g h = rw (count_cong n f g (λ i b. h i (le_step b)), h n (lt-suc_self n))

pub count_zero : (n : ℕ) (f : ℕ → Bool) → ((i : ℕ) → i < n → f i ≡ false) → count_below n f ≡ 0
count_zero zero f h = count_start f
count_zero (suc n) f h = count_fail n f (h n (lt-suc_self n)) ∙ count_zero n f (λ i b. h i (le_step b))

pub count_all : (n : ℕ) (f : ℕ → Bool) → ((i : ℕ) → i < n → f i ≡ true) → count_below n f ≡ n
count_all zero f h = count_start f
count_all (suc n) f h = count_pass n f (h n (lt-suc_self n)) ∙ ap suc (count_all n f (λ i b. h i (le_step b)))

pub count_less : (n : ℕ) (f : ℕ → Bool) (i : ℕ) → i < n → f i ≡ false → count_below n f < n
count_less zero f i h t = absurd (not-suc-le-zero h)
count_less (suc n) f i h t = at_last i n h
    (λ b. omega (arith, count_next n f, count_less n f i b t))
    (λ q. omega (arith, count_fail n f (rw q at t), count_le n f))

pub count_positive : (n : ℕ) (f : ℕ → Bool) (i : ℕ) → i < n → f i ≡ true → 0 < count_below n f
count_positive n f i h t = omega (arith, count_mono (suc i) n f h, count_pass i f t)

pub count_found : (n : ℕ) (f : ℕ → Bool) → 0 < count_below n f → (i : ℕ) × (i < n) × (f i ≡ true)
count_found n f h = by_test (some_below n f) (some_at n f)
    (λ t. absurd (omega (arith, count_zero n f (some_none n f t))))

-- a number that passes makes the count grow, so the counts below tell such numbers apart
pub count_grows : (f : ℕ → Bool) (i j : ℕ) → i < j → f i ≡ true → count_below i f < count_below j f
count_grows f i j h t = omega (arith, count_mono (suc i) j f h, count_pass i f t)

pub count_same : (f : ℕ → Bool) (i j : ℕ) → f i ≡ true → f j ≡ true → count_below i f ≡ count_below j f → i ≡ j
count_same f i j s t e = by_three i j
    (λ h. absurd (omega (arith, count_grows f i j h s)))
    (λ q. q)
    (λ h. absurd (omega (arith, count_grows f j i h t)))

-- two that pass
two_in_order : (n : ℕ) (f : ℕ → Bool) (i j : ℕ) → i < j → j < n → f i ≡ true → f j ≡ true → 2 ≤ count_below n f
two_in_order n f i j h below s t = omega (arith, count_mono (suc j) n f below, count_pass j f t, count_positive j f i h s)

pub count_two : (n : ℕ) (f : ℕ → Bool) (i j : ℕ) → i < n → j < n → i ≢ j → f i ≡ true → f j ≡ true → 2 ≤ count_below n f
count_two n f i j h h' d s t =
    by_three i j (λ less. two_in_order n f i j less h' s t) (λ e. absurd (d e)) (λ more. two_in_order n f j i more h t s)

pub count_other : (n : ℕ) (f : ℕ → Bool) (b : ℕ) → 2 ≤ count_below n f → (i : ℕ) × (i < n) × (i ≢ b) × (f i ≡ true)
count_other zero f b h = absurd (omega (arith, count_start f))
count_other (suc n) f b h = by_test (f n)
    (λ t. elim (ℕ_discrete n b) [
      | yes e ↦ let (i, low, s) = count_found n f (omega (arith, count_pass n f t)) in (i, le_step low, λ q. omega arith, s)
      | no d ↦ (n, lt-suc_self n, d, t)
    ])
    (λ t. let (i, low, d, s) = count_other n f b (omega (arith, count_fail n f t)) in (i, le_step low, d, s))

-- two tests
pub count_implies : (n : ℕ) (f g : ℕ → Bool) → ((i : ℕ) → i < n → f i ≡ true → g i ≡ true) → count_below n f ≤ count_below n g
count_implies zero f g h = omega (arith, count_start f)
count_implies (suc n) f g h = let ih = count_implies n f g (λ i b. h i (le_step b)) in by_test (f n)
    (λ t. omega (arith, count_pass n f t, count_pass n g (h n (lt-suc_self n) t)))
    (λ t. omega (arith, count_fail n f t, count_next n g))

still_one_more : (n : ℕ) (f g : ℕ → Bool) → count_below n g ≡ suc (count_below n f) → f n ≡ g n → count_below (suc n) g ≡ suc (count_below (suc n) f)
still_one_more n f g e same = by_test (f n)
    (λ t. omega (arith, count_pass n f t, count_pass n g (sym same ∙ t)))
    (λ t. omega (arith, count_fail n f t, count_fail n g (sym same ∙ t)))

pub count_flip : (n : ℕ) (f g : ℕ → Bool) (i : ℕ) → i < n → f i ≡ false → g i ≡ true → ((k : ℕ) → k < n → k ≢ i → f k ≡ g k)
    → count_below n g ≡ suc (count_below n f)
count_flip zero f g i h nay yea e = absurd (not-suc-le-zero h)
count_flip (suc n) f g i h nay yea e = at_last i n h
    (λ b. still_one_more n f g (count_flip n f g i b nay yea (λ k c. e k (le_step c))) (e n (lt-suc_self n) (omega arith)))
    (λ q. count_pass n g (rw q at yea) ∙ ap suc (sym (count_fail n f (rw q at nay) ∙ count_cong n f g (λ k c. e k (le_step c) (omega arith)))))

-- pigeonhole
except : (ℕ → Bool) → ℕ → ℕ → Bool
except s c k = s k && not (eqb k c)

except_at : (s : ℕ → Bool) (c : ℕ) → except s c c ≡ false
unfolding except
except_at s c = rw (eq-eqb c c refl, and-false)

except_other : (s : ℕ → Bool) (c k : ℕ) → k ≢ c → except s c k ≡ s k
unfolding except
except_other s c k d = rw (ne_eqb k c d, and-true)

count_except : (m : ℕ) (s : ℕ → Bool) (c : ℕ) → c < m → s c ≡ true → count_below m s ≡ suc (count_below m (except s c))
count_except m s c h t = count_flip m (except s c) s c h (except_at s c) t (λ k _. except_other s c k)

-- f takes those below n that pass t to those below m that pass s; no two of them to one
abbrev pub Into : ℕ → ℕ → (ℕ → Bool) → (ℕ → Bool) → (ℕ → ℕ) → Type 0
Into n m t s f = (i : ℕ) → i < n → t i ≡ true → (f i < m) × (s (f i) ≡ true)

abbrev pub OneToOne : ℕ → (ℕ → Bool) → (ℕ → ℕ) → Type 0
OneToOne n t f = (i j : ℕ) → i < n → j < n → t i ≡ true → t j ≡ true → f i ≡ f j → i ≡ j

fewer : (n : ℕ) (t : ℕ → Bool) (f : ℕ → ℕ) → OneToOne (suc n) t f → OneToOne n t f
fewer n t f inj i j b c = inj i j (le_step b) (le_step c)

into_except : (n m : ℕ) (t s : ℕ → Bool) (f : ℕ → ℕ) → t n ≡ true → Into (suc n) m t s f → OneToOne (suc n) t f → Into n m t (except s (f n)) f
into_except n m t s f p to inj i b q =
    let (below, passes) = to i (le_step b) q in
    let other : f i ≢ f n = λ e. ne_of_lt b (inj i n (le_step b) (lt-suc_self n) q p e) in
    (below, except_other s (f n) (f i) other ∙ passes)

pub pigeonhole_into : (n m : ℕ) (t s : ℕ → Bool) (f : ℕ → ℕ) → Into n m t s f → OneToOne n t f → count_below n t ≤ count_below m s
pigeonhole_into zero m t s f to inj = omega (arith, count_start t)
pigeonhole_into (suc n) m t s f to inj = by_test (t n)
    (λ p.
    let (below, passes) = to n (lt-suc_self n) p in
    let ih = pigeonhole_into n m t (except s (f n)) f (into_except n m t s f p to inj) (fewer n t f inj) in
    omega (arith, ih, count_pass n t p, count_except m s (f n) below passes))
    (λ p. omega (arith, count_fail n t p, pigeonhole_into n m t s f (λ i b. to i (le_step b)) (fewer n t f inj)))

pub pigeonhole : (n m : ℕ) (t : ℕ → Bool) (f : ℕ → ℕ) → ((i : ℕ) → i < n → t i ≡ true → f i < m) → OneToOne n t f → count_below n t ≤ m
pigeonhole n m t f to inj = omega (arith, count_le m (λ k. true), pigeonhole_into n m t (λ k. true) f (λ i b q. (to i b q, refl)) inj)

-- n numbers taken one to one to those below m that pass s
pub all_into : (n m : ℕ) (s : ℕ → Bool) (f : ℕ → ℕ) → ((i : ℕ) → i < n → (f i < m) × (s (f i) ≡ true))
    → ((i j : ℕ) → i < n → j < n → f i ≡ f j → i ≡ j) → n ≤ count_below m s
all_into n m s f to one =
    omega (arith, count_all n (λ i. true) (λ i h. refl), pigeonhole_into n m (λ i. true) s f (λ i h _. to i h) (λ i j h h' _ _. one i j h h'))

-- a count of 1 is one and only one
pub count_one : (n : ℕ) (f : ℕ → Bool) → count_below n f ≡ 1
    → (i : ℕ) × (i < n) × (f i ≡ true) × ((k : ℕ) → k < n → f k ≡ true → k ≡ i)
count_one n f e =
    let (i, h, t) = count_found n f (omega arith) in (
      i,
      h,
      t,
      λ k b q. by_three k i
          (λ less. absurd (omega (arith, two_in_order n f k i less h q t)))
          (λ same. same)
          (λ more. absurd (omega (arith, two_in_order n f i k more b t q))),
    )

pub one_count : (n : ℕ) (f : ℕ → Bool) (i : ℕ) → i < n → f i ≡ true → ((k : ℕ) → k < n → f k ≡ true → k ≡ i) → count_below n f ≡ 1
one_count n f i h t only =
    let most = pigeonhole n 1 f (λ k. 0) (λ k b q. zero-lt-suc 0) (λ k m b c p q e. only k b p ∙ sym (only m c q)) in
    omega (arith, most, count_positive n f i h t)

-- ---- ranks

-- f' is f, but no longer true at a
pub record Loses (n : ℕ) (f f' : ℕ → Bool) (a : ℕ) : Type 0 where
  pub had : f a ≡ true
  pub lost : f' a ≡ false
  pub other : (i : ℕ) → i < n → i ≢ a → f' i ≡ f i

-- the counts before and after, below and above that number
loses_below : (n : ℕ) (f f' : ℕ → Bool) (a : ℕ) → Loses n f f' a → (i : ℕ) → i < n → i ≤ a → count_below i f' ≡ count_below i f
loses_below n f f' a h i b low = count_cong i f' f (λ k c. h.other k (omega arith) (omega arith))

loses_above : (n : ℕ) (f f' : ℕ → Bool) (a : ℕ) → Loses n f f' a → (i : ℕ) → i < n → a < i → count_below i f ≡ suc (count_below i f')
loses_above n f f' a h i b high = count_flip i f' f a high h.lost h.had (λ k c. h.other k (omega arith))

-- numbers of the same rank stay so when one of each side goes, and these two were of one rank
pub ranks_stay : (n : ℕ) (f f' g g' : ℕ → Bool) (a k : ℕ) → Loses n f f' a → Loses n g g' k → count_below k g ≡ count_below a f
    → (i m : ℕ) → i < n → m < n → m ≢ k → count_below m g ≡ count_below i f → count_below m g' ≡ count_below i f'
ranks_stay n f f' g g' a k hf hg gone i m bi bm d e = by_three m k
    (λ low. by_order a i
    (λ h. absurd (omega (arith, count_grows f a i h hf.had, count_mono m k g (omega arith))))
    (λ h. loses_below n g g' k hg m bm (omega arith) ∙ e ∙ sym (loses_below n f f' a hf i bi h)))
    (λ same. absurd (d same))
    (λ high. by_order a i
    (λ h. omega (arith, loses_above n g g' k hg m bm high, loses_above n f f' a hf i bi h))
    (λ h. absurd (omega (arith, count_grows g k m high hg.had, count_mono i a f h))))

-- ---- a stretch left out

-- the numbers but the k that begin with a, in order
unfoldable pub past : ℕ → ℕ → ℕ → ℕ
past a k n = cond (ltb n a) n (n + k)

by_past {ℓ} : {P : Type ℓ} (a k n : ℕ) → (n < a → past a k n ≡ n → P) → (a ≤ n → past a k n ≡ n + k → P) → P
unfolding past
by_past a k n before behind = by_order n a (λ h. before h (rw (lt-ltb n a h))) (λ h. behind h (rw (le-ltb n a h)))

pub past_one : (a k n m : ℕ) → past a k n ≡ past a k m → n ≡ m
past_one a k n m e = by_past a k n
    (λ h q. by_past a k m (λ h' q'. omega arith) (λ h' q'. omega arith))
    (λ h q. by_past a k m (λ h' q'. omega arith) (λ h' q'. omega arith))

pub past_fits : (a k n m : ℕ) → a + k ≤ m → n + k < m → past a k n < m
past_fits a k n m h below = by_past a k n (λ low q. omega arith) (λ high q. omega arith)

pub past_apart : (a k n i : ℕ) → i < k → past a k n ≢ a + i
past_apart a k n i h e = by_past a k n (λ low q. omega arith) (λ high q. omega arith)

-- what passes f does not pass g: together they are no more than n
pub count_apart : (n : ℕ) (f g : ℕ → Bool) → ((i : ℕ) → i < n → f i ≡ true → g i ≡ false) → count_below n f + count_below n g ≤ n
count_apart zero f g h = omega (arith, count_start f, count_start g)
count_apart (suc n) f g h =
    let ih = count_apart n f g (λ i b. h i (le_step b)) in
    by_test (f n)
    (λ t. omega (arith, count_pass n f t, count_fail n g (h n (lt-suc_self n) t)))
    (λ t. omega (arith, count_fail n f t, count_next n g))
