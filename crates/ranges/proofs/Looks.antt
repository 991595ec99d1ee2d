-- Laws of the ways to look through the numbers below a bound.
use Prim.Native.Nat.{ℕ, zero, suc, ◌≤◌, ◌<◌, suc-le-suc}
use native.Mathlib.Nat.{not-suc-le-zero, le_step, lt-suc_self, le_refl, le_of_lt, lt_of_lt_of_le}
use native.Mathlib.Omega.{arith}
use native.Mathlib.Decide.{dec_lt, ℕ_discrete}
use mathlib.Core.Path.{◌≡◌, refl, sym, ap, ◌∙◌}
use mathlib.Core.Logic.{◌≢◌}
use mathlib.Core.Bool.{Bool, true, false, true≢false, and-eq-true_iff, and-true, or-true, or-false, ◌&&◌}
use borrow.Author.Tests.{lt-ltb, le-ltb}
use Rattle.std.specs.Prelude.{Option, Some, None}
use Rattle.ranges.specs.Look.{all_below, some_below, first_below, last_below, least_below, when_found}

-- cases: of a test, of the last number below suc n, of an order, of two numbers, of an answer
pub by_test {ℓ} : {P : Type ℓ} (b : Bool) → (b ≡ true → P) → (b ≡ false → P) → P
by_test true yea nay = yea refl
by_test false yea nay = nay refl

pub at_last {ℓ} : {P : Type ℓ} (i n : ℕ) → i < suc n → (i < n → P) → (i ≡ n → P) → P
at_last i n h below last = elim (dec_lt i n) [ yes b ↦ below b | no b ↦ last (omega arith) ]

pub by_order {ℓ} : {P : Type ℓ} (a b : ℕ) → (a < b → P) → (b ≤ a → P) → P
by_order a b less rest = elim (dec_lt a b) [ yes h ↦ less h | no h ↦ rest (omega arith) ]

pub by_three {ℓ} : {P : Type ℓ} (a b : ℕ) → (a < b → P) → (a ≡ b → P) → (b < a → P) → P
by_three a b less same more = by_order a b less (λ h. at_last b a (suc-le-suc h) more (λ q. same (sym q)))

pub by_same {ℓ} : {P : Type ℓ} (a b : ℕ) → (a ≡ b → P) → (a ≢ b → P) → P
by_same a b same other = elim (ℕ_discrete a b) [ yes e ↦ same e | no d ↦ other d ]

pub by_found {ℓ} : {P : Type ℓ} (r : Option ℕ) → ((i : ℕ) → r ≡ Some i → P) → (r ≡ None → P) → P
by_found (Some i) at nothing = at i refl
by_found None at nothing = nothing refl

pub both {ℓ} : {P : Type ℓ} (b : Bool) → b ≡ true → b ≡ false → P
both b t f = absurd (true≢false (sym t ∙ f))

pub not_found {ℓ} : {P : Type ℓ} (i : ℕ) → None ≡ Some i → P
not_found i e = let z : ◌≡◌ {A = ℕ} 0 1 = cc in absurd (omega arith)

pub when_found_lem : (f : Option ℕ) → when_found f (λ b. true) false ≡ true → (b : ℕ) × (f ≡ Some b)
unfolding when_found
when_found_lem (Some b) e = (b, refl)
when_found_lem None e = both false e refl

-- all
pub all_true : (n : ℕ) (f : ℕ → Bool) → ((i : ℕ) → i < n → f i ≡ true) → all_below n f ≡ true
unfolding all_below
all_true zero f h = refl
all_true (suc n) f h = rw (all_true n f (λ i b. h i (le_step b)), h n (lt-suc_self n))

pub all_at : (n : ℕ) (f : ℕ → Bool) → all_below n f ≡ true → (i : ℕ) → i < n → f i ≡ true
unfolding all_below
all_at zero f e i h = absurd (not-suc-le-zero h)
all_at (suc n) f e i h =
    let p = (and-eq-true_iff (all_below n f) (f n)).0 e in
    at_last i n h (all_at n f p.0 i) (λ q. rw q p.1)

pub all_false : (n : ℕ) (f : ℕ → Bool) → all_below n f ≡ false → (i : ℕ) × (i < n) × (f i ≡ false)
unfolding all_below
all_false zero f e = both true refl e
all_false (suc n) f e = by_test (f n)
    (λ t. let r = all_false n f (rw (t, and-true) at e) in (r.0, le_step r.1, r.2))
    (λ t. (n, lt-suc_self n, t))

pub all_cong : (n : ℕ) (f g : ℕ → Bool) → ((i : ℕ) → i < n → f i ≡ g i) → all_below n f ≡ all_below n g
unfolding all_below
all_cong zero f g h = refl
all_cong (suc n) f g h = rw (all_cong n f g (λ i b. h i (le_step b)), h n (lt-suc_self n))

-- all numbers pass both tests exactly where all pass each
pub all_both : (n : ℕ) (f g : ℕ → Bool) → all_below n (λ i. f i && g i) ≡ all_below n f && all_below n g
unfolding all_below
all_both zero f g = refl
all_both (suc n) f g = rw (all_both n f g) (swap (all_below n f) (all_below n g) (f n) (g n))
  where
    swap : (a b c d : Bool) → (a && b) && (c && d) ≡ (a && c) && (b && d)
    swap true true c d = refl
    swap true false true d = refl
    swap true false false d = refl
    swap false b c d = refl

-- some
pub some_true : (n : ℕ) (f : ℕ → Bool) (i : ℕ) → i < n → f i ≡ true → some_below n f ≡ true
unfolding some_below
some_true zero f i h t = absurd (not-suc-le-zero h)
some_true (suc n) f i h t =
    at_last i n h (λ b. rw (some_true n f i b t)) (λ q. let s : f n ≡ true = rw q at t in rw (s, or-true))

pub some_at : (n : ℕ) (f : ℕ → Bool) → some_below n f ≡ true → (i : ℕ) × (i < n) × (f i ≡ true)
unfolding some_below
some_at zero f e = both false e refl
some_at (suc n) f e = by_test (f n)
    (λ t. (n, lt-suc_self n, t))
    (λ t. let r = some_at n f (rw (t, or-false) at e) in (r.0, le_step r.1, r.2))

pub some_none : (n : ℕ) (f : ℕ → Bool) → some_below n f ≡ false → (i : ℕ) → i < n → f i ≡ false
some_none n f e i h = by_test (f i) (λ t. both (some_below n f) (some_true n f i h t) e) (λ t. t)

pub some_false : (n : ℕ) (f : ℕ → Bool) → ((i : ℕ) → i < n → f i ≡ false) → some_below n f ≡ false
some_false n f h = by_test (some_below n f) (λ t. let r = some_at n f t in both (f r.0) r.2 (h r.0 r.1)) (λ t. t)

pub some_cong : (n : ℕ) (f g : ℕ → Bool) → ((i : ℕ) → i < n → f i ≡ g i) → some_below n f ≡ some_below n g
unfolding some_below
some_cong zero f g h = refl
some_cong (suc n) f g h = rw (some_cong n f g (λ i b. h i (le_step b)), h n (lt-suc_self n))

-- first: the next number, what the answer tells, and what tells the answer
pub first_start : (f : ℕ → Bool) → first_below 0 f ≡ None
unfolding first_below
first_start f = refl

pub first_keeps : (n : ℕ) (f : ℕ → Bool) (i : ℕ) → first_below n f ≡ Some i → first_below (suc n) f ≡ Some i
unfolding first_below
first_keeps n f i e = rw e

pub first_here : (n : ℕ) (f : ℕ → Bool) → first_below n f ≡ None → f n ≡ true → first_below (suc n) f ≡ Some n
unfolding first_below
first_here n f e t = rw (e, t)

pub first_not_here : (n : ℕ) (f : ℕ → Bool) → first_below n f ≡ None → f n ≡ false → first_below (suc n) f ≡ None
unfolding first_below
first_not_here n f e t = rw (e, t)

by_first {ℓ} : {P : Type ℓ} (n : ℕ) (f : ℕ → Bool)
    → ((k : ℕ) → first_below n f ≡ Some k → P) → (first_below n f ≡ None → f n ≡ true → P) → (first_below n f ≡ None → f n ≡ false → P)
    → P
by_first n f keeps here not-here = by_found (first_below n f) keeps (λ q. by_test (f n) (here q) (not-here q))

pub first_nothing : (n : ℕ) (f : ℕ → Bool) → first_below n f ≡ None → (i : ℕ) → i < n → f i ≡ false
first_nothing zero f e i h = absurd (not-suc-le-zero h)
first_nothing (suc n) f e i h = by_first n f
    (λ k q. cc (first_keeps n f k q))
    (λ q t. cc (first_here n f q t))
    (λ q t. at_last i n h (first_nothing n f q i) (λ r. rw r t))

pub first_at : (n : ℕ) (f : ℕ → Bool) (i : ℕ) → first_below n f ≡ Some i → (i < n) × (f i ≡ true) × ((k : ℕ) → k < i → f k ≡ false)
first_at zero f i e = not_found i (sym (first_start f) ∙ e)
first_at (suc n) f i e = by_first n f
    (λ k q. let ih = first_at n f i (cc (first_keeps n f k q)) in (le_step ih.0, ih.1, ih.2))
    (λ q t. let r : n ≡ i = cc (first_here n f q t) in rw (← r) (lt-suc_self n, t, first_nothing n f q))
    (λ q t. not_found i (cc (first_not_here n f q t)))

pub first_found : (n : ℕ) (f : ℕ → Bool) (i : ℕ) → i < n → f i ≡ true → (k : ℕ) × (first_below n f ≡ Some k)
first_found n f i h t = by_found (first_below n f) (λ k q. (k, q)) (λ q. both (f i) t (first_nothing n f q i h))

pub first_is : (n : ℕ) (f : ℕ → Bool) (i : ℕ) → i < n → f i ≡ true → ((k : ℕ) → k < i → f k ≡ false) → first_below n f ≡ Some i
first_is n f i h t below =
    let (k, e) = first_found n f i h t in
    let l = first_at n f k e in
    by_three k i (λ b. both (f k) l.1 (below k b)) (λ q. e ∙ ap Some q) (λ b. both (f i) t (l.2 i b))

pub first_none : (n : ℕ) (f : ℕ → Bool) → ((i : ℕ) → i < n → f i ≡ false) → first_below n f ≡ None
first_none n f h = by_found (first_below n f) (λ i q. let l = first_at n f i q in both (f i) l.1 (h i l.0)) (λ q. q)

pub first_cong : (n : ℕ) (f g : ℕ → Bool) → ((i : ℕ) → i < n → f i ≡ g i) → first_below n f ≡ first_below n g
unfolding first_below
first_cong zero f g h = refl
first_cong (suc n) f g h = rw (first_cong n f g (λ i b. h i (le_step b)), h n (lt-suc_self n))

-- least: the next number, what the answer tells, and what tells the answer
pub least_start : (f : ℕ → Bool) (m : ℕ → ℕ) → least_below 0 f m ≡ None
unfolding least_below
least_start f m = refl

pub least_skips : (n : ℕ) (f : ℕ → Bool) (m : ℕ → ℕ) → f n ≡ false → least_below (suc n) f m ≡ least_below n f m
unfolding least_below
least_skips n f m t = rw t

pub least_here : (n : ℕ) (f : ℕ → Bool) (m : ℕ → ℕ) → f n ≡ true → least_below n f m ≡ None → least_below (suc n) f m ≡ Some n
unfolding least_below
least_here n f m t e = rw (t, e)

pub least_better : (n : ℕ) (f : ℕ → Bool) (m : ℕ → ℕ) (i : ℕ) → f n ≡ true → least_below n f m ≡ Some i → m n < m i → least_below (suc n) f m ≡ Some n
unfolding least_below
least_better n f m i t e h = rw (t, e, lt-ltb (m n) (m i) h)

pub least_keeps : (n : ℕ) (f : ℕ → Bool) (m : ℕ → ℕ) (i : ℕ) → f n ≡ true → least_below n f m ≡ Some i → m i ≤ m n → least_below (suc n) f m ≡ Some i
unfolding least_below
least_keeps n f m i t e h = rw (t, e, le-ltb (m n) (m i) h)

by_least {ℓ} : {P : Type ℓ} (n : ℕ) (f : ℕ → Bool) (m : ℕ → ℕ)
    → (f n ≡ false → P)
    → (f n ≡ true → least_below n f m ≡ None → P)
    → ((k : ℕ) → f n ≡ true → least_below n f m ≡ Some k → m n < m k → P)
    → ((k : ℕ) → f n ≡ true → least_below n f m ≡ Some k → m k ≤ m n → P)
    → P
by_least n f m skips here better keeps =
    by_test (f n) (λ t. by_found (least_below n f m) (λ k q. by_order (m n) (m k) (better k t q) (keeps k t q)) (here t)) skips

pub least_nothing : (n : ℕ) (f : ℕ → Bool) (m : ℕ → ℕ) → least_below n f m ≡ None → (i : ℕ) → i < n → f i ≡ false
least_nothing zero f m e i h = absurd (not-suc-le-zero h)
least_nothing (suc n) f m e i h = by_least n f m
    (λ t. at_last i n h (least_nothing n f m (sym (least_skips n f m t) ∙ e) i) (λ r. rw r t))
    (λ t q. cc (least_here n f m t q))
    (λ k t q b. cc (least_better n f m k t q b))
    (λ k t q b. cc (least_keeps n f m k t q b))

-- i is the least of those below n that pass f, and the lowest on ties
abbrev pub IsLeast : ℕ → (ℕ → Bool) → (ℕ → ℕ) → ℕ → Type 0
IsLeast n f m i = (i < n) × (f i ≡ true) × ((k : ℕ) → k < n → f k ≡ true → m i ≤ m k) × ((k : ℕ) → k < i → f k ≡ true → m i < m k)

older : (n : ℕ) (f : ℕ → Bool) (m : ℕ → ℕ) (i : ℕ) → IsLeast n f m i → (f n ≡ true → m i ≤ m n) → IsLeast (suc n) f m i
older n f m i l h = (le_step l.0, l.1, λ k b t. at_last k n b (λ c. l.2 k c t) (λ q. rw q (h (rw q at t))), l.3)

newer : (n : ℕ) (f : ℕ → Bool) (m : ℕ → ℕ) → f n ≡ true → ((k : ℕ) → k < n → f k ≡ true → m n < m k) → IsLeast (suc n) f m n
newer n f m t h = (lt-suc_self n, t, λ k b p. at_last k n b (λ c. le_of_lt (h k c p)) (λ q. rw q (le_refl (m n))), h)

least_step : (n : ℕ) (f : ℕ → Bool) (m : ℕ → ℕ) → ((i : ℕ) → least_below n f m ≡ Some i → IsLeast n f m i)
    → (i : ℕ) → least_below (suc n) f m ≡ Some i → IsLeast (suc n) f m i
least_step n f m ih i e = by_least n f m
    (λ t. older n f m i (ih i (sym (least_skips n f m t) ∙ e)) (λ p. both (f n) p t))
    (λ t q. let r : n ≡ i = cc (least_here n f m t q) in rw (← r) (newer n f m t (λ j c p. both (f j) p (least_nothing n f m q j c))))
    (λ k t q b. let r : n ≡ i = cc (least_better n f m k t q b) in rw (← r) (newer n f m t (λ j c p. lt_of_lt_of_le b ((ih k q).2 j c p))))
    (λ k t q b. let r : k ≡ i = cc (least_keeps n f m k t q b) in rw (← r) (older n f m k (ih k q) (λ _. b)))

pub least_at : (n : ℕ) (f : ℕ → Bool) (m : ℕ → ℕ) (i : ℕ) → least_below n f m ≡ Some i → IsLeast n f m i
least_at zero f m i e = not_found i (sym (least_start f m) ∙ e)
least_at (suc n) f m i e = least_step n f m (least_at n f m) i e

pub least_found : (n : ℕ) (f : ℕ → Bool) (m : ℕ → ℕ) (i : ℕ) → i < n → f i ≡ true → (k : ℕ) × (least_below n f m ≡ Some k)
least_found n f m i h t = by_found (least_below n f m) (λ k q. (k, q)) (λ q. both (f i) t (least_nothing n f m q i h))

-- last: the next number, what the answer tells, and the same tests
pub last_here : (n : ℕ) (f : ℕ → Bool) → f n ≡ true → last_below (suc n) f ≡ Some n
unfolding last_below
last_here n f t = rw t

pub last_skips : (n : ℕ) (f : ℕ → Bool) → f n ≡ false → last_below (suc n) f ≡ last_below n f
unfolding last_below
last_skips n f t = rw t

pub last_at : (n : ℕ) (f : ℕ → Bool) (i : ℕ) → last_below n f ≡ Some i → i < n
unfolding last_below
last_at zero f i e = not_found i e
last_at (suc n) f i e = by_test (f n)
    (λ t. let r : n ≡ i = cc (last_here n f t) in rw (← r) (lt-suc_self n))
    (λ t. le_step (last_at n f i (sym (last_skips n f t) ∙ e)))

pub last_cong : (n : ℕ) (f g : ℕ → Bool) → ((i : ℕ) → i < n → f i ≡ g i) → last_below n f ≡ last_below n g
unfolding last_below
last_cong zero f g h = refl
last_cong (suc n) f g h = rw (last_cong n f g (λ i b. h i (le_step b)), h n (lt-suc_self n))

-- an answer that makes no difference
pub when_same : {A : Type 0} (r : Option ℕ) (x : A) → when_found r (λ i. x) x ≡ x
unfolding when_found
when_same (Some i) x = refl
when_same None x = refl
