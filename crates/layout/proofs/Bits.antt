-- The bits of a number, as a record's bitmap has them: one bit set and the others kept, and a number by its bits.
use Prim.Native.Nat.{ℕ, zero, suc, ◌+◌, ◌-◌, ◌/◌, ◌%◌, ◌^◌, ◌≤◌, ◌<◌, suc-le-suc}
use native.Mathlib.Nat.{div-eq_of_lt, div_self, div-one, mod-lt, mul-mod_left, pow-suc, lt_of_lt_of_le, zero-lt-suc}
use native.Mathlib.Numerals.{one-add}
use native.Mathlib.Omega.{arith}
use mathlib.Core.Path.{◌≡◌, refl, sym, ap, ◌∙◌}
use mathlib.Core.Logic.{◌≢◌}
use mathlib.Core.Bool.{Bool, true, false, true≢false}
use lib.Bits.{bit_or, or_shr, or_mod, or_lt, or_zero_r}
use lib.Dec.{eqb, ltb}
use lib.Pow.{pow_pos, pow_mono, pow-lt, pow-add, shl-shr, shr-shr}
use borrow.Author.Tests.{eqb-false, ltb-true, ltb-false}
use Rattle.layout.specs.Record.{Record, bit}

abbrev pub test_bit : ℕ → ℕ → Bool
test_bit b m = eqb (b / 2 ^ m % 2) 1

pub bit_test : (r : Record) (m : ℕ) → bit r m ≡ test_bit r.bitmap m
unfolding bit
bit_test r m = refl

pub test_above : (b n m : ℕ) → b < 2 ^ n → n ≤ m → test_bit b m ≡ false
test_above b n m h l = rw (div-eq_of_lt (lt_of_lt_of_le h (pow_mono l)))

pub test_zero : (m : ℕ) → test_bit 0 m ≡ false
test_zero m = test_above 0 0 m (zero-lt-suc 0) (omega arith)

-- ---- a bit set

or_digit : (b c k : ℕ) → bit_or b c / 2 ^ k % 2 ≡ bit_or (b / 2 ^ k % 2) (c / 2 ^ k % 2)
or_digit b c k = rw (or_shr b c k) (or_mod (b / 2 ^ k) (c / 2 ^ k) 1)

or_one : (x : ℕ) → x < 2 → bit_or x 1 ≡ 1
or_one zero h = refl
or_one (suc zero) h = refl
or_one (suc (suc x)) h = omega arith

shifted_digit : (j k : ℕ) → 2 ^ (suc j + k) / 2 ^ k % 2 ≡ 0
shifted_digit j k = rw (pow-add 2 (suc j) k, shl-shr (2 ^ suc j) k, pow-suc 2 j) (mul-mod_left (2 ^ j) 2)

-- the digits of 2 ^ m, but the one at m
other_digit : (m k : ℕ) → k ≢ m → (t : Bool) → ltb k m ≡ t → 2 ^ m / 2 ^ k % 2 ≡ 0
other_digit m k h true q =
    let l : k < m = ltb-true k m q in
    let p : suc (m - suc k) + k ≡ m = omega arith in
    rw p at (shifted_digit (m - suc k) k)
other_digit m k h false q = rw (div-eq_of_lt (pow-lt {i = m} {j = k} (omega (arith, ltb-false k m q))))

pub test_set_same : (b m : ℕ) → test_bit (bit_or b (2 ^ m)) m ≡ true
test_set_same b m = rw (or_digit b (2 ^ m) m, div_self (pow_pos m), or_one (b / 2 ^ m % 2) (mod-lt (b / 2 ^ m) (zero-lt-suc 1)))

pub test_set_other : (b m k : ℕ) → k ≢ m → test_bit (bit_or b (2 ^ m)) k ≡ test_bit b k
test_set_other b m k h = rw (or_digit b (2 ^ m) k, other_digit m k h (ltb k m) refl, or_zero_r (b / 2 ^ k % 2))

pub set_bound : (b m n : ℕ) → b < 2 ^ n → m < n → bit_or b (2 ^ m) < 2 ^ n
set_bound b m n h l = or_lt n b (2 ^ m) h (pow-lt l)

pub set_nonzero : (b m : ℕ) → bit_or b (2 ^ m) ≢ 0
set_nonzero b m e = true≢false (sym (test_set_same b m) ∙ ap (λ (x : ℕ). test_bit x m) e ∙ test_zero m)

-- ---- a number by its bits

test_half : (b m : ℕ) → test_bit b (suc m) ≡ test_bit (b / 2) m
test_half b m = rw (← one-add m, ← shr-shr b 1 m)

-- the lowest bit is set, or the half has one that is
find_bit : (n b : ℕ) → b ≢ 0 → (b / 2 ≢ 0 → (m : ℕ) × (m < n) × (test_bit (b / 2) m ≡ true)) → (t : Bool) → test_bit b 0 ≡ t
    → (m : ℕ) × (m < suc n) × (test_bit b m ≡ true)
find_bit n b h ih true q = (0, zero-lt-suc n, q)
find_bit n b h ih false q =
    let r = ih (omega (arith, div-one b, eqb-false (b / 1 % 2) 1 q)) in
    (suc r.0, suc-le-suc r.1, test_half b r.0 ∙ r.2)

pub nonzero_has_bit : (n b : ℕ) → b < 2 ^ n → b ≢ 0 → (m : ℕ) × (m < n) × (test_bit b m ≡ true)
nonzero_has_bit zero b h k = absurd (omega arith)
nonzero_has_bit (suc n) b h k =
    find_bit n b k (nonzero_has_bit n (b / 2) (omega (arith, pow-suc 2 n))) (test_bit b 0) refl
