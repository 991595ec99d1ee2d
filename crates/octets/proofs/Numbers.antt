-- Laws of numbers as little-endian bytes.
use Prim.Native.Nat.{ℕ, zero, suc, ◌+◌, ◌-◌, ◌*◌, ◌/◌, ◌%◌, ◌^◌, ◌<◌, suc-le-suc}
use native.Mathlib.Nat.{pow-suc, one-le-pow, zero-lt-suc}
use native.Mathlib.Omega.{arith}
use mathlib.Core.Path.{◌≡◌, refl, ap}
use mathlib.Core.List.{List, [], ◌∷◌}
use lib.ListN.{length, get_or, replicate}
use Rattle.octets.specs.Number.{number, digits}

-- a number in k bytes
pub length_digits : (k x : ℕ) → length (digits k x) ≡ k
unfolding digits
length_digits zero x = refl
length_digits (suc k) x = ap suc (length_digits k (x / 256))

pub digits_bytes : (k x i : ℕ) → get_or (digits k x) i 0 < 256
unfolding digits
digits_bytes zero x i = omega arith
digits_bytes (suc k) x zero = omega arith
digits_bytes (suc k) x (suc i) = digits_bytes k (x / 256) i

pub number_digits : (k x : ℕ) → x < 256 ^ k → number (digits k x) ≡ x
unfolding digits number
number_digits zero x h = omega arith
number_digits (suc k) x h =
    let b : x < 256 ^ k * 256 = rw pow-suc at h in
    rw (number_digits k (x / 256) (omega arith)) (omega arith)

-- a byte string as a number
pub number_bound : (xs : List ℕ) → ((i : ℕ) → i < length xs → get_or xs i 0 < 256) → number xs < 256 ^ length xs
unfolding number
number_bound [] h = omega arith
number_bound (x ∷ xs) h =
    rw pow-suc (omega (arith, h 0 (zero-lt-suc (length xs)), number_bound xs (λ i b. h (suc i) (suc-le-suc b))))

pub digits_number : (xs : List ℕ) → ((i : ℕ) → i < length xs → get_or xs i 0 < 256) → digits (length xs) (number xs) ≡ xs
unfolding digits number
digits_number [] h = refl
digits_number (x ∷ xs) h =
    let b : x < 256 = h 0 (zero-lt-suc (length xs)) in
    let low : (x + 256 * number xs) % 256 ≡ x = omega arith in
    let high : (x + 256 * number xs) / 256 ≡ number xs = omega arith in
    rw (low, high, digits_number xs (λ i b. h (suc i) (suc-le-suc b)))

pub number_zero : (xs : List ℕ) → number xs ≡ 0 → (i : ℕ) → get_or xs i 0 ≡ 0
unfolding number
number_zero [] e i = refl
number_zero (x ∷ xs) e zero = omega arith
number_zero (x ∷ xs) e (suc i) = number_zero xs (omega arith) i

-- all bytes 255, and all bytes 0
pub pow_positive : (k : ℕ) → 0 < 256 ^ k
pow_positive k = one-le-pow k 256 (omega arith)

pub number_replicate_max : (k : ℕ) → number (replicate k 255) ≡ 256 ^ k - 1
unfolding number
number_replicate_max zero = refl
number_replicate_max (suc k) = rw (number_replicate_max k, pow-suc) (omega (arith, pow_positive k))

pub number_replicate_zero : (k : ℕ) → number (replicate k 0) ≡ 0
unfolding number
number_replicate_zero zero = refl
number_replicate_zero (suc k) = rw (number_replicate_zero k)

pub digits_max : (k : ℕ) → digits k (256 ^ k - 1) ≡ replicate k 255
unfolding digits
digits_max zero = refl
digits_max (suc k) =
    let p = pow_positive k in
    let low : (256 ^ k * 256 - 1) % 256 ≡ 255 = omega arith in
    let high : (256 ^ k * 256 - 1) / 256 ≡ 256 ^ k - 1 = omega arith in
    rw (pow-suc, low, high, digits_max k)

pub digits_zero : (k : ℕ) → digits k 0 ≡ replicate k 0
unfolding digits
digits_zero zero = refl
digits_zero (suc k) = ap (λ (bs : List ℕ). 0 ∷ bs) (digits_zero k)
