-- Laws of the loops over byte slices: a list stored byte by byte from the front, a byte of an XOR, zeros looked for with OR, and the number of two bytes.
use Prim.Native.Nat.{ℕ, zero, suc, ◌+◌, ◌*◌, ◌≤◌, ◌<◌}
use native.Mathlib.Numerals.{add-one}
use native.Mathlib.Nat.{add-zero, zero-add}
use native.Mathlib.Omega.{arith}
use mathlib.Core.Path.{◌≡◌, refl, sym}
use mathlib.Core.Bool.{◌&&◌, and_assoc}
use mathlib.Core.List.{List, [], ◌∷◌, ◌++◌, append-nil}
use lib.Bits.{bit_or, bit_xor, xor_zero_l, xor_zero_r, or_add_and, and_le_l, and_le_r}
use lib.Dec.{eqb, eqb-suc-zero}
use lib.ListN.{length, get_or, take, drop, set, length-set, drop_of_length-le}
use lib.Seq.{take_all, length-take-le, get_or-drop, get_or-append-add, drop-cons, paste-suc}
use borrow.Author.Tests.{eq-eqb, ne_eqb}
use Rattle.octets.specs.Number.{number}
use Rattle.octets.specs.Units.{part}
use Rattle.octets.specs.Xor.{◌⊕◌}

-- ---- a list stored byte by byte

-- ys is d with its first i bytes replaced by those of xs, which is as long as d
pub record Stored (xs d : List ℕ) (i : ℕ) (ys : List ℕ) : Type 0 where
  pub sizes : length xs ≡ length d
  pub within : i ≤ length d
  pub same : length ys ≡ length d
  pub so_far : ys ≡ take i xs ++ drop i d

-- before the first byte
pub stored_none : {xs d : List ℕ} → length xs ≡ length d → Stored xs d 0 d
stored_none e = record { sizes = e; within = omega arith; same = refl; so_far = refl }

-- one byte of xs more
pub stored_more : {xs d : List ℕ} {i : ℕ} {ys : List ℕ} {v : ℕ} → Stored xs d i ys → i < length d → v ≡ get_or xs i 0 → Stored xs d (i + 1) (set ys i v)
stored_more {xs} {d} {i} s h e = record {
  sizes = s.sizes;
  within = omega arith;
  same = rw length-set s.same;
  so_far = rw (s.so_far, e, add-one) (simp zero-add at (paste-suc d 0 xs i 0 (omega arith) (omega arith)));
}

-- a byte that is not reached yet
pub stored_rest : {xs d : List ℕ} {i : ℕ} {ys : List ℕ} → Stored xs d i ys → get_or ys i 0 ≡ get_or d i 0
stored_rest {xs} {d} {i} s =
    let l : length (take i xs) ≡ i = length-take-le i xs (omega arith) in
    rw s.so_far (simp (l, add-zero, get_or-drop) at (get_or-append-add (take i xs) (drop i d) 0 0))

-- all bytes
pub stored_all : {xs d : List ℕ} {i : ℕ} {ys : List ℕ} → Stored xs d i ys → length d ≤ i → ys ≡ xs
stored_all {xs} {d} {i} s h =
    let l : length xs ≤ i = omega arith in
    rw (s.so_far, take_all, drop_of_length-le) (append-nil xs)

-- ---- a byte of an XOR

-- it is the XOR of the two bytes, whatever the lengths
pub get_or_xors : (xs ys : List ℕ) (i : ℕ) → get_or (xs ⊕ ys) i 0 ≡ bit_xor (get_or xs i 0) (get_or ys i 0)
unfolding ◌⊕◌
get_or_xors [] ys i = sym (xor_zero_l (get_or ys i 0))
get_or_xors (x ∷ xs) [] i = sym (xor_zero_r (get_or (x ∷ xs) i 0))
get_or_xors (x ∷ xs) (y ∷ ys) zero = refl
get_or_xors (x ∷ xs) (y ∷ ys) (suc i) = get_or_xors xs ys i

-- ---- numbers

-- n is 0 exactly where a and b are
zero_both : (n a b : ℕ) → a ≤ n → b ≤ n → n ≤ 256 * (a + b) → eqb n 0 ≡ eqb a 0 && eqb b 0
zero_both n zero zero p q r = eq-eqb n 0 (omega arith)
zero_both n zero (suc b) p q r = rw eqb-suc-zero (ne_eqb n 0 (λ e. omega arith))
zero_both n (suc a) b p q r = rw eqb-suc-zero (ne_eqb n 0 (λ e. omega arith))

-- so it is for an OR
zero_or : (a b : ℕ) → eqb (bit_or a b) 0 ≡ eqb a 0 && eqb b 0
zero_or a b =
    let e = or_add_and a b in
    let l = and_le_l a b in
    let r = and_le_r a b in
    zero_both (bit_or a b) a b (omega arith) (omega arith) (omega arith)

-- and for the number of one byte more in front
zero_cons : (a b : ℕ) → eqb (a + 256 * b) 0 ≡ eqb a 0 && eqb b 0
zero_cons a b = zero_both (a + 256 * b) a b (omega arith) (omega arith) (omega arith)

-- the first i + 1 bytes are 0 where the first i bytes and byte i are
zero_next : (xs : List ℕ) (i : ℕ) → eqb (number (take (suc i) xs)) 0 ≡ eqb (number (take i xs)) 0 && eqb (get_or xs i 0) 0
unfolding number
zero_next [] zero = refl
zero_next [] (suc i) = refl
zero_next (x ∷ xs) zero = rw add-zero
zero_next (x ∷ xs) (suc i) = rw (zero_cons x (number (take (suc i) xs)), zero_cons x (number (take i xs)), zero_next xs i, and_assoc)

-- acc tells it of the first i bytes; with byte i ORed in it tells it of one byte more
pub zero_more : (xs : List ℕ) (i acc : ℕ) → eqb acc 0 ≡ eqb (number (take i xs)) 0 → eqb (bit_or acc (get_or xs i 0)) 0 ≡ eqb (number (take (i + 1) xs)) 0
zero_more xs i acc e = rw (add-one, zero_or, zero_next, e)

-- the number of the two bytes at offset a, low byte first
pub number_two : (xs : List ℕ) (a : ℕ) → a + 2 ≤ length xs → number (part a 2 xs) ≡ get_or xs a 0 + 256 * get_or xs (a + 1) 0
unfolding number part
number_two xs a h =
    let p : a < length xs = omega arith in
    let q : suc a < length xs = omega arith in
    rw (add-one, drop-cons xs a 0, drop-cons xs (suc a) 0) (omega arith)

pub number_four : (xs : List ℕ) (a : ℕ) → a + 4 ≤ length xs → number (part a 4 xs) ≡ number (part a 2 xs) + 65536 * number (part (a + 2) 2 xs)
unfolding number part
number_four xs a h =
    let p : a < length xs = omega arith in
    let q : suc a < length xs = omega arith in
    let r : suc (suc a) < length xs = omega arith in
    let s : suc (suc (suc a)) < length xs = omega arith in
    let two : a + 2 ≡ suc (suc a) = omega arith in
    rw (two, drop-cons xs a 0, drop-cons xs (suc a) 0, drop-cons xs (suc (suc a)) 0, drop-cons xs (suc (suc (suc a))) 0) (omega arith)
