-- Laws of digits: their values, how many there are, the number that they spell.
use Prim.Native.Nat.{ℕ, zero, suc, ◌+◌, ◌-◌, ◌*◌, ◌^◌, ◌≤◌, ◌<◌}
use Prim.Native.Char.{code}
use native.Mathlib.Nat.{pow-suc, pow-le-pow_right}
use native.Mathlib.Numerals.{add-one}
use native.Mathlib.Omega.{arith}
use mathlib.Core.Path.{◌≡◌}
use mathlib.Core.Bool.{◌&&◌}
use mathlib.Core.List.{List, ◌∷◌}
use lib.ListN.{length, get_or, drop, drop_of_length-le}
use lib.Seq.{drop-cons}
use lib.Dec.{leb}
use borrow.Author.Tests.{lt-ltb, le-ltb, le-leb, lt-leb, leb-true}
use Rattle.ranges.proofs.Looks.{by_test}
use Rattle.ranges.proofs.Tests.{and_both}
use Rattle.commands.specs.Parsing.{digit_value, digit_count, decimal_value}

-- a byte is a decimal digit, a letter from a to f, or none of these
pub by_digit : {P : Type 0} (b : ℕ)
    → (code "0" ≤ b → b ≤ code "9" → digit_value b ≡ b - code "0" → P)
    → (code "a" ≤ b → b ≤ code "f" → digit_value b ≡ b - code "a" + 10 → P)
    → (digit_value b ≡ 16 → P)
    → P
unfolding digit_value
by_digit b decimal letter none =
    by_test (leb (code "0") b && leb b (code "9"))
    (λ t.
    let h = and_both (leb (code "0") b) (leb b (code "9")) t in
    decimal (leb-true (code "0") b h.0) (leb-true b (code "9") h.1) (rw t))
    λ f.
    by_test (leb (code "a") b && leb b (code "f"))
    (λ t.
    let h = and_both (leb (code "a") b) (leb b (code "f")) t in
    letter (leb-true (code "a") b h.0) (leb-true b (code "f") h.1) (rw (f, t)))
    λ g. none (rw (f, g))

pub decimal_digit : (d : ℕ) → d < 10 → digit_value (code "0" + d) ≡ d
unfolding digit_value
decimal_digit d h =
    rw (le-leb (code "0") (code "0" + d) (omega arith), le-leb (code "0" + d) (code "9") (omega arith)) (omega arith)

pub letter_digit : (d : ℕ) → d < 6 → digit_value (code "a" + d) ≡ d + 10
unfolding digit_value
letter_digit d h =
    let b = code "a" + d in
    let above = lt-leb b (code "9") (omega arith) in
    rw (le-leb (code "0") b (omega arith), above, le-leb (code "a") b (omega arith), le-leb b (code "f") (omega arith))
    (omega arith)

pub digit_most : (b : ℕ) → digit_value b ≤ 16
digit_most b = by_digit b (λ h k e. omega arith) (λ h k e. omega arith) (λ e. omega arith)

pub count_digit : (b : ℕ) (bs : List ℕ) → digit_value b < 10 → digit_count (b ∷ bs) ≡ suc (digit_count bs)
unfolding digit_count
count_digit b bs h = rw (lt-ltb (digit_value b) 10 h)

pub count_none : (b : ℕ) (bs : List ℕ) → 10 ≤ digit_value b → digit_count (b ∷ bs) ≡ 0
unfolding digit_count
count_none b bs h = rw (le-ltb (digit_value b) 10 h)

-- a count that has come to offset i
module _ (bs : List ℕ) (i : ℕ) (so_far : digit_count bs ≡ i + digit_count (drop i bs)) where
  pub count_next : i < length bs → digit_value (get_or bs i 0) < 10 → digit_count bs ≡ i + 1 + digit_count (drop (i + 1) bs)
  count_next h d =
      let e : digit_count (drop i bs) ≡ suc (digit_count (drop (suc i) bs)) =
      rw (drop-cons bs i 0 h) (count_digit (get_or bs i 0) (drop (suc i) bs) d)
      in rw (add-one i) (omega arith)

  pub count_here : i < length bs → 10 ≤ digit_value (get_or bs i 0) → i ≡ digit_count bs
  count_here h d =
      let e : digit_count (drop i bs) ≡ 0 = rw (drop-cons bs i 0 h, count_none (get_or bs i 0) (drop (suc i) bs) d) in
      omega arith

  pub count_end : length bs ≤ i → i ≡ digit_count bs
  unfolding digit_count
  count_end h =
      let e : digit_count (drop i bs) ≡ 0 = rw (drop_of_length-le bs h) in
      omega arith

pub value_next : (bs : List ℕ) (i : ℕ) → decimal_value bs (i + 1) ≡ decimal_value bs i * 10 + digit_value (get_or bs i 0)
unfolding decimal_value
value_next bs i = rw (add-one i)

value_below : (bs : List ℕ) (k : ℕ) → decimal_value bs k + 2 ≤ 2 * 10 ^ k
unfolding decimal_value
value_below bs zero = omega arith
value_below bs (suc k) = rw (pow-suc 10 k) (omega (arith, value_below bs k, digit_most (get_or bs k 0)))

-- five digits or fewer fit
pub value_small : (bs : List ℕ) (k : ℕ) → k ≤ 5 → decimal_value bs k ≤ 200000
value_small bs k h =
    let p : 10 ^ k ≤ 100000 = pow-le-pow_right (omega arith) h in
    omega (arith, value_below bs k)
