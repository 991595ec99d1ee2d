-- Digits that are spelled are read back, one by one and as a number; and what is read was spelled.
use Prim.Native.Nat.{ℕ, zero, suc, ◌+◌, ◌-◌, ◌*◌, ◌^◌, ◌<◌}
use Prim.Native.Char.{code}
use native.Mathlib.Nat.{pow-suc, mul_assoc}
use native.Mathlib.Omega.{arith}
use mathlib.Core.Path.{◌≡◌, refl, ap, ◌∙◌}
use mathlib.Core.List.{List, [], ◌∷◌, ◌++◌, map}
use lib.ListN.{length, get_or, length-append, length-map}
use lib.Seq.{get_or-append-add}
use borrow.Author.Tests.{lt-ltb, le-ltb}
use Rattle.ranges.proofs.Looks.{by_order}
use Rattle.commands.specs.Lines.{spelled, value, line}
use Rattle.commands.specs.Parsing.{digit_value, digit_count, decimal_value}
use Rattle.commands.proofs.Digits.{by_digit, decimal_digit, letter_digit, count_digit, count_none}

pub read_back : (d : ℕ) → d < 16 → digit_value (spelled d) ≡ d
unfolding spelled
read_back d h =
    by_order d 10
    (λ b. rw (lt-ltb d 10 b) (decimal_digit d b))
    (λ b. rw (le-ltb d 10 b) (letter_digit (d - 10) (omega arith) ∙ omega arith))

pub was_spelled : (b : ℕ) → digit_value b < 16 → spelled (digit_value b) ≡ b
unfolding spelled
was_spelled b h =
    by_digit b
    (λ l m e. rw (e, lt-ltb (b - code "0") 10 (omega arith)) (omega arith))
    (λ l m e. rw (e, le-ltb (b - code "a" + 10) 10 (omega arith)) (omega arith))
    (λ e. absurd (omega arith))

-- every digit is decimal
abbrev pub Tens : List ℕ → Type 0
Tens ds = (i : ℕ) → i < length ds → get_or ds i 0 < 10

tail_tens : (d : ℕ) (ds : List ℕ) → Tens (d ∷ ds) → Tens ds
tail_tens d ds h i b = h (suc i) (omega arith)

more_tens : (d : ℕ) (ds : List ℕ) → d < 10 → Tens ds → Tens (d ∷ ds)
more_tens d ds b h zero k = b
more_tens d ds b h (suc i) k = h i (omega arith)

-- digits that are spelled are counted, as far as none follows
pub count_spelled : (rest ds : List ℕ) → Tens ds → digit_count rest ≡ 0 → digit_count (map spelled ds ++ rest) ≡ length ds
count_spelled rest [] h e = e
count_spelled rest (d ∷ ds) h e =
    let b : d < 10 = h 0 (omega arith) in
    let r : digit_value (spelled d) < 10 = rw (read_back d (omega arith)) b in
    rw (count_digit (spelled d) (map spelled ds ++ rest) r, count_spelled rest ds (tail_tens d ds h) e)

-- the first digit weighs most
value_first : (b : ℕ) (bs : List ℕ) (k : ℕ) → decimal_value (b ∷ bs) (suc k) ≡ digit_value b * 10 ^ k + decimal_value bs k
unfolding decimal_value
value_first b bs zero = omega arith
value_first b bs (suc k) =
    rw (value_first b bs k, pow-suc 10 k, ← mul_assoc (digit_value b) (10 ^ k) 10) (omega arith)

pub value_spelled : (rest ds : List ℕ) → Tens ds → decimal_value (map spelled ds ++ rest) (length ds) ≡ value ds
unfolding value decimal_value
value_spelled rest [] h = refl
value_spelled rest (d ∷ ds) h =
    let b : d < 10 = h 0 (omega arith) in
    value_first (spelled d) (map spelled ds ++ rest) (length ds)
    ∙ rw (read_back d (omega arith), value_spelled rest ds (tail_tens d ds h))

-- what stands behind the number
pub at_rest : (letter : ℕ) (ds rest : List ℕ) (i : ℕ) → get_or (line letter ds rest) (length ds + (2 + i)) 0 ≡ get_or rest i 0
at_rest letter ds rest i =
    let e : length ds + (2 + i) ≡ suc (suc (length (map spelled ds) + i)) = omega (arith, length-map ds spelled) in
    rw (e, get_or-append-add (map spelled ds) rest i 0)

pub line_length : (letter : ℕ) (ds rest : List ℕ) → length (line letter ds rest) ≡ length ds + (2 + length rest)
line_length letter ds rest = omega (arith, length-append (map spelled ds) rest, length-map ds spelled)

-- the digits that bytes begin with, and the bytes behind them
pub record Leads (bs : List ℕ) : Type 0 where
  pub digits : List ℕ
  pub rest : List ℕ
  pub whole : bs ≡ map spelled digits ++ rest
  pub count : digit_count bs ≡ length digits
  pub tens : Tens digits

pub leads : (bs : List ℕ) → Leads bs
unfolding digit_count
leads [] = record { digits = []; rest = []; whole = refl; count = refl; tens = λ i h. absurd (omega arith) }
leads (b ∷ bs) =
    by_order (digit_value b) 10
    (λ h.
    let l = leads bs in
    record {
      digits = digit_value b ∷ l.digits;
      rest = l.rest;
      whole = rw (was_spelled b (omega arith)) (ap (b ∷◌) l.whole);
      count = count_digit b bs h ∙ ap suc l.count;
      tens = more_tens (digit_value b) l.digits h l.tens;
    })
    λ h. record { digits = []; rest = b ∷ bs; whole = refl; count = count_none b bs h; tens = λ i k. absurd (omega arith) }
