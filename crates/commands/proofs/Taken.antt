-- Each listed line is taken for its command.
use Prim.Native.Nat.{ℕ, ◌+◌, ◌*◌, ◌<◌}
use Prim.Native.Char.{code}
use native.Mathlib.Omega.{arith}
use mathlib.Core.Path.{◌≡◌, refl, ap, sym, ◌∙◌}
use mathlib.Core.Bool.{Bool, true, ◌||◌}
use mathlib.Core.List.{List, [], ◌∷◌}
use lib.ListN.{length, get_or, drop}
use lib.Dec.{eqb}
use borrow.Author.Tests.{eq-eqb, lt-ltb, le-leb}
use Rattle.commands.specs.declared.Command.{Command}
use Rattle.std.specs.Prelude.{Some}
use Rattle.commands.specs.declared.Act.TheVariants.{Write}
use Rattle.commands.specs.Lines.{spelled, value, Decimal, line, asks, Gives, w_line, r_line, c_line, x_line}
use Rattle.commands.specs.Parsing.{digit_value, digit_count, numbered, alone, filled, act_alone, command_of}
use Rattle.commands.proofs.Cases.{number_alone, number_and_byte}
use Rattle.commands.proofs.Spelling.{read_back, count_spelled, value_spelled, at_rest, line_length}

-- a letter that takes a number alone
abbrev pub plain : ℕ → Bool
plain letter = eqb letter (code "r") || eqb letter (code "c") || eqb letter (code "x")

nothing_ends : digit_count [] ≡ 0
unfolding digit_count
nothing_ends = refl

space_ends : (bs : List ℕ) → digit_count (code " " ∷ bs) ≡ 0
unfolding digit_count digit_value
space_ends bs = refl

module _ (ds : List ℕ) (dec : Decimal ds) where
  is_numbered : (letter : ℕ) (rest : List ℕ) → numbered (line letter ds rest) (length ds) ≡ true
  is_numbered letter rest = rw (le-leb 1 (length ds) (omega arith), le-leb (length ds) 5 (omega arith))

  counted : (letter : ℕ) (rest : List ℕ) → digit_count rest ≡ 0 → length ds ≡ digit_count (drop 2 (line letter ds rest))
  counted letter rest e = sym (count_spelled rest ds dec.digits e)

  takes_alone : (letter : ℕ) → plain letter ≡ true → command_of (line letter ds []) ≡ Some (asks ds (act_alone letter (value ds)))
  takes_alone letter p =
      let xs = line letter ds [] in
      let a : alone xs (length ds) ≡ true = rw (p, eq-eqb (length xs) (length ds + 2) (line_length letter ds [])) in
      number_alone xs (length ds) (counted letter [] nothing_ends) (is_numbered letter []) a
      ∙ ap (λ (n : ℕ). Some (asks ds (act_alone letter n))) (value_spelled [] ds dec.digits)

  module _ (high low : ℕ) (h : high < 16) (l : low < 16) where
    abbrev rest : List ℕ
    rest = code " " ∷ spelled high ∷ spelled low ∷ []

    abbrev xs : List ℕ
    xs = line (code "w") ds rest

    high_read : digit_value (get_or xs (length ds + 3) 0) ≡ high
    high_read = ap digit_value (at_rest (code "w") ds rest 1) ∙ read_back high h

    low_read : digit_value (get_or xs (length ds + 4) 0) ≡ low
    low_read = ap digit_value (at_rest (code "w") ds rest 2) ∙ read_back low l

    is_filled : filled xs (length ds) ≡ true
    is_filled =
        let s : get_or xs (length ds + 2) 0 ≡ code " " = at_rest (code "w") ds rest 0 in
        let n = eq-eqb (length xs) (length ds + 5) (line_length (code "w") ds rest) in
        rw (s, high_read, low_read, lt-ltb high 16 h, lt-ltb low 16 l, n)

    takes_byte : command_of xs ≡ Some (asks ds (Write (value ds) (16 * high + low)))
    takes_byte =
        number_and_byte xs (length ds) (counted (code "w") rest (space_ends (spelled high ∷ spelled low ∷ [])))
        (is_numbered (code "w") rest)
        refl
        is_filled
        ∙ rw (high_read, low_read) (ap (λ (n : ℕ). Some (asks ds (Write n (16 * high + low)))) (value_spelled rest ds dec.digits))

pub takes : (xs : List ℕ) (c : Command) → Gives xs c → command_of xs ≡ Some c
takes xs c (w_line ds high low dec h l) = takes_byte ds dec high low h l
takes xs c (r_line ds dec) = takes_alone ds dec (code "r") refl
takes xs c (c_line ds dec) = takes_alone ds dec (code "c") refl
takes xs c (x_line ds dec) = takes_alone ds dec (code "x") refl
