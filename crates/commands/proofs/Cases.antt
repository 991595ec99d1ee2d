-- The cases of the definition: what its tests say of a line, and the command that follows.
use Prim.Native.Nat.{ℕ, ◌+◌, ◌≤◌, ◌<◌}
use Prim.Native.Char.{code}
use native.Mathlib.Omega.{arith}
use mathlib.Core.Path.{◌≡◌}
use mathlib.Core.Bool.{true, false, and-false}
use mathlib.Core.List.{List, [], ◌∷◌}
use lib.ListN.{length, get_or, drop, drop_of_length-le}
use lib.Dec.{eqb, leb, ltb}
use borrow.Author.Tests.{eqb-true, leb-true, ltb-true}
use Rattle.ranges.proofs.Tests.{chain_all}
use Rattle.std.specs.Prelude.{None}
use Rattle.commands.specs.declared.Act.TheVariants.{Write}
use Rattle.commands.specs.Parsing.{digit_value, digit_count, numbered, alone, filled, act_alone, byte_of, number, command, command_from, command_of}

module _ (line : List ℕ) (k : ℕ) where
  -- a space and one to five digits follow the letter
  pub record Numbered : Type 0 where
    pub space : get_or line 1 0 ≡ code " "
    pub some : 1 ≤ k
    pub few : k ≤ 5

  pub numbered_is : numbered line k ≡ true → Numbered
  numbered_is e =
      let h = chain_all (eqb (get_or line 1 0) (code " ")) (leb 1 k ∷ leb k 5 ∷ []) e in
      record {
        space = eqb-true (get_or line 1 0) (code " ") h.0;
        some = leb-true 1 k h.1.0;
        few = leb-true k 5 h.1.1.0;
      }

  -- a space and two hexadecimal digits follow the number
  pub record Filled : Type 0 where
    pub letter : get_or line 0 0 ≡ code "w"
    pub space : get_or line (k + 2) 0 ≡ code " "
    pub high : digit_value (get_or line (k + 3) 0) < 16
    pub low : digit_value (get_or line (k + 4) 0) < 16
    pub long : length line ≡ k + 5

  pub filled_is : filled line k ≡ true → Filled
  filled_is e =
      let high = digit_value (get_or line (k + 3) 0) in
      let low = digit_value (get_or line (k + 4) 0) in
      let rest = eqb (get_or line (k + 2) 0) (code " ") ∷ ltb high 16 ∷ ltb low 16 ∷ eqb (length line) (k + 5) ∷ [] in
      let h = chain_all (eqb (get_or line 0 0) (code "w")) rest e in
      record {
        letter = eqb-true (get_or line 0 0) (code "w") h.0;
        space = eqb-true (get_or line (k + 2) 0) (code " ") h.1.0;
        high = ltb-true high 16 h.1.1.0;
        low = ltb-true low 16 h.1.1.1.0;
        long = eqb-true (length line) (k + 5) h.1.1.1.1.0;
      }

  module _ (e : k ≡ digit_count (drop 2 line)) where
    pub unnumbered : numbered line k ≡ false → command_of line ≡ None
    unfolding command_of command_from
    unnumbered f = rw (← e, f)

    pub number_alone : numbered line k ≡ true → alone line k ≡ true → command_of line ≡ command line k (act_alone (get_or line 0 0) (number line k))
    unfolding command_of command_from
    number_alone t u = rw (← e, t, u)

    pub number_and_byte : numbered line k ≡ true → alone line k ≡ false → filled line k ≡ true
        → command_of line ≡ command line k (Write (number line k) (byte_of line k))
    unfolding command_of command_from
    number_and_byte t f u = rw (← e, t, f, u)

    pub neither_follows : numbered line k ≡ true → alone line k ≡ false → filled line k ≡ false → command_of line ≡ None
    unfolding command_of command_from
    neither_follows t f g = rw (← e, t, f, g)

-- a line without room for a digit
pub short_line : (line : List ℕ) → length line < 2 → command_of line ≡ None
unfolding digit_count
short_line line h =
    let short : length line ≤ 2 = omega arith in
    unnumbered line 0 (rw (drop_of_length-le line short)) (rw (and-false (eqb (get_or line 1 0) (code " "))))
