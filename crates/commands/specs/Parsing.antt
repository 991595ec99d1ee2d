-- The command of a line, by document 01, "Bags on the pan". A line is a list of bytes, without its newline.
use Rattle.std.specs.Prelude.{ℕ, zero, suc, ◌+◌, ◌-◌, ◌*◌, Bool, cond, ◌&&◌, ◌||◌, List, [], ◌∷◌, length, get_or, drop, ltb, leb, eqb, Option, Some, None}
use Prim.Native.Char.{code}
use Rattle.commands.specs.declared.Act.{Act}
use Rattle.commands.specs.declared.Act.TheVariants.{Write, Read, Commit, Lose}
use Rattle.commands.specs.declared.Command.{Command}

-- the value of a digit, "decimal" or "lower-case hexadecimal", and 16 for any other byte
unfoldable pub digit_value : ℕ → ℕ
digit_value b =
    cond (leb (code "0") b && leb b (code "9"))
    (b - code "0")
    (cond (leb (code "a") b && leb b (code "f")) (b - code "a" + 10) 16)

-- how many decimal digits the bytes begin with
unfoldable pub digit_count : List ℕ → ℕ
digit_count [] = 0
digit_count (b ∷ bs) = cond (ltb (digit_value b) 10) (suc (digit_count bs)) 0

-- the number that the first k of them spell
unfoldable pub decimal_value : List ℕ → ℕ → ℕ
decimal_value bs zero = 0
decimal_value bs (suc k) = decimal_value bs k * 10 + digit_value (get_or bs k 0)

-- what `r`, `c` and `x` ask for: a read, a commit or the loss of a chip
abbrev pub act_alone : ℕ → ℕ → Act
act_alone letter n = cond (eqb letter (code "r")) (Read n) (cond (eqb letter (code "c")) (Commit n) (Lose n))

module _ (line : List ℕ) (k : ℕ) where
  -- a space and a number of k digits follow the letter: "decimal of at most five digits"
  abbrev pub numbered : Bool
  numbered = eqb (get_or line 1 0) (code " ") && leb 1 k && leb k 5

  -- "`r` page, `c` stripe, `x` chip": nothing follows the number
  abbrev pub alone : Bool
  alone =
      (eqb (get_or line 0 0) (code "r") || eqb (get_or line 0 0) (code "c") || eqb (get_or line 0 0) (code "x"))
      && eqb (length line) (k + 2)

  -- "`w` page byte": a space and "two lower-case hexadecimal digits" follow it
  abbrev pub filled : Bool
  filled =
      eqb (get_or line 0 0) (code "w")
      && eqb (get_or line (k + 2) 0) (code " ")
      && ltb (digit_value (get_or line (k + 3) 0)) 16
      && ltb (digit_value (get_or line (k + 4) 0)) 16
      && eqb (length line) (k + 5)

  -- the byte that these digits spell
  abbrev pub byte_of : ℕ
  byte_of = 16 * digit_value (get_or line (k + 3) 0) + digit_value (get_or line (k + 4) 0)

  -- the number itself
  abbrev pub number : ℕ
  number = decimal_value (drop 2 line) k

  -- the command with a number of k digits
  abbrev pub command : Act → Option Command
  command act = Some (record { digits = k; act = act })

  -- the command of a line with k decimal digits from offset 2 on; "any other line ends it"
  unfoldable pub command_from : Option Command
  command_from =
      cond numbered
      (cond alone (command (act_alone (get_or line 0 0) number))
      (cond filled (command (Write number byte_of)) None))
      None

unfoldable pub command_of : List ℕ → Option Command
command_of line = command_from line (digit_count (drop 2 line))
