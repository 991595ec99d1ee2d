-- The lines that document 01 lists in "Bags on the pan", spelled out, each with the command that it gives.
use Rattle.std.specs.Prelude.{ℕ, ◌+◌, ◌-◌, ◌*◌, ◌^◌, ◌≤◌, ◌<◌, cond, List, [], ◌∷◌, ◌++◌, map, length, get_or, ltb}
use Prim.Native.Char.{code}
use Rattle.commands.specs.declared.Act.{Act}
use Rattle.commands.specs.declared.Act.TheVariants.{Write, Read, Commit, Lose}
use Rattle.commands.specs.declared.Command.{Command}

-- a digit as a byte: 0 to 9, then a to f
unfoldable pub spelled : ℕ → ℕ
spelled d = cond (ltb d 10) (code "0" + d) (code "a" + (d - 10))

-- the number that decimal digits make, the highest first
unfoldable pub value : List ℕ → ℕ
value [] = 0
value (d ∷ ds) = d * 10 ^ length ds + value ds

-- "Page, stripe and chip are decimal of at most five digits"
pub record Decimal (ds : List ℕ) : Type 0 where
  pub some : 1 ≤ length ds
  pub few : length ds ≤ 5
  pub digits : (i : ℕ) → i < length ds → get_or ds i 0 < 10

-- a letter, a space, a number, and the rest of the line
abbrev pub line : ℕ → List ℕ → List ℕ → List ℕ
line letter ds rest = letter ∷ code " " ∷ (map spelled ds ++ rest)

-- the command with a number of these digits
abbrev pub asks : List ℕ → Act → Command
asks ds act = record { digits = length ds; act = act }

-- the lines, and what each gives
pub data Gives : List ℕ → Command → Type 0 where
  -- "`w` page byte (fills a page)"; "bytes two lower-case hexadecimal digits"
  w_line : (ds : List ℕ) (high low : ℕ) → Decimal ds → high < 16 → low < 16
      → Gives (line (code "w") ds (code " " ∷ spelled high ∷ spelled low ∷ [])) (asks ds (Write (value ds) (16 * high + low)))
  -- "`r` page"
  r_line : (ds : List ℕ) → Decimal ds → Gives (line (code "r") ds []) (asks ds (Read (value ds)))
  -- "`c` stripe"
  c_line : (ds : List ℕ) → Decimal ds → Gives (line (code "c") ds []) (asks ds (Commit (value ds)))
  -- "`x` chip (lost from here)"
  x_line : (ds : List ℕ) → Decimal ds → Gives (line (code "x") ds []) (asks ds (Lose (value ds)))
