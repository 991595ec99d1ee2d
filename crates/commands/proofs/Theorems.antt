-- The parser takes exactly the lines that document 01 lists, each for its command.
use Prim.Native.Nat.{ℕ, ◌+◌, ◌≤◌}
use Prim.Native.Char.{code}
use native.Mathlib.Omega.{arith}
use mathlib.Core.Path.{◌≡◌}
use Rattle.std.specs.Prelude.{Some}
use mathlib.Core.List.{List, [], ◌∷◌}
use lib.ListN.{length}
use Rattle.commands.specs.declared.Command.{Command}
use Rattle.commands.specs.Lines.{spelled, Gives, w_line, r_line, c_line, x_line}
use Rattle.commands.specs.Parsing.{command_of}
use Rattle.commands.proofs.Listed.{listed}
use Rattle.commands.proofs.Spelling.{line_length}
use Rattle.commands.proofs.Taken.{takes}

-- A listed line is taken for the command that it gives, and a line that is taken for a command is listed with it.
pub record TakesExactly : Type 0 where
  pub listed_taken : (line : List ℕ) (c : Command) → Gives line c → command_of line ≡ Some c
  pub taken_listed : (line : List ℕ) (c : Command) → command_of line ≡ Some c → Gives line c

pub takes_exactly : TakesExactly
takes_exactly = record { listed_taken = takes; taken_listed = listed }

given_within : (line : List ℕ) (c : Command) → Gives line c → c.digits + 2 ≤ length line
given_within line c (w_line ds high low dec h l) =
    omega (arith, line_length (code "w") ds (code " " ∷ spelled high ∷ spelled low ∷ []))
given_within line c (r_line ds dec) = omega (arith, line_length (code "r") ds [])
given_within line c (c_line ds dec) = omega (arith, line_length (code "c") ds [])
given_within line c (x_line ds dec) = omega (arith, line_length (code "x") ds [])

-- letter and number of a command stand in its line
pub number_within : (line : List ℕ) (c : Command) → command_of line ≡ Some c → c.digits + 2 ≤ length line
number_within line c e = given_within line c (listed line c e)

given_short : (line : List ℕ) (c : Command) → Gives line c → length line ≤ 10
given_short line c (w_line ds high low dec h l) =
    omega (arith, dec.few, line_length (code "w") ds (code " " ∷ spelled high ∷ spelled low ∷ []))
given_short line c (r_line ds dec) = omega (arith, dec.few, line_length (code "r") ds [])
given_short line c (c_line ds dec) = omega (arith, dec.few, line_length (code "c") ds [])
given_short line c (x_line ds dec) = omega (arith, dec.few, line_length (code "x") ds [])

-- no command has as many as eleven bytes, so a reader may stop there
pub command_short : (line : List ℕ) (c : Command) → command_of line ≡ Some c → length line ≤ 10
command_short line c e = given_short line c (listed line c e)
