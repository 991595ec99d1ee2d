-- The digits passed and those from offset i on are all.
use Prim.Native.Nat.{◌+◌}
use mathlib.Core.Path.{◌≡◌}
use lib.ListN.{drop}
use Rattle.commands.specs.Parsing.{digit_count}
use Rattle.commands.proofs.digit_count.Given as goal

abbrev pub invariant-loop-i : goal.invariant-loop-i
invariant-loop-i l = digit_count l.s ≡ l.i + digit_count (drop l.i l.s)
