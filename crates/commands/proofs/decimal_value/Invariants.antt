-- After i turns n is the number that the first i digits spell; five digits fit.
use mathlib.Core.Path.{◌≡◌}
use Rattle.commands.specs.Parsing.{decimal_value}
use Rattle.commands.proofs.decimal_value.Given as goal

abbrev pub invariant-loop-i : goal.invariant-loop-i
invariant-loop-i l = l.n ≡ decimal_value l.s l.i
