-- After so many turns acc is 0 exactly where the number of the bytes before is 0.
use mathlib.Core.Path.{◌≡◌}
use lib.Dec.{eqb}
use lib.ListN.{take}
use Rattle.octets.specs.Number.{number}
use Rattle.octets.proofs.zeros.Given as goal

abbrev pub invariant-loop-b : goal.invariant-loop-b
invariant-loop-b l = eqb l.acc 0 ≡ eqb (number (take l.b-index l.s)) 0
