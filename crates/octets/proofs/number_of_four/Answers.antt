-- The two calls of `number_at` give the halves of the number that the four bytes hold.
use native.Mathlib.Omega.{arith}
use Rattle.octets.proofs.Lists.{number_four}
use Rattle.octets.proofs.number_of_four.Goals as goal

pub returns : goal.returns
returns c = let a = c.args in
    (rw (c.number_at-2.ensures.0, c.number_at.ensures.0, number_four a.s.now a.a (omega arith)), omega arith)
