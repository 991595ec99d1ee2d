-- The two calls of `byte` give the digits of the number that the two bytes hold.
use native.Mathlib.Omega.{arith}
use Rattle.octets.proofs.Lists.{number_two}
use Rattle.octets.proofs.number_at.Goals as goal

pub returns : goal.returns
returns c = let a = c.args in
    (rw (c.byte-2.ensures.0, c.byte.ensures.0, number_two a.s.now a.a (omega arith)), omega arith)
