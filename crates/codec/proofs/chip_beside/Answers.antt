-- The test of the code is the test of the definition.
use native.Mathlib.Omega.{arith}
use borrow.Author.Tests.{lt-ltb, le-ltb}
use Rattle.layout.specs.Rotation.{member_chip}
use Rattle.codec.proofs.chip_beside.Goals as goal

pub returns-then-m-parity : goal.returns-then-m-parity
unfolding member_chip
returns-then-m-parity c =
    let a = c.args in
    (λ l j e. rw (← e, lt-ltb a.m a.parity c.if-m-parity.true), omega arith)

pub returns-else-m-parity : goal.returns-else-m-parity
unfolding member_chip
returns-else-m-parity c =
    let a = c.args in
    (λ l j e. rw (← e, le-ltb a.m a.parity c.if-m-parity.false), omega arith)
