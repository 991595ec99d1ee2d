-- The test of the code is that of the definition.
use borrow.Author.Tests.{eq-eqb, ne_eqb}
use Rattle.collect.proofs.moved.Goals as goal

pub returns-then-x-p : goal.returns-then-x-p
returns-then-x-p c = rw (eq-eqb _ _ c.if-x-p.true)

pub returns-else-x-p : goal.returns-else-x-p
returns-else-x-p c = rw (ne_eqb _ _ c.if-x-p.false)
