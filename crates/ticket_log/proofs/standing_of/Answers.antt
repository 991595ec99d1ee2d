-- A weight stands, or nothing does.
use borrow.Author.Tests.{eq-eqb, ne_eqb}
use Rattle.ticket_log.proofs.standing_of.Goals as goal

pub returns-then-x-eq1 : goal.returns-then-x-eq1
returns-then-x-eq1 c = rw (eq-eqb _ _ c.if-x-eq1.true)

pub returns : goal.returns
returns c = rw (ne_eqb _ _ c.if-x-eq1.false)
