-- The match, and in it the test, are those of the definition.
use borrow.Author.Tests.{lt-ltb, le-ltb}
use Rattle.write.proofs.lower.Goals as goal

pub returns-then-i-t : goal.returns-then-i-t
returns-then-i-t c = rw (c.in-Some.is, lt-ltb c.in-Some.i c.args.t c.if-i-t.true)

pub returns-else-i-t : goal.returns-else-i-t
returns-else-i-t c = rw (c.in-Some.is, le-ltb c.in-Some.i c.args.t c.if-i-t.false)

pub returns-in-None : goal.returns-in-None
returns-in-None c = rw c.in-None.is
