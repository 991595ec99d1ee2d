-- The greater of two origins by their numbers.
use borrow.Author.Tests.{le-leb, lt-leb}
use Rattle.ticket_log.proofs.greater.Goals as goal

pub returns-then-origin_number : goal.returns-then-origin_number
returns-then-origin_number c =
    let h = rw (c.origin_number.ensures, c.origin_number-2.ensures) at c.if-origin_number.true in
    rw (le-leb _ _ h)

pub returns : goal.returns
returns c =
    let h = rw (c.origin_number.ensures, c.origin_number-2.ensures) at c.if-origin_number.false in
    rw (lt-leb _ _ h)
