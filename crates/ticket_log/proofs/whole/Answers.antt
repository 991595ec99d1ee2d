-- What stands, and how it was got.

use Rattle.ticket_log.proofs.whole.Goals as goal

pub returns : goal.returns
returns c = rw (c.standing_of.ensures, c.origin_of.ensures)
