-- The fields of a ticket stand where the definition has them.
use Rattle.ticket_log.proofs.Seeing.{ticket_is}
use Rattle.ticket_log.proofs.ticket_in.Goals as goal

pub returns : goal.returns
returns c =
    let a = c.args in
    rw (c.number_at.ensures.0, c.word.ensures, c.word-2.ensures, c.word-3.ensures)
    (ticket_is a.page.now a.i)
