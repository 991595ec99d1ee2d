-- The part that is lent is the ticket, and comes back as the bytes.
use native.Mathlib.Nat.{add-sub_cancel_left}
use Rattle.octets.specs.Units.{put, unit_put}
use Rattle.ticket_log.proofs.put_ticket.Goals as goal

pub returns : goal.returns
unfolding unit_put put
returns c = rw (c.copy.ensures, add-sub_cancel_left)
