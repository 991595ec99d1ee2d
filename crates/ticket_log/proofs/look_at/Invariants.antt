-- The tickets before place i were sound, and the loop carries the latest of them for the lot and bag.
use Rattle.std.specs.Bool.{then_some}
use Rattle.ticket_log.specs.Walks.{Seen, tickets_in}
use Rattle.ticket_log.proofs.look_at.Given as goal

abbrev pub invariant-loop-i : goal.invariant-loop-i
invariant-loop-i l = Seen (tickets_in l.page) l.lot l.bag l.i (then_some l.found l.latest)
