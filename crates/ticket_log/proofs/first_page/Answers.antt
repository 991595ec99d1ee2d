-- Page 0 is member 0 of stripe 0.
use Rattle.layout.specs.Layout.{layout_of}
use Rattle.layout.proofs.Limits.{within}
use Rattle.ticket_log.proofs.Walking.{position_first}
use Rattle.ticket_log.proofs.first_page.Goals as goal

pub returns : goal.returns
returns c = let l = layout_of c.args.g in position_first l (within l c.requires) c.parity_chip.ensures.0
