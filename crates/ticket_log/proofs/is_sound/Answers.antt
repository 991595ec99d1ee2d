-- The code's tests are the definition's.
use mathlib.Core.Path.{refl}
use Rattle.rules.specs.Tickets.{ticket_sound}
use Rattle.ticket_log.proofs.is_sound.Goals as goal

pub returns : goal.returns
unfolding ticket_sound
returns c = refl
