-- Both tests are the definition's.
use mathlib.Core.Bool.{not-not}
use Rattle.rules.specs.Write.{commit_owed}
use Rattle.write.proofs.is_owed.Goals as goal

pub returns : goal.returns
unfolding commit_owed
returns c = rw (not-not, c.slot_at.ensures.0, c.requires.2)
