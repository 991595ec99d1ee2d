-- The test is the definition's, at the bytes that the calls give.

use Rattle.commands.proofs.is_numbered.Goals as goal

pub returns : goal.returns
returns c = rw c.byte_at.ensures
