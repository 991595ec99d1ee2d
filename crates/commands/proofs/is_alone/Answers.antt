-- The test is the definition's, at the bytes that the calls give.

use Rattle.commands.proofs.is_alone.Goals as goal

pub returns : goal.returns
returns c = rw c.byte_at-letter.ensures
