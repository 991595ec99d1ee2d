-- Record j is 32 bytes at j * 32, and its numbers are the first thirteen pairs of them.
use mathlib.Core.Path.{◌∙◌}
use Rattle.codec.proofs.Fetching.{number_in}
use Rattle.codec.proofs.scan.number_in.Goals as goal

pub returns : goal.returns
returns c = (c.number_at.ensures.0 ∙ number_in c.args.g c.args.records.now c.args.j c.args.i c.requires.1 c.requires.2, c.number_at.ensures.1)
