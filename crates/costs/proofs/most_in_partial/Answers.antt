-- The comparison is that of the definition.
use mathlib.Core.Path.{refl}
use Rattle.costs.proofs.most_in_partial.Goals as goal

pub returns : goal.returns
returns c = refl
