-- None is the least of no numbers.
use Rattle.std.proofs.Common.{refl}
use Rattle.ranges.specs.Look.{least_so_far, least_below}
use Rattle.ranges.proofs.no_least.Goals as goal

pub returns : goal.returns
unfolding least_so_far least_below
returns c f m = refl
