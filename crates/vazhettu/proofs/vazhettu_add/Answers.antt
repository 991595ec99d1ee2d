-- The report of the call's outcome.
use mathlib.Core.Path.{ap}
use Rattle.vazhettu.specs.Reports.{reported_of}
use Rattle.vazhettu.proofs.vazhettu_add.Goals as goal

pub returns : goal.returns
returns c = rw c.from.ensures (ap reported_of c.add.ensures)
