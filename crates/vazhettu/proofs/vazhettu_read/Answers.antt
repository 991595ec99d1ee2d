-- The report of the read's outcome.
use mathlib.Core.Path.{ap}
use Rattle.vazhettu.specs.Reports.{read_reported_of}
use Rattle.vazhettu.proofs.vazhettu_read.Goals as goal

pub returns : goal.returns
returns c = rw c.from.ensures (ap read_reported_of c.read.ensures)
