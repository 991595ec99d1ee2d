-- Of no records all are sound, and none has a slot.
use Rattle.records.proofs.Tables.{tallied_start}
use Rattle.records.proofs.no_tally.Goals as goal

pub returns : goal.returns
returns c = λ g r. tallied_start c.no_least-cheapest.ensures
