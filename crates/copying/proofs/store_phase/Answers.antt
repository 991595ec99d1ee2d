-- What `store_collection` runs, of this record.
use Rattle.copying.proofs.store_phase.Goals as goal

pub returns : goal.returns
returns c = c.store_collection.ensures
