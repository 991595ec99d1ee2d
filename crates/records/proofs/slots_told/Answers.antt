-- What the two calls answer.

use Rattle.records.proofs.slots_told.Goals as goal

pub returns : goal.returns
returns c = rw (c.lowest_unmarked.ensures, c.found_in-cheapest.ensures)
