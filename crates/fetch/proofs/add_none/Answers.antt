-- Fresh work becomes zeros, and other work stays.

use Rattle.fetch.proofs.add_none.Goals as goal

pub returns-then-fresh : goal.returns-then-fresh
returns-then-fresh c = rw c.if-fresh.true c.fill.ensures

pub returns-else-fresh : goal.returns-else-fresh
returns-else-fresh c = rw c.if-fresh.false
