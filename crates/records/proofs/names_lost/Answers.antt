-- No chip is lost, or the record's numbers on it are counted.
use borrow.Author.Tests.{le-leb, lt-leb}
use Rattle.names.specs.Stamps.{names_lost}
use Rattle.records.proofs.names_lost.Goals as goal

pub returns-then-g-lost : goal.returns-then-g-lost
unfolding names_lost
returns-then-g-lost c = let a = c.args in rw (lt-leb a.lost a.g.n c.if-g-lost.true)

pub returns : goal.returns
unfolding names_lost
returns c =
    let a = c.args in
    rw (le-leb a.lost a.g.n c.if-g-lost.false) c.names_on.ensures.0
