-- Fresh work becomes the bytes, as if they were XORed into zeros.
use Rattle.fetch.proofs.Pages.{fresh_is}
use Rattle.fetch.proofs.add.Goals as goal

pub returns-then-fresh : goal.returns-then-fresh
returns-then-fresh c =
    let a = c.args in
    fresh_is a.fresh a.work.now a.src.now c.if-fresh.true c.requires c.copy.ensures

pub returns-else-fresh : goal.returns-else-fresh
returns-else-fresh c = rw c.if-fresh.false c.xor_into.ensures
