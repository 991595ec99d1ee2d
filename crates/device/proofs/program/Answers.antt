-- The page is programmed, and the store counted, where the allowance holds it.
use Rattle.std.proofs.Common.{rules}
use Rattle.steps.specs.Store.{apply}
use Rattle.device.proofs.Stores.{ran_store}
use Rattle.device.proofs.program.Goals as goal

pub returns : goal.returns
unfolding apply
returns c x y =
    ran_store _ _ _ _ _ _ c.requires.6 c.requires.5
    (λ e. search (rules, c.store.ensures.stopped e))
    (λ e. search (rules, c.store.ensures.made e))
