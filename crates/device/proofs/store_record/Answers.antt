-- The record is stored, and the store counted, where the allowance holds it.
use native.Mathlib.Omega.{arith}
use Rattle.std.proofs.Common.{rules}
use Rattle.steps.specs.Store.{apply}
use Rattle.device.proofs.Stores.{ran_store}
use Rattle.device.proofs.store_record.Goals as goal

pub returns : goal.returns
unfolding apply
returns c x y =
    ran_store _ _ _ _ _ _ c.requires.3 (omega arith)
    (λ e. search (rules, c.store.ensures.stopped e))
    (λ e. search (rules, c.store.ensures.made e))
