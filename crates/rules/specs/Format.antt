-- Document 01, "Format".
use Rattle.std.specs.Prelude.{ℕ, ◌+◌, List, [], ◌∷◌, ◌++◌}
use Rattle.layout.specs.Layout.{Layout}
use Rattle.layout.specs.Record.{empty_record}
use Rattle.layout.specs.Collection.{idle}
use Rattle.steps.specs.Store.{erase, stripe, collection}
use Rattle.steps.specs.Steps.{Step, plain, steps_below}

-- "erase every block"
abbrev pub erase_block : ℕ → ℕ → List Step
erase_block c b = plain (erase c b) ∷ []

module _ (l : Layout) where
  open l use {N, B, S}

  -- "in each its blocks ascending"
  abbrev pub erase_chip : ℕ → List Step
  erase_chip c = steps_below B (erase_block c)

  -- "store the S empty records"
  abbrev pub empty_stripe : ℕ → List Step
  empty_stripe j = plain (stripe j (empty_record l)) ∷ []

  -- "erase every block, chips ascending and in each its blocks ascending; store the S empty records in order, then phase 0.
  -- Slots stay."
  unfoldable pub format_steps : List Step
  format_steps =
      steps_below (N + 1) erase_chip ++ (steps_below S empty_stripe ++ (plain (collection idle) ∷ []))
