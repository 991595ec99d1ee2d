-- Document 01, "Write" member m of stripe j, as a whole.
use Rattle.std.specs.Prelude.{ℕ, Bool, not, cond, ◌&&◌, List, [], eqb}
use Rattle.ranges.specs.Look.{count_below, when_found}
use Rattle.layout.specs.Layout.{Layout}
use Rattle.layout.specs.Rotation.{member_chip, member_of, stripe_of}
use Rattle.layout.specs.Record.{Record, record_at, has_slot, slotted}
use Rattle.layout.specs.Images.{Images}
use Rattle.steps.specs.Steps.{Step, and_then}
use Rattle.rules.specs.Costs.{cheapest}
use Rattle.rules.specs.Room.{placed}
use Rattle.rules.specs.Commit.{commit_steps}
use Rattle.rules.specs.Partial.{write_at}

module _ (l : Layout) where
  open l use {S, M}

  -- "if j has no slot and M records have"
  unfoldable pub commit_owed : (ℕ → Record) → ℕ → Bool
  commit_owed r j = not (has_slot (r j)) && eqb (count_below S (slotted r)) M

  -- "commit the stripe of least cost, lowest number on ties"
  unfoldable pub owed_steps : ℕ → Images → List Step
  owed_steps j s =
      cond (commit_owed (record_at l s.records) j)
      (when_found (cheapest l (record_at l s.records)) (λ k. commit_steps l k s) [])
      []

  -- "if .., commit ..; Find a place"
  unfoldable pub write_member : ℕ → ℕ → List ℕ → Images → List Step
  write_member j m xs s = and_then l (owed_steps j s) (placed l (member_chip l j m) (write_at l j m xs)) s

  -- the write of logical page i
  unfoldable pub write_steps : ℕ → List ℕ → Images → List Step
  write_steps i xs s = write_member (stripe_of l i) (member_of l i) xs s
