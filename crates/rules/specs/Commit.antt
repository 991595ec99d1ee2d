-- Document 01, "Commit", as a whole.
use Rattle.std.specs.Prelude.{ℕ, List}
use Rattle.layout.specs.Layout.{Layout}
use Rattle.layout.specs.Rotation.{parity_chip}
use Rattle.layout.specs.Images.{Images}
use Rattle.steps.specs.Steps.{Step}
use Rattle.rules.specs.Parity.{commit_at}
use Rattle.rules.specs.Room.{placed}

module _ (l : Layout) where
  -- "Place and program it on the parity chip"
  unfoldable pub commit_steps : ℕ → Images → List Step
  commit_steps j s = placed l (parity_chip l j) (commit_at l j) s
