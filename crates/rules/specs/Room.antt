-- Document 01, "Place on a chip": the room that is made where there is no place.
use Rattle.std.specs.Prelude.{ℕ, List, []}
use Rattle.ranges.specs.Look.{when_found}
use Rattle.layout.specs.Layout.{Layout}
use Rattle.layout.specs.Page.{page_at}
use Rattle.layout.specs.Images.{Images}
use Rattle.steps.specs.Steps.{Step, and_then}
use Rattle.rules.specs.Place.{place_of}
use Rattle.rules.specs.Collect.{collect_steps}

module _ (l : Layout) where
  -- "else collect": what is done before the place is there
  unfoldable pub room_steps : ℕ → Images → List Step
  room_steps c s = when_found (place_of l (page_at l s.chips c)) (λ p. []) (collect_steps l c s)

  -- what f does at the place on chip c
  unfoldable pub at_place : ℕ → (ℕ → Images → List Step) → Images → List Step
  at_place c f s = when_found (place_of l (page_at l s.chips c)) (λ p. f p s) []

  -- "then look again"
  unfoldable pub placed : ℕ → (ℕ → Images → List Step) → Images → List Step
  placed c f s = and_then l (room_steps c s) (at_place c f) s
