-- Document 01, "Open": the end of a collection that was cut, and of one that was not.
use Rattle.std.specs.Prelude.{ℕ, Bool, cond, ◌&&◌, List, [], ◌∷◌, eqb}
use Rattle.ranges.specs.Update.{at}
use Rattle.layout.specs.Layout.{Layout, no_chip, page_in, in_block}
use Rattle.layout.specs.Rotation.{parity_chip, member_on}
use Rattle.layout.specs.Page.{Page, page_at}
use Rattle.layout.specs.Record.{Record, record_at}
use Rattle.layout.specs.Collection.{Collection, collection_at, idle}
use Rattle.layout.specs.Images.{Images}
use Rattle.steps.specs.Store.{erase, stripe, collection}
use Rattle.steps.specs.Steps.{Step, plain, and_then, then_below}
use Rattle.rules.specs.Names.{named}
use Rattle.rules.specs.Sound.{twin}

-- number q where it was p
abbrev pub moved : ℕ → ℕ → ℕ → ℕ
moved p q x = cond (eqb x p) q x

-- "then the erase and phase 0"
abbrev pub ending : ℕ → ℕ → List Step
ending c b = plain (erase c b) ∷ plain (collection idle) ∷ []

module _ (l : Layout) where
  open l use {K}

  -- record r of stripe j "with that copy in place of the original": on chip c, page q for page p
  unfoldable pub repointed : ℕ → ℕ → ℕ → ℕ → Record → Record
  repointed c j p q r =
      cond (eqb c (parity_chip l j))
      (record {
        current = r.current;
        old = r.old;
        parity = moved p q r.parity;
        bitmap = r.bitmap;
        slot = r.slot;
        rest = r.rest;
      })
      (record {
        current = at (member_on l j c) (moved p q (r.current (member_on l j c))) r.current;
        old = at (member_on l j c) (moved p q (r.old (member_on l j c))) r.old;
        parity = r.parity;
        bitmap = r.bitmap;
        slot = r.slot;
        rest = r.rest;
      })

  -- of a collection, with the pages x of its chip and the records r
  module _ (co : Collection) (x : ℕ → Page) (r : ℕ → Record) where
    -- "one for each page still named in the victim": page q holds the copy of such a page
    unfoldable pub due : ℕ → Bool
    due q =
        in_block l co.victim (x q).copied
        && named l r co.chip (x q).copied
        && twin l r x co.chip (x q).copied q

    -- "store its record with that copy in place of the original"
    abbrev pub move_step : ℕ → Step
    move_step q =
        plain (stripe (x q).stripe (repointed co.chip (x q).stripe (x q).copied q (r (x q).stripe)))

    -- what is done of place i of the destination
    unfoldable pub move_from : ℕ → List Step
    move_from i =
        cond (due (page_in l co.destination i)) (move_step (page_in l co.destination i) ∷ []) []

  -- the same, from the images as they then stand
  unfoldable pub move_steps : Collection → ℕ → Images → List Step
  move_steps co i s = move_from co (page_at l s.chips co.chip) (record_at l s.records) i

  -- "Phase 1: erase the destination, store phase 0. Phase 2: the record stores still due, one for each page still named
  -- in the victim, in the order of the copies, then the erase and phase 0. Phase 0: no store."
  unfoldable pub finish_of : Collection → Images → List Step
  finish_of co s =
      cond (eqb co.phase 1) (ending co.chip co.destination)
      (cond (eqb co.phase 2)
      (and_then l (then_below l K (move_steps co) s) (λ t. ending co.chip co.victim) s)
      [])

  -- the end of the collection that the images are in
  unfoldable pub finish_steps : Images → List Step
  finish_steps s = finish_of (collection_at l s.records) s

  -- "Open: with a chip lost, no store."
  unfoldable pub open_steps : ℕ → Images → List Step
  open_steps lost s = cond (eqb lost no_chip) (finish_steps s) []
