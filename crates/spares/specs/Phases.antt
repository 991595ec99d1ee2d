-- What a collection under way asks of its chip, with the records r and the chip's pages x.
use Rattle.std.specs.Prelude.{ℕ, ◌<◌, ◌≡◌, Bool, true, cond, List, length, get_or, eqb, Option}
use Rattle.ranges.specs.Look.{first_below, count_below}
use Rattle.layout.specs.Layout.{Layout, page_in}
use Rattle.layout.specs.Page.{Page}
use Rattle.layout.specs.Record.{Record}
use Rattle.layout.specs.Collection.{Collection}
use Rattle.rules.specs.Sound.{twin, twin_in, phase1_sound, phase2_sound}

module _ (l : Layout) (r : ℕ → Record) (x : ℕ → Page) where
  open l use {K}

  module _ (c v : ℕ) where
    -- page q is the twin of place m of the victim v
    abbrev pub twin_of : ℕ → ℕ → Bool
    twin_of q m = twin l r x c (page_in l v m) q

    -- the place whose twin page q is
    unfoldable pub twin_place : ℕ → Option ℕ
    twin_place q = first_below K (twin_of q)

    -- for each place of the victim, how many of the first n places of the destination d hold its twin
    pub record Twins (d n : ℕ) (counts : List ℕ) : Type 0 where
      pub long : length counts ≡ 128
      pub are : (m : ℕ) → m < K → get_or counts m 0 ≡ count_below n (twin_in l r x c d (page_in l v m))

  -- what the phase asks
  unfoldable pub phase_sound : Collection → Bool
  phase_sound co =
      cond (eqb co.phase 1) (phase1_sound l r co.chip co.destination)
      (cond (eqb co.phase 2) (phase2_sound l r x co.chip co.victim co.destination) true)
