-- The victim of a chip, from the scan of its blocks.
use Rattle.std.specs.Prelude.{◌≡◌, List, ℕ, ◌≤◌, length, get_or, Option, None}
use Rattle.ranges.specs.Look.{when_found, found_in}
use Rattle.layout.specs.declared.Geometry.{Geometry}
use Rattle.layout.specs.Layout.{Layout, layout_of}
use Rattle.layout.specs.Page.{Page, page_at}
use Rattle.layout.specs.Record.{Record, record_at}
use Rattle.rules.specs.Place.{place_of}
use Rattle.rules.specs.Collect.{victim_of}
use Rattle.spares.specs.declared.ChipScan.{ChipScan}
use Rattle.spares.specs.Scans.{unscanned}

-- the victim that is wanted of chip c, with its pages x and the records r: none where it has a place
unfoldable pub victim_wanted : Layout → ℕ → (ℕ → Page) → (ℕ → Record) → Option ℕ
victim_wanted l c x r = when_found (place_of l x) (λ p. None) (victim_of l c x r)

-- v is the victim of chip c, where it has no place
pub record VictimFor (g : Geometry) (chips records : List ℕ) (c : ℕ) (v : Option ℕ) : Type 0 where
  pub is : place_of (layout_of g) (page_at (layout_of g) chips c) ≡ None
      → v ≡ victim_of (layout_of g) c (page_at (layout_of g) chips c) (record_at (layout_of g) records)

-- of every chip
pub record Victims (g : Geometry) (chips records : List ℕ) (scans : List ChipScan) : Type 0 where
  pub long : length scans ≡ 7
  pub at : (c : ℕ) → c ≤ g.n
      → found_in (get_or scans c unscanned).victim ≡ victim_of (layout_of g) c (page_at (layout_of g) chips c) (record_at (layout_of g) records)
