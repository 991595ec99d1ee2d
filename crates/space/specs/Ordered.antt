-- What the search of a chip relies on.
use Rattle.std.specs.Prelude.{◌≡◌, true, List, ℕ, ◌≤◌}
use Rattle.ranges.specs.Look.{all_below}
use Rattle.layout.specs.declared.Geometry.{Geometry}
use Rattle.layout.specs.Layout.{layout_of}
use Rattle.layout.specs.Page.{page_at}
use Rattle.rules.specs.Blocks.{ordered_block}
use Rattle.codec.specs.Fit.{ChipsFit}

-- in no block of chip c a used page follows a clean one
pub record Ordered (g : Geometry) (chips : List ℕ) (c : ℕ) : Type 0 where
  pub chips_fit : ChipsFit g chips
  pub chip : c ≤ g.n
  pub order : all_below g.b (ordered_block (layout_of g) (page_at (layout_of g) chips c)) ≡ true
