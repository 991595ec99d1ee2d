-- The outer loop's invariant: what it has found of the blocks below b. The inner one's: none of the first i places of its block is clean.
-- That ends before the block does, for the last place is clean.
use mathlib.Core.Path.{◌≡◌}
use Rattle.std.specs.Prelude.{None}
use Rattle.ranges.specs.Look.{first_below}
use Rattle.layout.specs.Layout.{layout_of}
use Rattle.layout.specs.Page.{page_at}
use Rattle.rules.specs.Blocks.{clean_in}
use Rattle.space.proofs.Searching.{Searched}
use Rattle.space.proofs.place_on.Given as goal

abbrev pub invariant-loop-i : goal.invariant-loop-i
invariant-loop-i l = first_below l.i (clean_in (layout_of l.g) (page_at (layout_of l.g) l.chips l.c) l.b) ≡ None

abbrev pub invariant-search : goal.invariant-search
invariant-search l = Searched (layout_of l.g) (page_at (layout_of l.g) l.chips l.c) l.b l.found l.clean l.lowest
