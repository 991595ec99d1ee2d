-- The loop's invariant: no block below b is clean.
use mathlib.Core.Path.{◌≡◌}
use Rattle.std.specs.Prelude.{None}
use Rattle.ranges.specs.Look.{first_below}
use Rattle.layout.specs.Layout.{layout_of}
use Rattle.layout.specs.Page.{page_at}
use Rattle.rules.specs.Blocks.{clean_block}
use Rattle.space.proofs.clean_block_on.Given as goal

abbrev pub invariant-loop-b : goal.invariant-loop-b
invariant-loop-b l = first_below l.b (clean_block (layout_of l.g) (page_at (layout_of l.g) l.chips l.c)) ≡ None
