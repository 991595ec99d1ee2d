-- The loop's invariant: what has been found of the blocks below b, whose pages stand in the arrays up to place o. A block is a candidate
-- where it is full and has a page that is not named.
use mathlib.Core.Path.{◌≡◌}
use Rattle.layout.specs.Layout.{layout_of}
use Rattle.layout.specs.Page.{page_at}
use Rattle.layout.specs.Record.{record_at}
use Rattle.spares.specs.Scans.{chip_scan}
use Rattle.spares.proofs.with_blocks.Given as goal

abbrev pub invariant-loop-b : goal.invariant-loop-b
invariant-loop-b v = let l = layout_of v.g in
    record { ordered = v.ordered; clean = v.clean; named = v.named; victim = v.victim } ≡ chip_scan l (record_at l v.records) (page_at l v.chips v.c) v.c v.b
