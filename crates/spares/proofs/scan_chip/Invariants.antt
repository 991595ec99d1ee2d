-- The loop's invariant: what it has found of the blocks below b.
use Prim.Native.Nat.{◌-◌, ◌≤◌}
use mathlib.Core.Path.{◌≡◌}
use Rattle.layout.specs.Layout.{layout_of}
use Rattle.layout.specs.Page.{page_at}
use Rattle.layout.specs.Record.{record_at}
use Rattle.spares.specs.Scans.{chip_scan}
use Rattle.spares.proofs.scan_chip.Given as goal

abbrev pub invariant-loop-b : goal.invariant-loop-b
invariant-loop-b v = let l = layout_of v.g in
    (v.b ≤ v.g.b) × (v.scan ≡ chip_scan l (record_at l v.records) (page_at l v.chips v.c) v.c v.b)

abbrev pub decreases-loop-b : goal.decreases-loop-b
decreases-loop-b l = l.g.b - l.b
