-- The outer loop's invariant: what it has found of the blocks below b, on each chip. The inner loop's: the chips below c have the blocks
-- from b to the end of those that are looked at together, the others not yet.
use Prim.Native.Nat.{◌-◌, ◌≤◌}
use mathlib.Core.Path.{◌≡◌}
use Rattle.layout.specs.Layout.{layout_of}
use Rattle.layout.specs.Page.{page_at}
use Rattle.layout.specs.Record.{record_at}
use Rattle.spares.specs.Scans.{chip_scans}
use Rattle.spares.proofs.Scanning.{Row}
use Rattle.spares.proofs.scan_all.Given as goal

abbrev pub invariant-loop-c : goal.invariant-loop-c
invariant-loop-c v = let l = layout_of v.g in
    Row l (record_at l v.records) (page_at l v.chips) v.lost v.b v.end v.c v.scans

abbrev pub invariant-loop-b : goal.invariant-loop-b
invariant-loop-b v = let l = layout_of v.g in
    (v.b ≤ v.g.b) × (v.scans ≡ chip_scans l (record_at l v.records) (page_at l v.chips) v.lost v.b)

abbrev pub decreases-loop-b : goal.decreases-loop-b
decreases-loop-b l = l.g.b - l.b
