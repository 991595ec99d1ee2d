-- The loop's invariant: the flag says that each named page among the first i places of the victim has one twin.
use mathlib.Core.Path.{◌≡◌}
use Rattle.ranges.specs.Look.{all_below}
use Rattle.layout.specs.Layout.{layout_of}
use Rattle.layout.specs.Page.{page_at}
use Rattle.layout.specs.Record.{record_at}
use Rattle.rules.specs.Sound.{one_twin}
use Rattle.spares.proofs.phase.phase2_passes.Given as goal

abbrev pub invariant-loop-i : goal.invariant-loop-i
invariant-loop-i v = let l = layout_of v.g in
    v.copied ≡ all_below v.i (one_twin l (record_at l v.records) (page_at l v.chips v.c) v.c v.v v.d)
