-- The loop's invariant: for each place of the victim, how many of the first i places of the destination hold its twin.
use Rattle.layout.specs.Layout.{layout_of}
use Rattle.layout.specs.Page.{page_at}
use Rattle.layout.specs.Record.{record_at}
use Rattle.spares.specs.Phases.{Twins}
use Rattle.spares.proofs.phase.count_twins.Given as goal

abbrev pub invariant-loop-i : goal.invariant-loop-i
invariant-loop-i v = let l = layout_of v.g in Twins l (record_at l v.records) (page_at l v.chips v.c) v.c v.v v.d v.i v.counts
