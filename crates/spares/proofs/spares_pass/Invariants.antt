-- The loop's invariant: what it has found of the chips below c. After it the numbers of names, the shapes and the collection
-- under way are the three parts of the verdict.
use Rattle.layout.specs.Layout.{layout_of}
use Rattle.layout.specs.Page.{page_at}
use Rattle.layout.specs.Record.{record_at}
use Rattle.layout.specs.Collection.{collection_at}
use Rattle.spares.proofs.Judging.{Judged}
use Rattle.spares.proofs.spares_pass.Given as goal

abbrev pub invariant-loop-c : goal.invariant-loop-c
invariant-loop-c v = let l = layout_of v.g in
    Judged l (record_at l v.records) (page_at l v.chips) (collection_at l v.records) v.lost v.c v.named v.shaped
