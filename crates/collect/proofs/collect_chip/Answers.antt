-- The copies first; where they are not cut the images are in phase 2, and `finish` makes the rest of the list.
use mathlib.Core.Path.{sym, ◌∙◌}
use Rattle.layout.specs.Layout.{layout_of}
use Rattle.steps.specs.Allowance.{images}
use Rattle.steps.proofs.Allowances.{ran_none}
use Rattle.collect.proofs.Rooms.{ordered, copied_checked, collect_cut, collect_ran, collect_nowhere}
use Rattle.collect.proofs.collect_chip.Goals as goal

pub clean_block_on-requires : goal.clean_block_on-requires
clean_block_on-requires c =
    let h = c.requires in
    ordered h.0.checked h.1

pub copy_block-run-requires : goal.copy_block-run-requires
copy_block-run-requires c =
    let h = c.requires in
    (h.0, h.1, h.2, h.3, h.4, sym c.clean_block_on.ensures ∙ c.in-Some.is, h.5, h.6)

pub returns-then-run : goal.returns-then-run
returns-then-run c =
    let h = c.requires in
    collect_cut h.0 h.1 h.3 h.4 (sym c.clean_block_on.ensures ∙ c.in-Some.is) h.5.long c.copy_block-run.ensures c.if-run.true

pub finish-requires : goal.finish-requires
finish-requires c =
    (copied_checked c.requires.0 c.requires.1 c.requires.3 c.requires.4 (sym c.clean_block_on.ensures ∙ c.in-Some.is) c.requires.5.long c.copy_block-run.ensures c.if-run.false, c.copy_block-run.ensures.sane)

pub returns-else-run : goal.returns-else-run
returns-else-run c =
    let h = c.requires in
    collect_ran h.0 h.1 h.3 h.4 (sym c.clean_block_on.ensures ∙ c.in-Some.is) h.5.long c.copy_block-run.ensures (c.finish.ensures _ h.5.long)

pub returns-in-None : goal.returns-in-None
returns-in-None c =
    let a = c.args in
    let l = layout_of a.g in
    let v = images a.chips.now a.records.now a.slots.now in
    rw (collect_nowhere l v a.c a.v (sym c.clean_block_on.ensures ∙ c.in-None.is)) (ran_none l a.p v c.requires.2)
