-- A place is there, or the victim is collected, or there is none.
use mathlib.Core.Path.{sym, ◌∙◌}
use Rattle.layout.specs.Layout.{layout_of}
use Rattle.layout.specs.Page.{page_at}
use Rattle.layout.specs.Record.{record_at}
use Rattle.steps.specs.Allowance.{images}
use Rattle.steps.proofs.Allowances.{ran_none}
use Rattle.rules.proofs.Lists.Collecting.{victim_collectable}
use Rattle.collect.proofs.Rooms.{ordered, room_there, room_collects, collect_found, collect_nothing}
use Rattle.collect.proofs.make_room.Goals as goal

pub place_on-requires : goal.place_on-requires
place_on-requires c =
    let h = c.requires in
    ordered h.0.checked h.1

pub returns-in-Some : goal.returns-in-Some
returns-in-Some c =
    let a = c.args in
    let l = layout_of a.g in
    let v = images a.chips.now a.records.now a.slots.now in
    rw (room_there l v a.c (sym c.place_on.ensures ∙ c.in-Some.is)) (ran_none l a.p v c.requires.3)

pub collect_chip-requires : goal.collect_chip-requires
collect_chip-requires c =
    let nowhere = sym c.place_on.ensures ∙ c.in_default.is in
    let l = layout_of c.args.g in
    let (block, can) = victim_collectable l c.args.c (page_at l c.args.chips.now c.args.c) (record_at l c.args.records.now) _ (sym (c.requires.2.is nowhere) ∙ c.in-Some-v.is) in
    (c.requires.0, c.requires.1, c.requires.3, block, can, c.requires.4, c.requires.5)

pub returns-in-Some-v : goal.returns-in-Some-v
returns-in-Some-v c =
    let nowhere = sym c.place_on.ensures ∙ c.in_default.is in
    let a = c.args in
    let l = layout_of a.g in
    let s = images a.chips.now a.records.now a.slots.now in
    rw (room_collects l s a.c nowhere, collect_found l s a.c (sym (c.requires.2.is nowhere) ∙ c.in-Some-v.is)) c.collect_chip.ensures

pub returns-in-None : goal.returns-in-None
returns-in-None c =
    let nowhere = sym c.place_on.ensures ∙ c.in_default.is in
    let a = c.args in
    let l = layout_of a.g in
    let v = images a.chips.now a.records.now a.slots.now in
    rw (room_collects l v a.c nowhere, collect_nothing l v a.c (sym (c.requires.2.is nowhere) ∙ c.in-None.is))
    (ran_none l a.p v c.requires.3)
