-- Refused by rows 1 to 9, or for want of a victim; else what `collect_chip` runs.
use native.Mathlib.Omega.{arith}
use mathlib.Core.Path.{sym, ap, ◌∙◌}
use Rattle.std.specs.Result.{result_ok}
use lib.Dec.{leb}
use borrow.Author.Tests.{leb-true}
use Rattle.octets.proofs.Work.{front_long}
use Rattle.layout.specs.Layout.{layout_of}
use Rattle.layout.specs.Page.{page_at}
use Rattle.layout.specs.Record.{record_at}
use Rattle.steps.specs.Allowance.{images}
use Rattle.rules.proofs.Lists.Collecting.{victim_collectable}
use Rattle.looks.proofs.Passing.{turned_back, look_refused, look_passed}
use Rattle.calls.proofs.Results.{FreeReady, free_ready, collect_first, collect_second, collect_nothing, collect_ran}
use Rattle.calls.proofs.collect.Goals as goal
use Rattle.calls.proofs.collect.Goals.{In_ok-free_check}

-- what the look and rows 7 and 9 have shown
passed : (c : goal.In_ok-free_check) → FreeReady c.args.g (images c.args.chips.now c.args.records.now c.args.slots.now) c.args.lost (leb c.args.chip c.args.g.n) c.in_ok-look.look
passed c = free_ready _ _ _ _ c.settled_look.ensures c.in_ok-look.was c.free_check.ensures c.in_ok-free_check.was

pub returns-in_err-look : goal.returns-in_err-look
returns-in_err-look c =
    let s = images c.args.chips.now c.args.records.now c.args.slots.now in
    rw (turned_back _ c.from_residual.ensures.1)
    (collect_first _ s _ _ _ (look_refused _ s _ c.settled_look.ensures c.in_err-look.was))

pub returns-in_err-free_check : goal.returns-in_err-free_check
returns-in_err-free_check c =
    let s = images c.args.chips.now c.args.records.now c.args.slots.now in
    let top = look_passed _ s _ c.settled_look.ensures c.in_ok-look.was in
    rw (turned_back _ c.from_residual-in_err-free_check.ensures.1)
    (collect_second _ s _ _ _ top (sym c.free_check.ensures ∙ c.in_err-free_check.was))

pub offset_bounds-look-c : goal.offset_bounds-look-c
offset_bounds-look-c c =
    let h = passed (goal.at.offset_bounds-look-c c).In_ok-free_check in
    omega (arith, h.ready.store.within_limits.members_high, leb-true _ _ h.fit)

pub bounds-look-c : goal.bounds-look-c
bounds-look-c c =
    let h = passed (goal.at.bounds-look-c c).In_ok-free_check in
    omega (arith, h.ready.store.within_limits.members_high, leb-true _ _ h.fit)

pub returns-in_err-v : goal.returns-in_err-v
returns-in_err-v c =
    let s = images c.args.chips.now c.args.records.now c.args.slots.now in
    let h = passed (goal.at.returns-in_err-v c).In_ok-free_check in
    let known = c.victim_in.ensures ∙ h.ready.known.at _ (leb-true _ _ h.fit) in
    rw (turned_back _ c.from_residual-in_err-v.ensures.1) (collect_nothing _ s _ _ _ h known c.ok_or.ensures.value c.in_err-v.was)

pub slice_bounds-work-end : goal.slice_bounds-work-end
slice_bounds-work-end c =
    let h = passed (goal.at.slice_bounds-work-end c).In_ok-free_check in
    h.ready.store.within_limits.bytes_high

pub collect_chip-requires : goal.collect_chip-requires
collect_chip-requires c =
    let a = c.args in
    let l = layout_of a.g in
    let s = images a.chips.now a.records.now a.slots.now in
    let h = passed (goal.at.collect_chip-requires c).In_ok-free_check in
    let low = leb-true _ _ h.fit in
    let victim = sym (c.victim_in.ensures ∙ h.ready.known.at _ low) ∙ c.ok_or.ensures.ok_part ∙ ap result_ok c.in_ok-v.was in
    let store = h.ready.store in
    let (block, can) = victim_collectable l a.chip (page_at l a.chips.now a.chip) (record_at l a.records.now) _ victim in
    (store.settled, low, c.start-p.ensures.1, block, can, store.slots_fit, front_long _ 4096 store.within_limits.bytes_high)

pub returns : goal.returns
returns c =
    let s = images c.args.chips.now c.args.records.now c.args.slots.now in
    let h = passed (goal.at.returns c).In_ok-free_check in
    let victim = sym (c.victim_in.ensures ∙ h.ready.known.at _ (leb-true _ _ h.fit)) ∙ c.ok_or.ensures.ok_part ∙ ap result_ok c.in_ok-v.was in
    rw c.answer.ensures (collect_ran _ s _ _ _ h _ victim c.start-p.ensures.0 c.collect_chip.ensures)
