-- Refused by its rows, or what `read_member` brings.
use mathlib.Core.Path.{◌∙◌}
use Rattle.steps.specs.Allowance.{images}
use Rattle.looks.proofs.Passing.{turned_back, look_refused, look_passed}
use Rattle.calls.proofs.Results.{read_first, read_told, read_ready, read_refused, read_done}
use Rattle.calls.proofs.read.Goals as goal

pub returns-in_err-images_look : goal.returns-in_err-images_look
returns-in_err-images_look c =
    let s = images c.args.chips.now c.args.records.now c.args.slots.now in
    rw (turned_back _ c.from_residual.ensures.1) (read_refused _ s _ _ _ (read_first _ s _ _ _ (look_refused _ s _ c.images_look.ensures c.in_err-images_look.was)))

pub returns-in_err-page_check : goal.returns-in_err-page_check
returns-in_err-page_check c =
    let s = images c.args.chips.now c.args.records.now c.args.slots.now in
    let above = look_passed _ s _ c.images_look.ensures c.in_ok-images_look.was in
    rw (turned_back _ c.from_residual-in_err-page_check.ensures.1)
    (read_refused _ s _ _ _ (read_told _ s _ _ _ above c.page_check.ensures ∙ c.in_err-page_check.was))

pub invariant_of-view : goal.invariant_of-view
invariant_of-view c =
    let s = images c.args.chips.now c.args.records.now c.args.slots.now in
    let above = look_passed _ s _ c.images_look.ensures c.in_ok-images_look.was in
    let h = read_ready _ s _ _ _ (read_told _ s _ _ _ above c.page_check.ensures ∙ c.in_ok-page_check.was) in
    let fit = h.ready.fit.fit in
    record { chips_fit = fit.chips; records_fit = fit.records; slots_fit = fit.slots }

pub read_member-got-requires : goal.read_member-got-requires
read_member-got-requires c =
    let s = images c.args.chips.now c.args.records.now c.args.slots.now in
    let above = look_passed _ s _ c.images_look.ensures c.in_ok-images_look.was in
    let h = read_ready _ s _ _ _ (read_told _ s _ _ _ above c.page_check.ensures ∙ c.in_ok-page_check.was) in
    let p = h.ready in
    (h.whole, p.stripe, p.member, p.fit.stripe _ p.stripe)

pub returns : goal.returns
returns c =
    let s = images c.args.chips.now c.args.records.now c.args.slots.now in
    let above = look_passed _ s _ c.images_look.ensures c.in_ok-images_look.was in
    rw c.of_reads-counts.ensures
    (read_done _ s _ _ _ (read_told _ s _ _ _ above c.page_check.ensures ∙ c.in_ok-page_check.was) c.read_member-got.ensures)
