-- Refused by its rows, or what the walk of the log tells.
use mathlib.Core.Path.{ap, ◌∙◌}
use Rattle.std.specs.Result.{result_ok}
use Rattle.octets.proofs.Work.{front_long}
use Rattle.steps.specs.Allowance.{images}
use Rattle.looks.proofs.Passing.{turned_back, look_refused, look_passed, images_fit}
use Rattle.tickets.proofs.Results.{find_refused, find_broken, find_done}
use Rattle.tickets.proofs.find.Goals as goal

pub returns-in_err-images_look : goal.returns-in_err-images_look
returns-in_err-images_look c =
    let s = images c.args.chips.now c.args.records.now c.args.slots.now in
    turned_back _ c.from_residual.ensures.1 ∙ find_refused _ s _ _ _ (look_refused _ s _ c.images_look.ensures c.in_err-images_look.was)

pub slice_bounds-page-end : goal.slice_bounds-page-end
slice_bounds-page-end c =
    let s = images c.args.chips.now c.args.records.now c.args.slots.now in
    (images_fit _ s _ (look_passed _ s _ c.images_look.ensures c.in_ok-images_look.was)).within_limits.bytes_high

pub invariant_of-view : goal.invariant_of-view
invariant_of-view c =
    let s = images c.args.chips.now c.args.records.now c.args.slots.now in
    let fit = (images_fit _ s _ (look_passed _ s _ c.images_look.ensures c.in_ok-images_look.was)).fit in
    record { chips_fit = fit.chips; records_fit = fit.records; slots_fit = fit.slots }

pub walk_log-requires : goal.walk_log-requires
walk_log-requires c =
    let s = images c.args.chips.now c.args.records.now c.args.slots.now in
    let h = images_fit _ s _ (look_passed _ s _ c.images_look.ensures c.in_ok-images_look.was) in
    (front_long _ 4096 h.within_limits.bytes_high, h.stripe)

pub returns-in_err-log : goal.returns-in_err-log
returns-in_err-log c =
    let s = images c.args.chips.now c.args.records.now c.args.slots.now in
    let passed = look_passed _ s _ c.images_look.ensures c.in_ok-images_look.was in
    turned_back _ c.from_residual-in_err-log.ensures.1
    ∙ find_broken _ s _ _ _ passed c.walk_log.ensures.tells c.ok_or.ensures.value c.in_err-log.was

pub returns : goal.returns
returns c =
    let s = images c.args.chips.now c.args.records.now c.args.slots.now in
    let passed = look_passed _ s _ c.images_look.ensures c.in_ok-images_look.was in
    rw c.of_reads-counts.ensures (find_done _ s _ _ _ passed c.walk_log.ensures.tells (c.ok_or.ensures.ok_part ∙ ap result_ok c.in_ok-log.was))
