-- Refused; with a chip lost no store; else what `finish` runs.
use Rattle.steps.specs.Allowance.{images}
use Rattle.looks.proofs.Passing.{turned_back, look_refused, look_passed, images_fit, images_checked, at_no_chip}
use Rattle.calls.proofs.Results.{open_refused, open_nothing, open_finished}
use Rattle.calls.proofs.open.Goals as goal

pub returns-in_err-images_look : goal.returns-in_err-images_look
returns-in_err-images_look c =
    let s = images c.args.chips.now c.args.records.now c.args.slots.now in
    rw (turned_back _ c.from_residual.ensures.1) (open_refused _ s _ _ (look_refused _ s _ c.images_look.ensures c.in_err-images_look.was))

pub returns-then-lost : goal.returns-then-lost
returns-then-lost c =
    let s = images c.args.chips.now c.args.records.now c.args.slots.now in
    let passed = look_passed _ s _ c.images_look.ensures c.in_ok-images_look.was in
    rw c.answer.ensures (open_nothing _ s _ _ passed c.if-lost.true c.start.ensures.0 c.start.ensures.1)

pub finish-requires : goal.finish-requires
finish-requires c =
    let s = images c.args.chips.now c.args.records.now c.args.slots.now in
    let passed = look_passed _ s _ c.images_look.ensures c.in_ok-images_look.was in
    (at_no_chip c.if-lost.false (images_checked _ s _ passed), c.start-2.ensures.1)

pub returns : goal.returns
returns c =
    let a = c.args in
    let s = images a.chips.now a.records.now a.slots.now in
    let passed = look_passed _ s _ c.images_look.ensures c.in_ok-images_look.was in
    let h = images_fit a.g s _ passed in
    rw c.answer-2.ensures
    (open_finished _ s _ _ h.within_limits passed c.if-lost.false c.start-2.ensures.0 (c.finish.ensures a.slots.now h.fit.slots.long))
