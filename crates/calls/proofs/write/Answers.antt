-- Refused by its rows, or what `write_member` runs.
use mathlib.Core.Path.{sym, ◌∙◌}
use Rattle.octets.proofs.Work.{front_long}
use Rattle.steps.specs.Allowance.{images}
use Rattle.looks.proofs.Passing.{turned_back, look_refused, look_passed}
use Rattle.calls.proofs.Results.{write_ready, write_first, write_second, write_third, write_ran}
use Rattle.calls.proofs.write.Goals as goal

pub returns-in_err-look : goal.returns-in_err-look
returns-in_err-look c =
    let s = images c.args.chips.now c.args.records.now c.args.slots.now in
    rw (turned_back _ c.from_residual.ensures.1)
    (write_first _ s _ _ _ _ (look_refused _ s _ c.settled_look.ensures c.in_err-look.was))

pub returns-in_err-page_check : goal.returns-in_err-page_check
returns-in_err-page_check c =
    let s = images c.args.chips.now c.args.records.now c.args.slots.now in
    let top = look_passed _ s _ c.settled_look.ensures c.in_ok-look.was in
    rw (turned_back _ c.from_residual-in_err-page_check.ensures.1)
    (write_second _ s _ _ _ _ top (sym c.page_check.ensures ∙ c.in_err-page_check.was))

pub returns-in_err-require : goal.returns-in_err-require
returns-in_err-require c =
    let s = images c.args.chips.now c.args.records.now c.args.slots.now in
    let top = look_passed _ s _ c.settled_look.ensures c.in_ok-look.was in
    rw (turned_back _ c.from_residual-in_err-require.ensures.1)
    (write_third _ s _ _ _ _ top (sym c.page_check.ensures ∙ c.in_ok-page_check.was) (sym c.require.ensures ∙ c.in_err-require.was))

pub slice_bounds-work-end : goal.slice_bounds-work-end
slice_bounds-work-end c =
    let s = images c.args.chips.now c.args.records.now c.args.slots.now in
    let h = write_ready _ s _ _ _ c.settled_look.ensures c.in_ok-look.was c.page_check.ensures c.in_ok-page_check.was c.require.ensures c.in_ok-require.was in
    h.ready.store.within_limits.bytes_high

pub write_member-requires : goal.write_member-requires
write_member-requires c =
    let s = images c.args.chips.now c.args.records.now c.args.slots.now in
    let h = write_ready _ s _ _ _ c.settled_look.ensures c.in_ok-look.was c.page_check.ensures c.in_ok-page_check.was c.require.ensures c.in_ok-require.was in
    let store = h.ready.store in (
      store.settled,
      store.slots_fit,
      front_long _ 4096 store.within_limits.bytes_high,
      h.stripe,
      h.member,
      h.whole,
      c.start.ensures.1,
      h.ready.known,
      h.ready.slots,
    )

pub returns : goal.returns
returns c =
    let s = images c.args.chips.now c.args.records.now c.args.slots.now in
    let h = write_ready _ s _ _ _ c.settled_look.ensures c.in_ok-look.was c.page_check.ensures c.in_ok-page_check.was c.require.ensures c.in_ok-require.was in
    rw c.answer.ensures (write_ran _ s _ _ _ _ h c.start.ensures.0 c.write_member.ensures)
