-- Refused by its rows, or what `append` runs.
use Prim.Native.Nat.{ℕ}
use native.Mathlib.Omega.{arith}
use mathlib.Core.Path.{refl, sym, ap, ◌∙◌}
use mathlib.Core.List.{List}
use lib.ListN.{length}
use Rattle.std.specs.Result.{result_ok}
use Rattle.octets.proofs.Work.{front_long, front_back}
use Rattle.steps.specs.Allowance.{images}
use Rattle.looks.proofs.Passing.{turned_back, look_refused, look_passed}
use Rattle.tickets.proofs.Results.{add_ready, add_first, add_second, add_broken, add_full, end_inside, add_ran}
use Rattle.tickets.proofs.add.Goals as goal

pub returns-in_err-look : goal.returns-in_err-look
returns-in_err-look c =
    let s = images c.args.chips.now c.args.records.now c.args.slots.now in
    rw (turned_back _ c.from_residual.ensures.1) (add_first _ s _ _ _ (look_refused _ s _ c.settled_look.ensures c.in_err-look.was))

pub returns-in_err-given_check : goal.returns-in_err-given_check
returns-in_err-given_check c =
    let s = images c.args.chips.now c.args.records.now c.args.slots.now in
    let top = look_passed _ s _ c.settled_look.ensures c.in_ok-look.was in
    rw (turned_back _ c.from_residual-in_err-given_check.ensures.1) (add_second _ s _ _ _ top (sym c.given_check.ensures ∙ c.in_err-given_check.was))

pub slice_bounds-page-end : goal.slice_bounds-page-end
slice_bounds-page-end c =
    let s = images c.args.chips.now c.args.records.now c.args.slots.now in
    let h = add_ready c.args.g s _ c.args.ticket.now c.settled_look.ensures c.in_ok-look.was c.given_check.ensures c.in_ok-given_check.was in
    h.fit.within_limits.bytes_high

pub invariant_of-view : goal.invariant_of-view
invariant_of-view c =
    let s = images c.args.chips.now c.args.records.now c.args.slots.now in
    let fit = (add_ready c.args.g s _ c.args.ticket.now c.settled_look.ensures c.in_ok-look.was c.given_check.ensures c.in_ok-given_check.was).fit.fit in
    record { chips_fit = fit.chips; records_fit = fit.records; slots_fit = fit.slots }

pub walk_log-requires : goal.walk_log-requires
walk_log-requires c =
    let s = images c.args.chips.now c.args.records.now c.args.slots.now in
    let h = (add_ready c.args.g s _ c.args.ticket.now c.settled_look.ensures c.in_ok-look.was c.given_check.ensures c.in_ok-given_check.was).fit in
    (front_long _ 4096 h.within_limits.bytes_high, h.stripe)

pub returns-in_err-log : goal.returns-in_err-log
returns-in_err-log c =
    let s = images c.args.chips.now c.args.records.now c.args.slots.now in
    let h = add_ready c.args.g s _ c.args.ticket.now c.settled_look.ensures c.in_ok-look.was c.given_check.ensures c.in_ok-given_check.was in
    rw (turned_back _ c.from_residual-in_err-log.ensures.1)
    (add_broken _ s _ _ _ h 0 0 c.walk_log.ensures.tells c.ok_or.ensures.value c.in_err-log.was)

pub returns-in_err-t : goal.returns-in_err-t
returns-in_err-t c =
    let s = images c.args.chips.now c.args.records.now c.args.slots.now in
    let h = add_ready c.args.g s _ c.args.ticket.now c.settled_look.ensures c.in_ok-look.was c.given_check.ensures c.in_ok-given_check.was in
    let sound = c.ok_or.ensures.ok_part ∙ ap result_ok c.in_ok-log.was in
    rw (turned_back _ c.from_residual-in_err-t.ensures.1)
    (add_full _ s _ _ _ h 0 0 c.walk_log.ensures.tells sound c.ok_or-2.ensures.value c.in_err-t.was)

pub start_after-p-requires : goal.start_after-p-requires
start_after-p-requires c = omega (arith, c.walk_log.ensures.few _ (c.ok_or.ensures.ok_part ∙ ap result_ok c.in_ok-log.was))

pub slice_bounds-page-end-2 : goal.slice_bounds-page-end-2
slice_bounds-page-end-2 c =
    let s = images c.args.chips.now c.args.records.now c.args.slots.now in
    let h = add_ready c.args.g s _ c.args.ticket.now c.settled_look.ensures c.in_ok-look.was c.given_check.ensures c.in_ok-given_check.was in
    let front = front_back c.args.g.w 4096 h.fit.within_limits.bytes_high c.walk_log.auto.work refl in
    front.0

pub append-requires : goal.append-requires
append-requires c =
    let s = images c.args.chips.now c.args.records.now c.args.slots.now in
    let h = add_ready c.args.g s _ c.args.ticket.now c.settled_look.ensures c.in_ok-look.was c.given_check.ensures c.in_ok-given_check.was in
    let front = front_back c.args.g.w 4096 h.fit.within_limits.bytes_high c.walk_log.auto.work refl in
    let sound = c.ok_or.ensures.ok_part ∙ ap result_ok c.in_ok-log.was in
    let end = c.ok_or-2.ensures.ok_part ∙ ap result_ok c.in_ok-t.was in
    let store = h.ready.store in (
      store.settled,
      store.slots_fit,
      ap (λ (xs : List ℕ). length xs) front.1 ∙ c.walk_log.auto.work ∙ front_long _ 4096 h.fit.within_limits.bytes_high,
      end_inside _ s _ _ c.args.allowance h 0 0 c.walk_log.ensures.tells sound _ end,
      h.whole,
      c.start_after-p.ensures.1,
      h.ready.known,
      h.ready.slots,
      h.fit.stripe,
    )

pub returns : goal.returns
returns c =
    let s = images c.args.chips.now c.args.records.now c.args.slots.now in
    let h = add_ready c.args.g s _ c.args.ticket.now c.settled_look.ensures c.in_ok-look.was c.given_check.ensures c.in_ok-given_check.was in
    let sound = c.ok_or.ensures.ok_part ∙ ap result_ok c.in_ok-log.was in
    let end = c.ok_or-2.ensures.ok_part ∙ ap result_ok c.in_ok-t.was in
    rw c.answer.ensures
    (add_ran _ s _ _ _ h 0 0 c.walk_log.ensures.tells sound _ end c.start_after-p.ensures.0 c.append.ensures)
