-- Refused by rows 1 to 9, or for want of a slot; else what `commit_stripe` runs.
use Prim.Native.Nat.{ℕ, ◌<◌}
use native.Mathlib.Omega.{arith}
use mathlib.Core.Path.{sym, ap, ◌∙◌}
use mathlib.Core.Bool.{not}
use borrow.Author.Tests.{ltb-true}
use lib.Dec.{eqb, ltb}
use Rattle.octets.proofs.Work.{front_long}
use Rattle.steps.specs.Allowance.{images}
use Rattle.commit.proofs.Placing.{seven, known_victim}
use Rattle.looks.proofs.Passing.{turned_back, row_refused, test_passed, look_refused, look_passed}
use Rattle.calls.proofs.Results.{FreeReady, free_ready, commit_first, commit_second, commit_slotless, commit_ran}
use Rattle.calls.proofs.commit.Goals as goal
use Rattle.calls.proofs.commit.Goals.{In_ok-free_check}

-- what the look and rows 7 and 9 have shown
passed : (c : goal.In_ok-free_check) → FreeReady c.args.g (images c.args.chips.now c.args.records.now c.args.slots.now) c.args.lost (ltb c.args.stripe c.args.g.s) c.in_ok-look.look
passed c = free_ready _ _ _ _ c.settled_look.ensures c.in_ok-look.was c.free_check.ensures c.in_ok-free_check.was

-- a chip is one of at most seven
low : (c : goal.After-parity_chip) → c.parity_chip.result < 7
low c =
    let s = images c.args.chips.now c.args.records.now c.args.slots.now in
    let h = free_ready _ s _ _ c.settled_look.ensures c.in_ok-look.was c.free_check.ensures c.in_ok-free_check.was in
    seven h.ready.store.settled c.parity_chip.ensures.1

pub returns-in_err-look : goal.returns-in_err-look
returns-in_err-look c =
    let s = images c.args.chips.now c.args.records.now c.args.slots.now in
    rw (turned_back _ c.from_residual.ensures.1)
    (commit_first _ s _ _ _ (look_refused _ s _ c.settled_look.ensures c.in_err-look.was))

pub returns-in_err-free_check : goal.returns-in_err-free_check
returns-in_err-free_check c =
    let s = images c.args.chips.now c.args.records.now c.args.slots.now in
    let top = look_passed _ s _ c.settled_look.ensures c.in_ok-look.was in
    rw (turned_back _ c.from_residual-in_err-free_check.ensures.1)
    (commit_second _ s _ _ _ top (sym c.free_check.ensures ∙ c.in_err-free_check.was))

pub slot_at-requires : goal.slot_at-requires
slot_at-requires c =
    let h = passed (goal.at.slot_at-requires c).In_ok-free_check in
    (h.ready.store.settled.checked.records_pass.fit, ltb-true _ _ h.fit)

pub returns-in_err-require : goal.returns-in_err-require
returns-in_err-require c =
    let s = images c.args.chips.now c.args.records.now c.args.slots.now in
    let h = passed (goal.at.returns-in_err-require c).In_ok-free_check in
    rw (turned_back _ c.from_residual-in_err-require.ensures.1)
    (commit_slotless _ s _ _ _ h (row_refused _ _ c.require.ensures (ap (λ (n : ℕ). not (eqb n 255)) c.slot_at.ensures.0) c.in_err-require.was))

pub parity_chip-requires : goal.parity_chip-requires
parity_chip-requires c =
    let h = passed (goal.at.parity_chip-requires c).In_ok-free_check in
    h.ready.store.slots_fit.limited

pub offset_bounds-look-parity_chip : goal.offset_bounds-look-parity_chip
offset_bounds-look-parity_chip c = omega (arith, low c)

pub bounds-look-parity_chip : goal.bounds-look-parity_chip
bounds-look-parity_chip c = low c

pub slice_bounds-work-end : goal.slice_bounds-work-end
slice_bounds-work-end c =
    let h = passed (goal.at.slice_bounds-work-end c).In_ok-free_check in
    h.ready.store.within_limits.bytes_high

pub commit_stripe-requires : goal.commit_stripe-requires
commit_stripe-requires c =
    let h = passed (goal.at.commit_stripe-requires c).In_ok-free_check in
    let has = test_passed _ c.require.ensures (ap (λ (n : ℕ). not (eqb n 255)) c.slot_at.ensures.0) c.in_ok-require.was in
    let on = c.parity_chip.ensures in
    let store = h.ready.store in
    (store.settled, store.slots_fit, front_long _ 4096 store.within_limits.bytes_high, ltb-true _ _ h.fit, c.start-run.ensures.1, has, known_victim h.ready.known on.1 on.0 c.victim_in-v.ensures)

pub returns : goal.returns
returns c =
    let s = images c.args.chips.now c.args.records.now c.args.slots.now in
    let h = passed (goal.at.returns c).In_ok-free_check in
    let has = test_passed _ c.require.ensures (ap (λ (n : ℕ). not (eqb n 255)) c.slot_at.ensures.0) c.in_ok-require.was in
    rw c.answer.ensures (commit_ran _ s _ _ _ h has c.start-run.ensures.0 c.commit_stripe.ensures)
