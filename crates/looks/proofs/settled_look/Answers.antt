-- Rows 1 to 5, and then the phase.
use mathlib.Core.Path.{sym, ap, ◌∙◌}
use lib.Dec.{eqb}
use Prim.Native.Nat.{ℕ}
use Rattle.steps.specs.Allowance.{images}
use Rattle.looks.proofs.Passing.{turned_back, row_refused, row_passed, look_refused, look_passed, refusal_told, images_fit, settled_first, settled_next}
use Rattle.looks.proofs.settled_look.Goals as goal

pub returns-in_err-look : goal.returns-in_err-look
returns-in_err-look c =
    let s = images c.args.chips.now c.args.records.now c.args.slots.now in
    refusal_told _ s _ (turned_back _ c.from_residual.ensures.1) (settled_first _ s _ (look_refused _ s _ c.images_look.ensures c.in_err-look.was))

pub collection_at-co-requires : goal.collection_at-co-requires
collection_at-co-requires c =
    let s = images c.args.chips.now c.args.records.now c.args.slots.now in
    (images_fit _ s _ (look_passed _ s _ c.images_look.ensures c.in_ok-look.was)).fit.records

pub returns-in_err-require : goal.returns-in_err-require
returns-in_err-require c =
    let s = images c.args.chips.now c.args.records.now c.args.slots.now in
    refusal_told _ s _ (turned_back _ c.from_residual-in_err-require.ensures.1)
    (settled_next _ s _ (look_passed _ s _ c.images_look.ensures c.in_ok-look.was)
    ∙ row_refused _ _ c.require.ensures (ap (λ (n : ℕ). eqb n 0) c.collection_at-co.ensures.phase) c.in_err-require.was)

pub returns : goal.returns
returns c =
    let s = images c.args.chips.now c.args.records.now c.args.slots.now in
    let above = look_passed _ s _ c.images_look.ensures c.in_ok-look.was in
    let row = row_passed _ _ c.require.ensures (ap (λ (n : ℕ). eqb n 0) c.collection_at-co.ensures.phase) c.in_ok-require.was in
    rw (settled_next _ s _ above ∙ row) (sym c.in_ok-look.was ∙ c.images_look.ensures ∙ rw above)
