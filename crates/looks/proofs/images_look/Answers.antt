-- Rows 1 and 2 come from `buffers_check`; each exit after that is one row more.
use mathlib.Core.Path.{refl, sym, ap, ◌∙◌}
use Rattle.spares.specs.declared.Survey.{Survey}
use Rattle.steps.specs.Allowance.{images}
use Rattle.looks.proofs.Passing.{turned_back, row_refused, row_passed, test_passed, refusal_told, buffers_fit, images_first, images_next}
use Rattle.looks.proofs.images_look.Goals as goal

pub returns-in_err-buffers_check : goal.returns-in_err-buffers_check
returns-in_err-buffers_check c =
    let s = images c.args.chips.now c.args.records.now c.args.slots.now in
    refusal_told _ s _ (turned_back _ c.from_residual.ensures.1) (images_first _ s _ (sym c.buffers_check.ensures ∙ c.in_err-buffers_check.was))

pub returns-in_err-require : goal.returns-in_err-require
returns-in_err-require c =
    let s = images c.args.chips.now c.args.records.now c.args.slots.now in
    refusal_told _ s _ (turned_back _ c.from_residual-in_err-require.ensures.1)
    (images_next _ s _ (sym c.buffers_check.ensures ∙ c.in_ok-buffers_check.was)
    ∙ row_refused _ _ c.require.ensures refl c.in_err-require.was)

pub scan_records-scan-requires : goal.scan_records-scan-requires
scan_records-scan-requires c =
    let s = images c.args.chips.now c.args.records.now c.args.slots.now in
    (buffers_fit _ s (sym c.buffers_check.ensures ∙ c.in_ok-buffers_check.was)).records

pub returns-in_err-require-2 : goal.returns-in_err-require-2
returns-in_err-require-2 c =
    let s = images c.args.chips.now c.args.records.now c.args.slots.now in
    refusal_told _ s _ (turned_back _ c.from_residual-in_err-require-2.ensures.1)
    (images_next _ s _ (sym c.buffers_check.ensures ∙ c.in_ok-buffers_check.was)
    ∙ row_passed _ _ c.require.ensures refl c.in_ok-require.was
    ∙ row_refused _ _ c.require-2.ensures c.scan_records-scan.ensures.0 c.in_err-require-2.was)

pub collection_at-co-requires : goal.collection_at-co-requires
collection_at-co-requires c =
    let s = images c.args.chips.now c.args.records.now c.args.slots.now in
    (buffers_fit _ s (sym c.buffers_check.ensures ∙ c.in_ok-buffers_check.was)).records

pub scan_spares-survey-requires : goal.scan_spares-survey-requires
scan_spares-survey-requires c =
    let s = images c.args.chips.now c.args.records.now c.args.slots.now in
    let fit = buffers_fit _ s (sym c.buffers_check.ensures ∙ c.in_ok-buffers_check.was) in
    let pass = test_passed _ c.require-2.ensures c.scan_records-scan.ensures.0 c.in_ok-require-2.was in
    (fit.chips, record { fit = fit.records; pass = pass }, c.collection_at-co.ensures, c.scan_records-scan.ensures.1)

pub returns-in_err-require-3 : goal.returns-in_err-require-3
returns-in_err-require-3 c =
    let s = images c.args.chips.now c.args.records.now c.args.slots.now in
    refusal_told _ s _ (turned_back _ c.from_residual-in_err-require-3.ensures.1)
    (images_next _ s _ (sym c.buffers_check.ensures ∙ c.in_ok-buffers_check.was)
    ∙ row_passed _ _ c.require.ensures refl c.in_ok-require.was
    ∙ row_passed _ _ c.require-2.ensures c.scan_records-scan.ensures.0 c.in_ok-require-2.was
    ∙ row_refused _ _ c.require-3.ensures (ap (λ (o : Survey). o.sound) c.scan_spares-survey.ensures) c.in_err-require-3.was)

pub returns : goal.returns
returns c =
    let s = images c.args.chips.now c.args.records.now c.args.slots.now in
    let seen = c.scan_spares-survey.ensures in
    rw (
      images_next _ s _ (sym c.buffers_check.ensures ∙ c.in_ok-buffers_check.was)
          ∙ row_passed _ _ c.require.ensures refl c.in_ok-require.was
          ∙ row_passed _ _ c.require-2.ensures c.scan_records-scan.ensures.0 c.in_ok-require-2.was
          ∙ row_passed _ _ c.require-3.ensures (ap (λ (o : Survey). o.sound) seen) c.in_ok-require-3.was,
      ap (λ (o : Survey). o.chips) seen,
      c.scan_records-scan.ensures.2,
    )
