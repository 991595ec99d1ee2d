-- Refused, or the list run from the start of the allowance.
use mathlib.Core.Path.{sym, ◌∙◌}
use Rattle.layout.proofs.Limits.{within}
use Rattle.looks.proofs.Passing.{turned_back, buffers_fit}
use Rattle.calls.proofs.Results.{format_refused, format_ran}
use Rattle.calls.proofs.format.Goals as goal

pub returns-in_err-buffers_check : goal.returns-in_err-buffers_check
returns-in_err-buffers_check c = rw (turned_back _ c.from_residual.ensures.1) (format_refused _ _ _ (sym c.buffers_check.ensures ∙ c.in_err-buffers_check.was))

pub format_all-requires : goal.format_all-requires
format_all-requires c =
    let fit = buffers_fit _ _ (sym c.buffers_check.ensures ∙ c.in_ok-buffers_check.was) in
    (fit.chips, fit.records, c.start.ensures.1)

pub returns : goal.returns
returns c =
    let passed = sym c.buffers_check.ensures ∙ c.in_ok-buffers_check.was in
    let fit = buffers_fit c.args.g _ passed in
    rw c.answer.ensures (format_ran _ _ _ (within _ fit.chips.limited) passed c.start.ensures.0 (c.format_all.ensures _))
