-- A row after another.
use mathlib.Core.Path.{refl, sym, ◌∙◌}
use Rattle.looks.proofs.Passing.{turned_back, row_refused, row_passed}
use Rattle.calls.proofs.free_check.Goals as goal

pub returns-in_err-require : goal.returns-in_err-require
returns-in_err-require c = turned_back _ c.from_residual.ensures.1 ∙ sym (row_refused _ _ c.require.ensures refl c.in_err-require.was)

pub returns : goal.returns
returns c = c.require-2.ensures ∙ sym (row_passed _ _ c.require.ensures refl c.in_ok-require.was)
