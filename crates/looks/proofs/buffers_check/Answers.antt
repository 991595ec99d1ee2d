-- A row after another.
use mathlib.Core.Path.{sym, ◌∙◌}
use Rattle.rules.specs.Refusals.{buffers_rows}
use Rattle.looks.proofs.Passing.{turned_back, row_refused, row_passed}
use Rattle.looks.proofs.buffers_check.Goals as goal

pub returns-in_err-require : goal.returns-in_err-require
unfolding buffers_rows
returns-in_err-require c = turned_back _ c.from_residual.ensures.1 ∙ sym (row_refused _ _ c.require.ensures c.geometry_passes.ensures c.in_err-require.was)

pub returns : goal.returns
unfolding buffers_rows
returns c = rw (c.require-2.ensures, c.lengths_pass.ensures) (sym (row_passed _ _ c.require.ensures c.geometry_passes.ensures c.in_ok-require.was))
