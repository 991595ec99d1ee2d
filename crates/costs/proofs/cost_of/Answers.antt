-- Each cost is the one that the test chooses; with at most six members it is below 8.
use native.Mathlib.Omega.{arith}
use mathlib.Core.Path.{sym, ◌∙◌}
use Rattle.rules.specs.Costs.{cost_of}
use Rattle.costs.proofs.cost_of.Goals as goal

pub returns-then-most_in_partial : goal.returns-then-most_in_partial
unfolding cost_of
returns-then-most_in_partial c = (rw (sym c.most_in_partial.ensures ∙ c.if-most_in_partial.true), omega arith)

pub returns-else-most_in_partial : goal.returns-else-most_in_partial
unfolding cost_of
returns-else-most_in_partial c = (rw (sym c.most_in_partial.ensures ∙ c.if-most_in_partial.false), omega arith)
