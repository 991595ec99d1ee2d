-- Before member m, names is how many pages the members below m have: at most two each. The parity page is counted last.
use mathlib.Core.Path.{◌≡◌}
use Rattle.records.proofs.Totals.{names_to}
use Rattle.records.proofs.names_of.Given as goal

abbrev pub invariant-loop-m : goal.invariant-loop-m
invariant-loop-m l = l.names ≡ names_to l.e l.m
