-- After i turns the moves of the places below i are made, as far as the allowance goes. While the call is not cut the images stay
-- sound, and where it is cut no store is made of the places that are left.
use Rattle.collect.proofs.Moves.{Carried}
use Rattle.collect.proofs.move_all.Given as goal

abbrev pub invariant-loop-i : goal.invariant-loop-i
invariant-loop-i l = Carried l.g l.chips l.initial.records l.initial.run l.i l.run l.records
