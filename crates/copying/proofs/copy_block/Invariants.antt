-- After i turns the copies of the places below i are made, as far as the allowance goes. While the call is not cut the images stay
-- sound, so that names can be told from stamps; where it is cut no store is made of the places that are left.
use Rattle.copying.proofs.Copies.{Begun, Copying}
use Rattle.copying.proofs.copy_block.Given as goal

abbrev pub invariant-loop-i : goal.invariant-loop-i
invariant-loop-i l = Begun l.g l.initial.chips l.fn.records l.records l.slots l.c l.v l.d l.fn.p l.initial.run
    × Copying l.g l.records l.initial.chips l.c l.v l.d l.initial.run l.i l.copies l.run l.chips
