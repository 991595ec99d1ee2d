-- After i turns the first i bytes are those of the number.
use Rattle.codec.proofs.Fills.{Digits}
use Rattle.codec.proofs.put.fill_number.Given as goal

abbrev pub invariant-loop-i : goal.invariant-loop-i
invariant-loop-i l = Digits l.x l.initial.dst l.i l.rest l.dst
