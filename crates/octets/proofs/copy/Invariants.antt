-- After i turns the first i bytes of dst are those of src.
use Rattle.octets.proofs.Lists.{Stored}
use Rattle.octets.proofs.copy.Given as goal

abbrev pub invariant-loop-i : goal.invariant-loop-i
invariant-loop-i l = Stored l.src l.initial.dst l.i l.dst
