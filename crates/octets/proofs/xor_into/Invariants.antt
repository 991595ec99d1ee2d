-- After i turns the first i bytes of dst are those of the XOR; the byte that is read next is still that of dst at entry.
use Rattle.octets.proofs.Lists.{Stored}
use Rattle.octets.specs.Xor.{◌⊕◌}
use Rattle.octets.proofs.xor_into.Given as goal

abbrev pub invariant-loop-i : goal.invariant-loop-i
invariant-loop-i l = Stored (l.initial.dst ⊕ l.src) l.initial.dst l.i l.dst
