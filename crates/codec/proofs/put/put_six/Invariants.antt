-- After m turns the first m numbers stand in their bytes.
use Prim.Native.Nat.{ℕ}
use lib.ListN.{get_or}
use Rattle.codec.proofs.Fills.{Numbers}
use Rattle.codec.proofs.put.put_six.Given as goal

abbrev pub invariant-loop-m : goal.invariant-loop-m
invariant-loop-m l = Numbers l.a 2 (λ (i : ℕ). get_or l.x-items i 0) l.initial.dst l.m l.dst
