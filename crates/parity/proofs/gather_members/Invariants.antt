-- After m turns the pages of the first m members are in, of those that belong.
use Rattle.parity.proofs.Parities.{Members}
use Rattle.parity.proofs.gather_members.Given as goal

abbrev pub invariant-loop-m : goal.invariant-loop-m
invariant-loop-m l = let v = l.view in Members v.g v.chips.now v.slots.now l.j l.e l.inside l.initial.work l.m l.work l.reads
