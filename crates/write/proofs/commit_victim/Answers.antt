-- The match is that of the definition. A chip is one of at most seven.
use Prim.Native.Nat.{◌<◌}
use native.Mathlib.Omega.{arith}
use Rattle.ranges.specs.Look.{when_found}
use Rattle.layout.specs.Layout.{layout_of}
use Rattle.layout.proofs.Limits.{within}
use Rattle.write.proofs.Owing.{victim_at}
use Rattle.write.proofs.commit_victim.Goals as goal

seven : (c : goal.After-parity_chip) → c.parity_chip.result < 7
seven c = omega (arith, c.parity_chip.ensures.1, (within (layout_of c.args.g) c.requires).members_high)

pub offset_bounds-scans-parity_chip : goal.offset_bounds-scans-parity_chip
offset_bounds-scans-parity_chip c = omega (arith, seven c)

pub bounds-scans-parity_chip : goal.bounds-scans-parity_chip
bounds-scans-parity_chip c = seven c

pub returns-in-Some : goal.returns-in-Some
unfolding when_found
returns-in-Some c = rw c.in-Some.is (victim_at c.args.scans c.victim_in.ensures c.parity_chip.ensures.0)

pub returns-in-None : goal.returns-in-None
unfolding when_found
returns-in-None c = rw c.in-None.is
