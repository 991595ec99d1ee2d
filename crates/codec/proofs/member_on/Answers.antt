-- The test of the code is the test of the definition.
use Prim.Native.Nat.{◌≤◌}
use native.Mathlib.Omega.{arith}
use borrow.Author.Tests.{lt-ltb, le-ltb}
use Rattle.layout.specs.Layout.{layout_of}
use Rattle.layout.specs.Rotation.{member_on}
use Rattle.layout.proofs.Limits.{within}
use Rattle.codec.proofs.member_on.Goals as goal

pub overflow_sub-result : goal.overflow_sub-result
overflow_sub-result c = omega (arith, c.requires.3)

pub returns-then-c-parity : goal.returns-then-c-parity
unfolding member_on
returns-then-c-parity c =
    let six : c.args.g.n ≤ 6 = (within (layout_of c.args.g) c.requires.0).members_high in
    (λ j is. rw (← is, lt-ltb c.args.c c.args.parity c.if-c-parity.true), omega (arith, c.requires.2), omega (arith, c.requires.2, six))

pub returns-else-c-parity : goal.returns-else-c-parity
unfolding member_on
returns-else-c-parity c =
    let six : c.args.g.n ≤ 6 = (within (layout_of c.args.g) c.requires.0).members_high in
    (λ j is. rw (← is, le-ltb c.args.c c.args.parity c.if-c-parity.false), omega (arith, c.requires.3, c.requires.1), omega (arith, c.requires.3, c.requires.1, six))
