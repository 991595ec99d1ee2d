-- The chip beside that of the parity.
use native.Mathlib.Omega.{arith}
use Rattle.layout.specs.Layout.{layout_of}
use Rattle.layout.proofs.Limits.{within}
use Rattle.codec.proofs.member_chip.Goals as goal

pub chip_beside-requires : goal.chip_beside-requires
chip_beside-requires c = omega (arith, c.requires.1, (within (layout_of c.args.g) c.requires.0).members_high)

pub returns : goal.returns
returns c =
    let x = c.chip_beside.ensures in
    (x.0 (layout_of c.args.g) c.args.j c.parity_chip.ensures.0, omega (arith, x.1, c.requires.1))
