-- Each match is the definition's.
use native.Mathlib.Omega.{arith}
use Rattle.layout.specs.Layout.{layout_of}
use Rattle.fetch.proofs.Others.{six, current_fits, old_fits}
use Rattle.fetch.proofs.chip_of.Goals as goal

pub chip_beside-requires : goal.chip_beside-requires
chip_beside-requires c = six c.args.g c.requires.0 (current_fits c.args.g c.in-Current.is c.requires.2)

pub chip_beside-requires-in-Old : goal.chip_beside-requires-in-Old
chip_beside-requires-in-Old c = six c.args.g c.requires.0 (old_fits c.args.g c.in-Old.is c.requires.2)

pub returns-in-Current : goal.returns-in-Current
returns-in-Current c = rw c.in-Current.is (λ j e. c.chip_beside.ensures.0 (layout_of c.args.g) j e, omega (arith, c.chip_beside.ensures.1, rw c.in-Current.is at c.requires.2))

pub returns-in-Old : goal.returns-in-Old
returns-in-Old c = rw c.in-Old.is (λ j e. c.chip_beside-in-Old.ensures.0 (layout_of c.args.g) j e, omega (arith, c.chip_beside-in-Old.ensures.1, rw c.in-Old.is at c.requires.2))

pub returns-in-Parity : goal.returns-in-Parity
returns-in-Parity c = rw c.in-Parity.is (λ j e. e, c.requires.1)
