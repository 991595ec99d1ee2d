-- The record is that of the definition, and its fields are small.
use native.Mathlib.Omega.{arith}
use Rattle.layout.specs.Layout.{none}
use Rattle.rules.specs.Parity.{committed}
use Rattle.codec.specs.Views.{record_from}
use Rattle.parity.proofs.Committing.{no_olds, same_small}
use Rattle.parity.proofs.committed.Goals as goal

pub returns : goal.returns
unfolding record_from committed none
returns c = (
  λ g. rw (no_olds g),
  record {
    current = c.requires.0.current;
    old = λ m. same_small 6 65535 65536 m (omega arith);
    parity = c.requires.1;
    bitmap = omega arith;
    slot = omega arith;
  },
)
