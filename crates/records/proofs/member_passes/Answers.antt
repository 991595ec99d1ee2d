-- The code is the definition at a member below six.
use native.Mathlib.Omega.{arith}
use borrow.Author.Tests.{lt-ltb}
use Rattle.layout.specs.Layout.{none}
use Rattle.layout.specs.Record.{bit}
use Rattle.rules.specs.Sound.{member_sound}
use Rattle.codec.specs.Views.{record_from, six_of}
use Rattle.codec.proofs.Sizes.{bounded}
use Rattle.records.proofs.member_passes.Goals as goal

pub overflow_mul-pages : goal.overflow_mul-pages
overflow_mul-pages c = omega (arith, bounded c.args.g c.requires.0)

pub returns : goal.returns
unfolding member_sound bit record_from six_of none
returns c = rw (c.bit_of-bit.ensures, lt-ltb c.args.m 6 c.requires.1)
