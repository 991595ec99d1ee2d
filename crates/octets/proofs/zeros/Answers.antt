use native.Mathlib.Omega.{arith}
use mathlib.Core.Path.{refl}
use lib.Seq.{take_all}
use Rattle.octets.specs.Number.{number}
use Rattle.octets.proofs.Lists.{zero_more}
use Rattle.octets.proofs.zeros.Goals as goal

pub loop-b-init : goal.loop-b-init
unfolding number
loop-b-init c = refl

pub loop-b-preserved : goal.loop-b-preserved
loop-b-preserved c = let l = c.loop-b in zero_more c.args.s.now l.b-index l.acc l.invariant

pub returns : goal.returns
returns c = rw (c.loop-b.invariant, take_all c.loop-b.b-index c.args.s.now (omega arith))
