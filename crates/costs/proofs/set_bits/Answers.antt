use native.Mathlib.Omega.{arith}
use native.Mathlib.Numerals.{add-one}
use mathlib.Core.Path.{◌≡◌, sym, ◌∙◌}
use Rattle.ranges.proofs.Counts.{count_start, count_le, count_cong}
use Rattle.ranges.proofs.Tallies.{count_more}
use Rattle.layout.specs.Layout.{layout_of}
use Rattle.layout.specs.Record.{bit}
use Rattle.rules.specs.Costs.{set_bits}
use Rattle.layout.proofs.Limits.{within}
use Rattle.layout.proofs.Bits.{test_bit}
use Rattle.costs.proofs.set_bits.Goals as goal
use Rattle.costs.proofs.set_bits.Goals.{else-bit_of, then-bit_of}

pub loop-m-init : goal.loop-m-init
loop-m-init c = sym (count_start (test_bit c.args.bitmap))

pub bit_of-requires : goal.bit_of-requires
bit_of-requires c = omega (arith, (within (layout_of c.args.g) c.requires).members_high)

pub overflow_add-p : goal.overflow_add-p
overflow_add-p c = omega (arith, count_le c.loop-m.m (test_bit c.args.bitmap))

pub loop-m-preserved : goal.loop-m-preserved
loop-m-preserved c =
    let o = c.loop-m in
    let f = test_bit c.args.bitmap in
    rw (add-one, count_more o.m f, ← o.invariant, ← c.bit_of.ensures)
    (elim c.if-bit_of.branch [
      | then-bit_of w ↦ rw w.if-bit_of.true w.p-is
      | else-bit_of w ↦ rw w.if-bit_of.false (omega (arith, w.p-is))
    ])

pub returns : goal.returns
unfolding set_bits bit
returns c =
    let w = c.loop-m in
    let b = c.args.bitmap in
    let all : w.m ≡ c.args.g.n = omega arith in
    let is = rw all at w.invariant in
    (λ e q. is ∙ count_cong c.args.g.n (test_bit b) (bit e) (λ i h. rw q), rw is (count_le c.args.g.n (test_bit b)))
