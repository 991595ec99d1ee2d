use native.Mathlib.Omega.{arith}
use mathlib.Core.Path.{◌≡◌, refl, sym}
use Rattle.commands.specs.Parsing.{decimal_value}
use Rattle.commands.proofs.Digits.{digit_most, value_next, value_small}
use Rattle.commands.proofs.decimal_value.Goals as goal

pub loop-i-init : goal.loop-i-init
unfolding decimal_value
loop-i-init c = refl

pub overflow_mul-n : goal.overflow_mul-n
overflow_mul-n c = omega (arith, value_small c.args.s.now c.loop-i.i (omega arith))

pub overflow_add-n : goal.overflow_add-n
overflow_add-n c =
    let l = c.loop-i in
    let small = value_small c.args.s.now l.i (omega arith) in
    omega (arith, digit_most c.byte_at.result)

pub loop-i-preserved : goal.loop-i-preserved
loop-i-preserved c =
    let l = c.loop-i in
    rw (l.invariant, c.from.ensures, c.digit_value.ensures, c.byte_at.ensures) (sym (value_next c.args.s.now l.i))

pub returns : goal.returns
returns c = let e : c.loop-i.i ≡ c.args.k = omega arith in cc
