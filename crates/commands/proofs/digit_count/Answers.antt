use native.Mathlib.Omega.{arith}
use Rattle.commands.proofs.Digits.{count_next, count_here, count_end}
use Rattle.commands.proofs.digit_count.Goals as goal

pub loop-i-init : goal.loop-i-init
loop-i-init c = omega arith

pub returns-then-digit_value-ge10 : goal.returns-then-digit_value-ge10
returns-then-digit_value-ge10 c =
    let l = c.loop-i in
    count_here c.args.s.now l.i l.invariant (omega arith) (omega arith)

pub loop-i-preserved : goal.loop-i-preserved
loop-i-preserved c =
    let l = c.loop-i in
    count_next c.args.s.now l.i l.invariant (omega arith) (omega arith)

pub returns : goal.returns
returns c = let l = c.loop-i in omega (arith, count_end c.args.s.now l.i l.invariant (omega arith))
