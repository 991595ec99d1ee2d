use native.Mathlib.Omega.{arith}
use mathlib.Core.Path.{◌≡◌}
use Rattle.records.proofs.Totals.{names_none, names_member, names_most, names_all}
use Rattle.records.proofs.names_of.Goals as goal

pub loop-m-init : goal.loop-m-init
loop-m-init c = names_none c.args.e

pub overflow_add-names-in-loop-m : goal.overflow_add-names-in-loop-m
overflow_add-names-in-loop-m c = omega (arith, names_most c.args.e c.loop-m.m)

pub loop-m-preserved : goal.loop-m-preserved
loop-m-preserved c = omega (arith, names_member c.args.e c.loop-m.m)

pub overflow_add-result : goal.overflow_add-result
overflow_add-result c = omega (arith, names_most c.args.e c.loop-m.m)

pub returns : goal.returns
returns c =
    let e = c.args.e in
    let m = c.loop-m.m in
    let all : m ≡ 6 = omega arith in
    let most = names_most e m in
    (λ g. rw (← names_all g e, ← all) (omega arith), omega arith)
