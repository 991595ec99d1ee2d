use Prim.Native.Nat.{◌/◌}
use native.Mathlib.Omega.{arith}
use mathlib.Core.Path.{◌≡◌, sym}
use lib.ListN.{length}
use Rattle.ticket_log.proofs.Seeing.{plain_none, plain_more}
use Rattle.ticket_log.proofs.all_plain.Goals as goal

pub returns-then-per_page-eq1 : goal.returns-then-per_page-eq1
returns-then-per_page-eq1 c =
    let a = c.args in
    rw c.if-per_page-eq1.true (plain_more a.page.now a.lot a.bag 0 (plain_none a.page.now a.lot a.bag) c.is_plain.ensures)

pub loop-i-init : goal.loop-i-init
loop-i-init c = let a = c.args in (omega arith, plain_none a.page.now a.lot a.bag)

pub loop-i-preserved : goal.loop-i-preserved
loop-i-preserved c =
    let a = c.args in
    let l = c.loop-i in
    (omega arith, plain_more a.page.now a.lot a.bag l.i l.invariant.1 c.is_plain-plain.ensures)

pub returns : goal.returns
returns c =
    let l = c.loop-i in
    let all : l.i ≡ length c.args.page.now / 16 = omega arith in
    rw (sym all) l.invariant.1
