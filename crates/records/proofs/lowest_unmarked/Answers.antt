use Prim.Native.Nat.{◌+◌}
use native.Mathlib.Numerals.{add-one}
use native.Mathlib.Omega.{arith}
use mathlib.Core.Path.{sym}
use Rattle.ranges.proofs.Looks.{first_start, first_not_here, first_nothing, first_is}
use Rattle.records.specs.Slots.{unmarked}
use Rattle.records.proofs.lowest_unmarked.Goals as goal

pub loop-i-init : goal.loop-i-init
loop-i-init c = first_start (unmarked c.args.marks.now)

pub returns-then-not-marks-i : goal.returns-then-not-marks-i
returns-then-not-marks-i c =
    let a = c.args in
    let o = c.loop-i in
    let f = unmarked a.marks.now in
    sym (first_is (a.m + 1) f o.i (omega arith) c.if-not-marks-i.true-raw (first_nothing o.i f o.invariant))

pub loop-i-preserved : goal.loop-i-preserved
loop-i-preserved c =
    let o = c.loop-i in
    rw add-one (first_not_here o.i (unmarked c.args.marks.now) o.invariant c.if-not-marks-i.false-raw)
