-- The tests are those of the definition, each where the ones before it have not decided.
use borrow.Author.Tests.{eq-eqb, ne_eqb}
use Rattle.spares.specs.Scans.{has_number}
use Rattle.spares.proofs.block.has_number.Goals as goal

pub returns-then-i-eq-NO_INDEX : goal.returns-then-i-eq-NO_INDEX
unfolding has_number
returns-then-i-eq-NO_INDEX c = rw (eq-eqb c.args.field 255 c.if-i-eq-NO_INDEX.true)

pub returns-then-number_in-p : goal.returns-then-number_in-p
unfolding has_number
returns-then-number_in-p c =
    let a = c.args in
    let n = c.number_in in
    rw (ne_eqb a.field 255 c.if-i-eq-NO_INDEX.false, ← n.ensures.0, eq-eqb n.result a.p c.if-number_in-p.true)

pub returns-then-i-eq-LAST : goal.returns-then-i-eq-LAST
unfolding has_number
returns-then-i-eq-LAST c =
    let a = c.args in
    let n = c.number_in in
    rw (ne_eqb a.field 255 c.if-i-eq-NO_INDEX.false, ← n.ensures.0, ne_eqb n.result a.p c.if-number_in-p.false, eq-eqb a.field 12 c.if-i-eq-LAST.true)

pub returns : goal.returns
unfolding has_number
returns c =
    let a = c.args in
    let n = c.number_in in
    rw (
      ne_eqb a.field 255 c.if-i-eq-NO_INDEX.false,
      ← n.ensures.0,
      ne_eqb n.result a.p c.if-number_in-p.false,
      ne_eqb a.field 12 c.if-i-eq-LAST.false,
      c.number_in-2.ensures.0,
    )
