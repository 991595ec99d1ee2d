-- Where the page is not due, no store is made. Else the stripe on it is one of the store's, and what is stored is its record with the
-- copy in place of the original.
use Prim.Native.Nat.{◌+◌, ◌*◌}
use native.Mathlib.Omega.{arith}
use mathlib.Core.Path.{sym, ap, ◌∙◌}
use borrow.Author.Tests.{not-true, not-false}
use Rattle.layout.specs.Layout.{layout_of}
use Rattle.rules.specs.Open.{repointed}
use Rattle.steps.specs.Allowance.{images}
use Rattle.steps.proofs.Allowances.{ran_none}
use Rattle.codec.proofs.Encodings.{ended_same}
use Rattle.names.proofs.Statements.{stripes}
use Rattle.collect.proofs.Dues.{pages_small}
use Rattle.collect.proofs.Moves.{under_way, page_fits, no_move, due_stripe, one_move}
use Rattle.collect.proofs.move_from.Goals as goal

pub overflow_mul-q : goal.overflow_mul-q
overflow_mul-q c =
    let h = c.requires in
    omega (arith, page_fits h.0 h.1 h.2 h.3, pages_small c.args.g h.0.chips_fit.limited)

pub overflow_add-q : goal.overflow_add-q
overflow_add-q c =
    let h = c.requires in
    omega (arith, page_fits h.0 h.1 h.2 h.3, pages_small c.args.g h.0.chips_fit.limited)

pub is_due-requires : goal.is_due-requires
is_due-requires c =
    let h = c.requires in
    let way = under_way h.0 h.1 h.2 h.3 in
    (h.0, h.1, way.chip, way.victim, page_fits h.0 h.1 h.2 h.3)

pub returns-then-not-is_due : goal.returns-then-not-is_due
returns-then-not-is_due c =
    let a = c.args in
    let h = c.requires in
    let off = sym c.is_due.ensures ∙ not-true c.is_due.result c.if-not-is_due.true-raw in
    λ zs.
    rw (no_move h.0 h.1 h.2 h.3 off zs)
    (ran_none (layout_of a.g) a.p (images a.chips.now a.records.now zs) h.4)

pub spare_at-t-requires : goal.spare_at-t-requires
spare_at-t-requires c =
    let h = c.requires in
    (h.0.chips_fit, (under_way h.0 h.1 h.2 h.3).chip, page_fits h.0 h.1 h.2 h.3)

pub record_at-requires : goal.record_at-requires
record_at-requires c =
    let h = c.requires in
    let on = sym c.is_due.ensures ∙ not-false c.is_due.result c.if-not-is_due.false-raw in
    (h.0.records_pass.fit, due_stripe h.0 h.1 h.2 h.3 on c.spare_at-t.ensures.0)

pub repoint-e-requires : goal.repoint-e-requires
repoint-e-requires c =
    let h = c.requires in
    (h.0.chips_fit.limited, (under_way h.0 h.1 h.2 h.3).chip, c.record_at.ensures.1, omega (arith, page_fits h.0 h.1 h.2 h.3, pages_small c.args.g h.0.chips_fit.limited))

pub store_record-requires : goal.store_record-requires
store_record-requires c =
    let h = c.requires in
    let on = sym c.is_due.ensures ∙ not-false c.is_due.result c.if-not-is_due.false-raw in
    (h.0.records_pass.fit, due_stripe h.0 h.1 h.2 h.3 on c.spare_at-t.ensures.0, c.repoint-e.ensures.1, h.4)

pub returns : goal.returns
returns c =
    let a = c.args in
    let h = c.requires in
    let t = c.spare_at-t in
    let on = sym c.is_due.ensures ∙ not-false c.is_due.result c.if-not-is_due.false-raw in
    let is = c.record_at.ensures.0 ∙ ended_same ((stripes a.g a.chips.now a.records.now h.0).stripe t.result.stripe (due_stripe h.0 h.1 h.2 h.3 on t.ensures.0)).rest in
    let new = c.repoint-e.ensures.0 ∙ ap (repointed (layout_of a.g) a.co.chip t.result.stripe t.result.copied (a.co.destination * a.g.k + a.i)) is in
    λ zs. rw (one_move h.0 h.1 h.2 h.3 on t.ensures.0 _ new zs) (c.store_record.ensures a.chips.now zs)
