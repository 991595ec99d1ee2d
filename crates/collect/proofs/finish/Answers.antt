-- One case for each phase. In phase 2 the end follows the moves, whether they are cut or not.
use native.Mathlib.Omega.{arith}
use mathlib.Core.Path.{◌∙◌}
use Rattle.layout.specs.Layout.{layout_of}
use Rattle.layout.specs.Collection.{collection_at}
use Rattle.steps.specs.Steps.{then_below}
use Rattle.steps.specs.Allowance.{images}
use Rattle.steps.proofs.Allowances.{ran_none, ran_then}
use Rattle.rules.specs.Open.{ending, move_steps}
use Rattle.collect.proofs.Underway.{working}
use Rattle.names.proofs.Statements.{some_slots}
use Rattle.collect.proofs.Moves.{finish_first, finish_second, finish_idle}
use Rattle.collect.proofs.finish.Goals as goal

pub end-requires : goal.end-requires
end-requires c =
    let w = working c.requires.0 c.collection_at-co.ensures (omega arith) in
    (c.requires.0.chips_fit, c.requires.0.records_pass.fit, w.chip, w.destination, c.requires.1)

pub returns-then-co-eq1 : goal.returns-then-co-eq1
returns-then-co-eq1 c =
    let a = c.args in
    λ zs e.
    rw (finish_first (layout_of a.g) (images a.chips.now a.records.now zs) c.collection_at-co.ensures c.if-co-eq1.true)
    (c.end.ensures zs)

pub end-requires-then-co-eq2 : goal.end-requires-then-co-eq2
end-requires-then-co-eq2 c =
    let w = working c.requires.0 c.collection_at-co.ensures (omega (arith, c.if-co-eq2.true)) in
    let (zs, e) = some_slots (layout_of c.args.g) in (
      c.requires.0.chips_fit,
      record { limited = c.requires.0.chips_fit.limited; long = c.move_all-moves.auto.records ∙ c.requires.0.records_pass.fit.long },
      w.chip,
      w.victim,
      (c.move_all-moves.ensures zs e).sane,
    )

pub returns-then-co-eq2 : goal.returns-then-co-eq2
returns-then-co-eq2 c =
    let a = c.args in
    let l = layout_of a.g in
    let r = a.records.now in
    λ zs e.
    let s = images a.chips.now r zs in
    rw (finish_second l s c.collection_at-co.ensures c.if-co-eq2.true)
    (ran_then l a.p c.move_all-moves.result c.end-then-co-eq2.result (then_below l a.g.k (move_steps l (collection_at l r)) s)
    (λ v. ending c.collection_at-co.result.chip c.collection_at-co.result.victim) s (images a.chips.now c.move_all-moves.new.records zs)
    (images c.end-then-co-eq2.new.chips c.end-then-co-eq2.new.records zs) (c.move_all-moves.ensures zs e) (c.end-then-co-eq2.ensures zs))

pub returns : goal.returns
returns c =
    let a = c.args in
    let l = layout_of a.g in
    λ zs e.
    let v = images a.chips.now a.records.now zs in
    rw (finish_idle l v c.collection_at-co.ensures c.if-co-eq1.false c.if-co-eq2.false)
    (ran_none l a.p v c.requires.1)
