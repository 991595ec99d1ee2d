use native.Mathlib.Omega.{arith}
use mathlib.Core.Path.{◌≡◌, sym, ◌∙◌}
use Rattle.collect.proofs.Moves.{carried_none, carried_cut, carried_sound, carried_more}
use Rattle.collect.proofs.move_all.Goals as goal

pub loop-i-init : goal.loop-i-init
loop-i-init c = carried_none c.requires.3

pub returns-then-run : goal.returns-then-run
returns-then-run c = carried_cut c.loop-i.invariant c.if-run.true

pub move_from-run-requires : goal.move_from-run-requires
move_from-run-requires c =
    let h = c.requires in
    let going = carried_sound c.loop-i.invariant h.0 (sym h.1.phase ∙ h.2) c.if-run.false in
    (going.0, rw going.1 h.1, h.2, c.loop-i-test.true, c.loop-i.invariant.sane)

pub loop-i-preserved : goal.loop-i-preserved
loop-i-preserved c =
    let h = c.requires in
    carried_more c.loop-i.invariant h.0 (sym h.1.phase ∙ h.2) c.if-run.false c.loop-i-test.true c.move_from-run.ensures

pub returns : goal.returns
returns c =
    let past : c.loop-i.i ≡ c.args.g.k = omega (arith, c.loop-i.invariant.fits) in
    λ zs e. rw past at (c.loop-i.invariant.ran zs e)
