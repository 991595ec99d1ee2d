use mathlib.Core.Path.{sym, ◌∙◌}
use Rattle.layout.proofs.Limits.{within}
use native.Mathlib.Omega.{arith}
use Rattle.layout.specs.Layout.{layout_of}
use Rattle.codec.proofs.Fetching.{start_low, place_low}
use Rattle.spares.proofs.Twins.{twin_counted, twins_start, twins_same, twins_more}
use Rattle.spares.proofs.phase.count_twins.Goals as goal
use Rattle.spares.proofs.phase.count_twins.Goals.{in-Some, in_default}

pub overflow_mul-first : goal.overflow_mul-first
overflow_mul-first c = omega (arith, start_low c.args.g c.requires.0.chips_fit.limited c.args.d (omega arith))

pub loop-i-init : goal.loop-i-init
loop-i-init c = twins_start _ _ _ _ _ _ (within (layout_of c.args.g) c.requires.0.chips_fit.limited).places_high

pub overflow_add-first : goal.overflow_add-first
overflow_add-first c =
    omega (arith, place_low c.args.g c.requires.0.chips_fit.limited c.args.d c.loop-i.i c.requires.2 c.loop-i-test.true)

pub bounds-counts-m : goal.bounds-counts-m
bounds-counts-m c =
    (twin_counted _ _ _ _ _ c.loop-i.invariant _ (within (layout_of c.args.g) c.requires.0.chips_fit.limited).places_high c.loop-i-test.true (sym c.twin_place-found.ensures ∙ c.in-Some.is)).0

pub overflow_add-counts : goal.overflow_add-counts
overflow_add-counts c =
    omega (arith, twin_counted _ _ _ _ _ c.loop-i.invariant _ (within (layout_of c.args.g) c.requires.0.chips_fit.limited).places_high c.loop-i-test.true (sym c.twin_place-found.ensures ∙ c.in-Some.is))

pub bounds-counts-m-in-Some : goal.bounds-counts-m-in-Some
bounds-counts-m-in-Some c =
    (twin_counted _ _ _ _ _ c.loop-i.invariant _ (within (layout_of c.args.g) c.requires.0.chips_fit.limited).places_high c.loop-i-test.true (sym c.twin_place-found.ensures ∙ c.in-Some.is)).0

pub loop-i-preserved : goal.loop-i-preserved
loop-i-preserved c =
    let o = c.loop-i.invariant in
    let seen = sym c.twin_place-found.ensures in
    elim c.match-found.branch [
      | in-Some w ↦ rw w.counts-is (twins_more _ _ _ _ _ o _ (within (layout_of c.args.g) c.requires.0.chips_fit.limited).places_high (seen ∙ w.in-Some.is))
      | in_default w ↦ rw w.counts-is (twins_same _ _ _ _ _ o (seen ∙ w.in_default.is))
    ]
