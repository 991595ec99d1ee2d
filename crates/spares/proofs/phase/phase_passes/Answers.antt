-- Outside phase 0 both blocks of the collection are there, as the sound records say. Each phase has its own check.
use native.Mathlib.Omega.{arith}
use borrow.Author.Tests.{eq-eqb, ne_eqb}
use Rattle.spares.specs.Phases.{phase_sound}
use Rattle.spares.proofs.Judging.{blocks_low}
use Rattle.spares.proofs.phase.phase_passes.Goals as goal

pub phase1_passes-requires : goal.phase1_passes-requires
phase1_passes-requires c =
    let h = c.requires in
    (h.0, (blocks_low h.1 h.2 (λ z. omega (arith, c.if-co-eq1.true))).1)

pub returns-then-co-eq1 : goal.returns-then-co-eq1
unfolding phase_sound
returns-then-co-eq1 c =
    let is = c.requires.2 in
    rw (c.phase1_passes.ensures, ← is.phase, ← is.chip, ← is.destination, eq-eqb c.args.co.phase 1 c.if-co-eq1.true)

pub phase2_passes-requires : goal.phase2_passes-requires
phase2_passes-requires c =
    let h = c.requires in
    let low = blocks_low h.1 h.2 (λ z. omega (arith, c.if-co-eq2.true)) in
    (h.0, low.0, low.1)

pub returns-then-co-eq2 : goal.returns-then-co-eq2
unfolding phase_sound
returns-then-co-eq2 c =
    let is = c.requires.2 in
    rw (c.phase2_passes.ensures, ← is.phase, ← is.chip, ← is.victim, ← is.destination, c.if-co-eq2.true)

pub returns : goal.returns
unfolding phase_sound
returns c =
    let is = c.requires.2 in
    rw (← is.phase, ne_eqb c.args.co.phase 1 c.if-co-eq1.false, ne_eqb c.args.co.phase 2 c.if-co-eq2.false)
