use mathlib.Core.List.{[]}
use native.Mathlib.Omega.{arith}
use mathlib.Core.Path.{sym, ◌∙◌}
use Rattle.copying.proofs.Copies.{copying_none, copying_skips, copying_more, copying_cut, copying_all, copying_places, copying_stamps, copying_page, copying_stands, copying_still}
use Rattle.names.proofs.Statements.{within}
use Rattle.copying.proofs.copy_block.Goals as goal
use Rattle.copying.proofs.copy_block.Goals.{else-named_at, then-named_at}

pub store_phase-run-requires : goal.store_phase-run-requires
store_phase-run-requires c =
    let h = c.requires.0.checked in
    (h.records_pass.fit, omega arith, omega (arith, c.requires.1, (within _ _ _ h).members_high), c.requires.2)

pub loop-i-init : goal.loop-i-init
loop-i-init c = (
  record { settled = c.requires.0; slots = c.requires.6.long; chip = c.requires.1; block = c.requires.3; can = c.requires.4; clean = c.requires.5; first = c.store_phase-run.ensures },
  copying_none (c.store_phase-run.ensures [] []).sane,
)

pub returns-then-run : goal.returns-then-run
returns-then-run c = copying_cut c.loop-i.invariant.0 c.loop-i.invariant.1 c.if-run.true

pub overflow_mul-page : goal.overflow_mul-page
overflow_mul-page c = omega (arith, copying_places c.loop-i.invariant.0 c.loop-i.invariant.1 c.loop-i-test.true)

pub overflow_add-page : goal.overflow_add-page
overflow_add-page c = omega (arith, copying_places c.loop-i.invariant.0 c.loop-i.invariant.1 c.loop-i-test.true)

pub named_at-requires : goal.named_at-requires
named_at-requires c =
    let (b, w) = c.loop-i.invariant in
    (copying_stamps b w c.if-run.false, (copying_places b w c.loop-i-test.true).0)

pub overflow_mul-d : goal.overflow_mul-d
overflow_mul-d c = omega (arith, copying_places c.loop-i.invariant.0 c.loop-i.invariant.1 c.loop-i-test.true)

pub overflow_add-d : goal.overflow_add-d
overflow_add-d c = omega (arith, copying_places c.loop-i.invariant.0 c.loop-i.invariant.1 c.loop-i-test.true)

pub copy_page-run-requires : goal.copy_page-run-requires
copy_page-run-requires c =
    let h = c.requires.0.checked in
    let (b, w) = c.loop-i.invariant in
    let places = copying_places b w c.loop-i-test.true in (
      record { limited = h.chips_fit.limited; long = c.loop-i.auto.chips ∙ h.chips_fit.long },
      record { limited = h.chips_fit.limited; long = c.store_phase-run.auto.records ∙ h.records_pass.fit.long },
      c.requires.6,
      c.requires.1,
      places.0,
      places.1,
      w.sane,
      copying_page b w c.if-run.false c.loop-i.i c.loop-i-test.true (sym c.named_at.ensures ∙ c.if-named_at.true),
      c.loop-i.auto.work ∙ c.requires.7,
    )

pub overflow_add-copies : goal.overflow_add-copies
overflow_add-copies c = omega (arith, copying_places c.loop-i.invariant.0 c.loop-i.invariant.1 c.loop-i-test.true)

pub loop-i-preserved : goal.loop-i-preserved
loop-i-preserved c =
    let (b, w) = c.loop-i.invariant in
    let low = c.loop-i-test.true in
    let told = c.named_at.ensures in
    elim c.if-named_at.branch [
      | then-named_at z ↦ rw (z.chips-is, z.run-is, z.copies-is) (
        b,
        copying_more w low (sym told ∙ z.if-named_at.true) (copying_still b w c.if-run.false c.loop-i.i low)
            (copying_stands b w c.if-run.false c.loop-i.i low (sym told ∙ z.if-named_at.true) z.copy_page-run.ensures),
      )
      | else-named_at z ↦ rw (z.chips-is, z.run-is, z.copies-is) (b, copying_skips w low (sym told ∙ z.if-named_at.false))
    ]

pub store_phase-requires : goal.store_phase-requires
store_phase-requires c =
    let h = c.requires.0.checked in
    (record { limited = h.chips_fit.limited; long = c.store_phase-run.auto.records ∙ h.records_pass.fit.long }, omega arith, omega (arith, c.requires.1, (within _ _ _ h).members_high), c.loop-i.invariant.1.sane)

pub returns : goal.returns
returns c = copying_all c.loop-i.invariant.0 c.loop-i.invariant.1 (omega arith) (c.store_phase.ensures _ _)
