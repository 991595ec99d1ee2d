-- The page that q is copied from is a page of the victim, or q is no twin.
use mathlib.Core.Path.{sym}
use Rattle.layout.proofs.Limits.{within}
use native.Mathlib.Omega.{arith}
use Rattle.layout.specs.Layout.{layout_of}
use Rattle.codec.proofs.Fetching.{start_low}
use Rattle.spares.proofs.Twins.{twin_outside, twin_found, twin_missed}
use Rattle.spares.proofs.phase.twin_place.Goals as goal

pub overflow_mul-first : goal.overflow_mul-first
overflow_mul-first c = omega (arith, start_low c.args.g c.requires.0.chips_fit.limited c.args.v (omega arith))

pub overflow_add-first : goal.overflow_add-first
overflow_add-first c = omega (arith, start_low c.args.g c.requires.0.chips_fit.limited c.args.v (omega arith), (within (layout_of c.args.g) c.requires.0.chips_fit.limited).places_high)

pub returns-then-p-first : goal.returns-then-p-first
returns-then-p-first c = let seen = c.spare_at-u.ensures.0 in sym (twin_outside _ _ _ _ _ _ seen c.if-p-first.true)

pub returns-then-same : goal.returns-then-same
returns-then-same c = sym (twin_found _ _ _ _ _ _ c.spare_at-u.ensures.0 c.spare_at-t.ensures.0 c.named_at.ensures c.if-p-first.false c.if-same.true)

pub returns-else-same : goal.returns-else-same
returns-else-same c = sym (twin_missed _ _ _ _ _ _ c.spare_at-u.ensures.0 c.spare_at-t.ensures.0 c.named_at.ensures c.if-p-first.false c.if-same.false)
