use Prim.Native.Nat.{◌+◌, ◌*◌}
use native.Mathlib.Numerals.{add-one}
use native.Mathlib.Omega.{arith}
use mathlib.Core.Path.{◌≡◌, refl}
use Rattle.ranges.specs.Look.{all_below}
use Rattle.layout.specs.Layout.{layout_of}
use Rattle.layout.proofs.Limits.{within}
use Rattle.rules.specs.Sound.{phase2_sound}
use Rattle.codec.proofs.Fetching.{OnChip, start_low, place_low}
use Rattle.spares.proofs.phase.phase2_passes.Goals as goal

-- the place at hand is a page of the chip
place : (c : goal.In-loop-i) → let a = c.args in
    OnChip a.g (a.v * a.g.k + c.loop-i.i)
place c = place_low c.args.g c.requires.0.chips_fit.limited c.args.v c.loop-i.i c.requires.1 c.loop-i-test.true

pub overflow_mul-first : goal.overflow_mul-first
overflow_mul-first c = omega (arith, start_low c.args.g c.requires.0.chips_fit.limited c.args.v (omega arith))

pub loop-i-init : goal.loop-i-init
unfolding all_below
loop-i-init c = refl

pub overflow_add-first : goal.overflow_add-first
overflow_add-first c = omega (arith, place c)

pub bounds-counts-i : goal.bounds-counts-i
bounds-counts-i c =
    omega (arith, (within (layout_of c.args.g) c.requires.0.chips_fit.limited).places_high)

pub loop-i-preserved : goal.loop-i-preserved
unfolding all_below
loop-i-preserved c =
    let o = c.loop-i in
    let twins = c.count_twins-counts.ensures in
    rw (add-one, o.invariant, c.named_at.ensures, twins.are o.i c.loop-i-test.true)

pub returns : goal.returns
unfolding phase2_sound
returns c =
    let last : c.loop-i.i ≡ c.args.g.k = omega arith in
    rw (c.loop-i.invariant, last)
