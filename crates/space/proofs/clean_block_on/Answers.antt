use native.Mathlib.Numerals.{add-one}
use native.Mathlib.Omega.{arith}
use mathlib.Core.Path.{◌≡◌, sym, ◌∙◌}
use Rattle.ranges.proofs.Looks.{first_start, first_not_here, first_nothing, first_is}
use Rattle.rules.specs.Blocks.{lowest_clean_block}
use Rattle.space.proofs.Blocks.{first_page, first_tells}
use Rattle.space.proofs.clean_block_on.Goals as goal

pub loop-b-init : goal.loop-b-init
loop-b-init c = first_start _

pub overflow_mul-b : goal.overflow_mul-b
overflow_mul-b c = omega (arith, first_page c.requires c.loop-b.b c.loop-b-test.true)

pub is_clean-requires : goal.is_clean-requires
is_clean-requires c = let h = c.requires in (h.chips_fit, h.chip, (first_page h c.loop-b.b c.loop-b-test.true).0)

pub returns-then-is_clean : goal.returns-then-is_clean
unfolding lowest_clean_block
returns-then-is_clean c =
    let here = first_tells c.requires c.loop-b.b c.loop-b-test.true c.is_clean.ensures ∙ c.if-is_clean.true in
    sym (first_is c.args.g.b _ c.loop-b.b c.loop-b-test.true here (first_nothing c.loop-b.b _ c.loop-b.invariant))

pub loop-b-preserved : goal.loop-b-preserved
loop-b-preserved c =
    let here = first_tells c.requires c.loop-b.b c.loop-b-test.true c.is_clean.ensures ∙ c.if-is_clean.false in
    rw add-one (first_not_here c.loop-b.b _ c.loop-b.invariant here)

pub returns : goal.returns
unfolding lowest_clean_block
returns c =
    let last : c.loop-b.b ≡ c.args.g.b = omega arith in
    sym (rw last at c.loop-b.invariant)
