use Prim.Native.Nat.{◌-◌}
use native.Mathlib.Numerals.{add-one}
use native.Mathlib.Omega.{arith}
use mathlib.Core.Path.{◌≡◌, refl, ◌∙◌}
use Rattle.ranges.specs.Look.{all_below}
use Rattle.layout.specs.Layout.{layout_of}
use Rattle.layout.proofs.Limits.{within}
use Rattle.spares.proofs.Scanning.{order_tags}
use Rattle.spares.proofs.block.Stamps.is_ordered.Goals as goal

pub overflow_sub-last : goal.overflow_sub-last
overflow_sub-last c = omega (arith, (within (layout_of c.args.g) c.requires.0).places_low)

pub loop-i-init : goal.loop-i-init
unfolding all_below
loop-i-init c = refl

pub loop-i-preserved : goal.loop-i-preserved
unfolding all_below
loop-i-preserved c = rw (add-one, c.loop-i.invariant, c.is_clean_tag.ensures, c.is_clean_tag-in-loop-i.ensures)

pub returns : goal.returns
returns c x b first stripes here f =
    let last : c.loop-i.i ≡ c.args.g.k - 1 = omega arith in
    c.loop-i.invariant ∙ rw last (order_tags (layout_of c.args.g) b c.args.o first here f)
