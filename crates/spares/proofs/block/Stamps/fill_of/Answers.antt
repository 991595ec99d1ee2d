use native.Mathlib.Numerals.{add-one}
use native.Mathlib.Omega.{arith}
use mathlib.Core.Path.{◌≡◌, refl}
use Rattle.ranges.specs.Look.{all_below}
use Rattle.layout.specs.Layout.{layout_of}
use Rattle.spares.proofs.Scanning.{fill_tags}
use Rattle.spares.proofs.block.Stamps.fill_of.Goals as goal

pub loop-i-init : goal.loop-i-init
unfolding all_below
loop-i-init c = (refl, refl)

pub loop-i-preserved : goal.loop-i-preserved
unfolding all_below
loop-i-preserved c =
    let o = c.loop-i in
    (rw (add-one, o.invariant.0, c.is_clean_tag-free.ensures), rw (add-one, o.invariant.1, c.is_clean_tag-free.ensures))

pub returns : goal.returns
returns c x b first stripes here f =
    let all : c.loop-i.i ≡ c.args.g.k = omega arith in
    rw (c.loop-i.invariant.0, c.loop-i.invariant.1, all) (fill_tags (layout_of c.args.g) b c.args.o first here f)
