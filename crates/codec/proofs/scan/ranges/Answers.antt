-- Members are at most six, so that each has a place among the eight.
use native.Mathlib.Omega.{arith}
use mathlib.Core.Path.{sym}
use lib.Seq.{length-take-le}
use Rattle.codec.proofs.Sizes.{bounded}
use Rattle.codec.proofs.Tops.{tops_filled}
use Rattle.codec.proofs.scan.ranges.Goals as goal

pub overflow_mul-pages : goal.overflow_mul-pages
overflow_mul-pages c = omega (arith, bounded c.args.g c.requires)

pub overflow_cast-pages : goal.overflow_cast-pages
overflow_cast-pages c = omega (arith, bounded c.args.g c.requires)

pub slice_bounds-tops-end : goal.slice_bounds-tops-end
slice_bounds-tops-end c = omega (arith, bounded c.args.g c.requires)

pub slice_bounds-fill-end : goal.slice_bounds-fill-end
slice_bounds-fill-end c = sym (length-take-le c.args.g.n _ (omega (arith, bounded c.args.g c.requires)))

pub returns : goal.returns
returns c = tops_filled (omega (arith, bounded c.args.g c.requires)) (c.fill.ensures.after (λ y e. e))
