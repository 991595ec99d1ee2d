-- Each return is the limits once the tests before it are settled. What they settled bounds the products.
use native.Mathlib.Omega.{arith}
use Rattle.codec.proofs.Sizes.{sizes_fail, counts_fail, counts_pass, small, few}
use Rattle.codec.proofs.limits.geometry_passes.Goals as goal

pub returns-then-not-sizes : goal.returns-then-not-sizes
returns-then-not-sizes c = sizes_fail c.args.g c.if-not-sizes.true

pub overflow_mul-counts : goal.overflow_mul-counts
overflow_mul-counts c = omega (arith, small c.args.g c.if-not-sizes.false)

pub returns-then-not-counts : goal.returns-then-not-counts
returns-then-not-counts c = counts_fail c.args.g c.if-not-sizes.false c.if-not-counts.true

pub overflow_add-result : goal.overflow_add-result
overflow_add-result c = omega (arith, few c.args.g c.if-not-counts.false)

pub overflow_add-result-2 : goal.overflow_add-result-2
overflow_add-result-2 c = omega (arith, few c.args.g c.if-not-counts.false)

pub overflow_sub-result : goal.overflow_sub-result
overflow_sub-result c = omega (arith, small c.args.g c.if-not-sizes.false)

pub overflow_mul-result : goal.overflow_mul-result
overflow_mul-result c = omega (arith, small c.args.g c.if-not-sizes.false)

pub returns : goal.returns
returns c = counts_pass c.args.g c.if-not-sizes.false c.if-not-counts.false
