-- The code is the formula; no step of it overflows, since a page ends below 2 GB.
use native.Mathlib.Omega.{arith}
use mathlib.Core.Path.{refl}
use Rattle.codec.proofs.Offsets.{PageHigh, page_high, page_within}
use Rattle.codec.proofs.page_offset.Goals as goal

high : (c : goal.Start) → PageHigh c.args.g c.args.c c.args.p
high c = page_high c.args.g c.args.c c.args.p c.requires.1 c.requires.2 c.requires.0

pub overflow_mul-result : goal.overflow_mul-result
overflow_mul-result c = omega (arith, high c)

pub overflow_mul-result-2 : goal.overflow_mul-result-2
overflow_mul-result-2 c = omega (arith, high c)

pub overflow_add-result : goal.overflow_add-result
overflow_add-result c = omega (arith, high c)

pub overflow_add-result-2 : goal.overflow_add-result-2
overflow_add-result-2 c = omega (arith, high c)

pub overflow_mul-result-3 : goal.overflow_mul-result-3
overflow_mul-result-3 c = omega (arith, high c)

pub returns : goal.returns
returns c = (refl, page_within c.args.g c.args.c c.args.p c.requires.1 c.requires.2)
