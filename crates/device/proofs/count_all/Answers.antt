-- The lesser of what is due and what is left is made.
use native.Mathlib.Nat.{min-le_left}
use native.Mathlib.Omega.{arith}
use Rattle.steps.proofs.Alike.{one_each, left_over}
use Rattle.device.proofs.count_all.Goals as goal

pub overflow_mul-result : goal.overflow_mul-result
overflow_mul-result c = omega (arith, one_each c.min-made.result c.args.erases c.requires.1, c.min-made.ensures, min-le_left c.args.p.left c.args.due)

pub overflow_add-result : goal.overflow_add-result
overflow_add-result c = omega (arith, one_each c.min-made.result c.args.erases c.requires.1, c.min-made.ensures, min-le_left c.args.p.left c.args.due)

pub returns : goal.returns
returns c = rw (c.min-made.ensures, left_over c.args.p.left c.args.due)
