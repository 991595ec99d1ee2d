-- With no member to a stripe there is no page; else a page has a stripe below S.
use Prim.Native.Nat.{◌*◌}
use native.Mathlib.Omega.{arith}
use mathlib.Core.Path.{sym}
use borrow.Author.Tests.{le-ltb}
use Rattle.looks.proofs.Passing.{page_test}
use Rattle.looks.proofs.page_fits.Goals as goal

pub returns-then-g-eq0 : goal.returns-then-g-eq0
returns-then-g-eq0 c = let a = c.args in rw c.if-g-eq0.true (sym (le-ltb a.page (0 * a.g.s) (omega arith)))

pub returns : goal.returns
returns c = let a = c.args in page_test a.g.n a.g.s a.page (omega arith)
