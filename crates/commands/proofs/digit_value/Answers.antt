-- Each arm is the definition's, by the tests that led there.
use lib.Dec.{leb}
use borrow.Author.Tests.{leb-true}
use Rattle.ranges.proofs.Tests.{and_both}
use Rattle.commands.specs.Parsing.{digit_value}
use Rattle.commands.proofs.digit_value.Goals as goal

pub overflow_sub-result : goal.overflow_sub-result
overflow_sub-result c =
    let b = c.args.b in
    leb-true 48 b (and_both (leb 48 b) (leb b 57) c.if-b.true).0

pub overflow_sub-result-then-b-2 : goal.overflow_sub-result-then-b-2
overflow_sub-result-then-b-2 c =
    let b = c.args.b in
    leb-true 97 b (and_both (leb 97 b) (leb b 102) c.if-b-2.true).0

pub returns-then-b : goal.returns-then-b
unfolding digit_value
returns-then-b c = rw c.if-b.true

pub returns-then-b-2 : goal.returns-then-b-2
unfolding digit_value
returns-then-b-2 c = rw (c.if-b.false, c.if-b-2.true)

pub returns-else-b-2 : goal.returns-else-b-2
unfolding digit_value
returns-else-b-2 c = rw (c.if-b.false, c.if-b-2.false)
