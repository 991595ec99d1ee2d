-- Each return is one case of the least with one number more.
use Rattle.std.proofs.Common.{sym, ◌∙◌}
use Rattle.ranges.proofs.Leasts.{least_passed, least_stays, least_beaten, least_first}
use Rattle.ranges.proofs.with_next.Goals as goal

pub returns-then-not-passes : goal.returns-then-not-passes
returns-then-not-passes c f m is test measured = least_passed f m _ is (sym test ∙ c.if-not-passes.true)

pub returns-then-best-measure : goal.returns-then-best-measure
returns-then-best-measure c f m is test measured =
    let t = sym test ∙ c.if-not-passes.false in
    sym c.in-Some.is ∙ least_stays f m _ is t (measured t) c.in-Some.best c.in-Some.is c.if-best-measure.true

pub returns-else-best-measure : goal.returns-else-best-measure
returns-else-best-measure c f m is test measured =
    let t = sym test ∙ c.if-not-passes.false in
    least_beaten f m _ is t (measured t) c.in-Some.best c.in-Some.is c.if-best-measure.false

pub returns-in_default : goal.returns-in_default
returns-in_default c f m is test measured =
    let t = sym test ∙ c.if-not-passes.false in
    least_first f m _ is t (measured t) c.in_default.is
