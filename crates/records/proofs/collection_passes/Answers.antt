-- The struct's fields are the record's, and the phase picks the tests.
use mathlib.Core.Path.{sym, ◌∙◌}
use borrow.Author.Tests.{eq-eqb, ne_eqb}
use Rattle.rules.specs.Sound.{collection_sound}
use Rattle.records.proofs.collection_passes.Goals as goal

pub returns-then-co-eq0 : goal.returns-then-co-eq0
unfolding collection_sound
returns-then-co-eq0 c =
    let same = c.collection_at-co.ensures in
    let ends = c.collection_ends-ends.ensures in
    rw (ends, same.chip, same.victim, same.destination, eq-eqb _ 0 (sym same.phase ∙ c.if-co-eq0.true))

pub returns : goal.returns
unfolding collection_sound
returns c =
    let same = c.collection_at-co.ensures in
    let ends = c.collection_ends-ends.ensures in
    rw (ends, same.phase, same.chip, same.victim, same.destination, ne_eqb _ 0 (λ q. c.if-co-eq0.false (same.phase ∙ q)))
