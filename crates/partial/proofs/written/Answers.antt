-- The bit tells which of the two records is made. The arrays have six numbers each, as the value's type says.
use mathlib.Core.Path.{◌≡◌, sym, ◌∙◌}
use lib.ListN.{length}
use borrow.Author.Tests.{not-true, not-false}
use Rattle.partial.proofs.Writing.{written_again, written_first}
use Rattle.partial.proofs.written.Goals as goal
use Rattle.partial.proofs.written.Goals.{else-not-bit_of, then-not-bit_of}

pub returns : goal.returns
returns c =
    let a = c.args in
    let six : length a.e.current ≡ 6 = c.well_formed.0.1.1.0.1.0.1 in
    let six_old : length a.e.old ≡ 6 = c.well_formed.0.1.1.1.0.1.0.1 in
    let bit = sym c.bit_of.ensures in
    elim c.if-not-bit_of.branch [
      | then-not-bit_of w ↦ rw w.next-is (written_first a.e a.m a.q a.i c.requires.0 c.requires.1 c.requires.2 c.requires.3 six six_old (bit ∙ not-true c.bit_of.result w.if-not-bit_of.true-raw))
      | else-not-bit_of w ↦ rw w.next-is (written_again a.e a.m a.q a.i c.requires.0 c.requires.1 c.requires.2 c.requires.3 six six_old (bit ∙ not-false c.bit_of.result w.if-not-bit_of.false-raw))
    ]
