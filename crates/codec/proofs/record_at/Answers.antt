-- Record j is 32 bytes at j * 32, so every read is inside the records, and what the calls give is what the record's own bytes hold.
use mathlib.Core.Path.{ap}
use Rattle.layout.specs.Layout.{layout_of}
use Rattle.codec.specs.Views.{record_from}
use Rattle.codec.proofs.Encodings.{record_in_lem}
use borrow.Author.Rules.{rules}
use Rattle.codec.proofs.record_at.Goals as goal

pub returns : goal.returns
returns c =
    let a = c.args in (
      rw (← record_in_lem a.g a.records.now a.j c.requires.1) (ap (record_from (layout_of a.g)) (λ i. record {
        current = c.six_at.ensures.0 i;
        old = c.six_at-2.ensures.0 i;
        parity = c.number_at.ensures.0 i;
        bitmap = c.byte.ensures.0 i;
        slot = c.byte-2.ensures.0 i;
      })),
      search rules,
    )
