-- Record j is 32 bytes at j * 32.
use mathlib.Core.Path.{ap, ◌∙◌}
use Rattle.layout.specs.Record.{Record}
use Rattle.codec.specs.Views.{record_from, ended}
use Rattle.codec.proofs.Encodings.{record_in_lem}
use Rattle.codec.proofs.slot_at.Goals as goal

pub returns : goal.returns
unfolding record_from ended
returns c =
    let a = c.args in
    (c.byte.ensures.0 ∙ ap (λ (r : Record). r.slot) (record_in_lem a.g a.records.now a.j c.requires.1), c.byte.ensures.1)
