-- A stamp of no stripe is no name; else the tests are those of the definition, with what the record says of the chip.
use mathlib.Core.Path.{sym}
use Rattle.layout.specs.Layout.{layout_of}
use Rattle.layout.specs.Record.{record_at}
use Rattle.names.proofs.Readings.{stamp_beyond, stamp_test}
use Rattle.names.proofs.named_by_stamp.Goals as goal

pub returns-then-s-j : goal.returns-then-s-j
returns-then-s-j c x e =
    let a = c.args in
    let l = layout_of a.g in
    sym (stamp_beyond l (record_at l a.records.now) x a.c a.p a.t e c.if-s-j.true)

pub returns : goal.returns
returns c x e =
    let a = c.args in
    let l = layout_of a.g in
    stamp_test l (record_at l a.records.now) x a.c a.p a.t e c.stripe_pages-e.result c.if-s-j.false c.stripe_pages-e.ensures
