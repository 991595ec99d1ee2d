-- What `named_by_stamp` says of the page's own spare bytes is whether it is named, since every named page is rightly stamped.
use mathlib.Core.Path.{sym, ◌∙◌}
use Rattle.layout.specs.Layout.{layout_of}
use Rattle.layout.specs.Page.{page_at}
use Rattle.layout.specs.Record.{record_at}
use Rattle.layout.proofs.Limits.{within}
use Rattle.names.proofs.Stamping.{named_by_stamp}
use Rattle.names.proofs.named_at.Goals as goal

pub returns : goal.returns
returns c =
    let a = c.args in
    let l = layout_of a.g in
    let x = page_at l a.chips.now a.c in
    let w = within l c.requires.0.chips_fit.limited in
    c.named_by_stamp.ensures x (sym c.spare_at.ensures.0)
    ∙ sym (named_by_stamp l w (record_at l a.records.now) x a.c c.requires.0.stamps a.p c.requires.1)
