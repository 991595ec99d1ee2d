-- Order, fill and names are told from the tags, stripes and fields.
use mathlib.Core.Path.{sym, ◌∙◌}
use Rattle.layout.specs.Layout.{layout_of}
use Rattle.layout.specs.Record.{record_at}
use Rattle.spares.proofs.Scanning.{alike_ordered, block_scan_lem}
use Rattle.spares.proofs.block.Stamps.scan_block.Goals as goal
use Rattle.spares.proofs.block.Stamps.scan_block.Goals.{else-alike, then-alike}

pub returns : goal.returns
returns c x chip block there here stamps fields =
    let a = c.args in
    let l = layout_of a.g in
    let fill = c.fill_of-fill.ensures x block a.self.now.first _ here stamps in
    block_scan_lem l (record_at l a.records.now) x chip block
    (elim c.if-alike.branch [
      | then-alike w ↦ w.ordered-is ∙ sym (alike_ordered l x block fill w.if-alike.true)
      | else-alike w ↦ w.ordered-is ∙ w.is_ordered-ordered.ensures x block a.self.now.first _ here stamps
    ])
    fill
    (c.count_named.ensures x chip block _ there here stamps fields)
