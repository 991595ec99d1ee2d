-- The loop's invariant: the tally, the table and the count of page numbers are those of the records below j. A record has at most 13
-- page numbers, so that no sum overflows.
use mathlib.Core.Path.{◌≡◌}
use Rattle.layout.specs.Layout.{layout_of}
use Rattle.layout.specs.Record.{record_at}
use Rattle.records.proofs.Tables.{Passed, full_names}
use Rattle.records.proofs.scan_records.Given as goal

abbrev pub invariant-loop-j : goal.invariant-loop-j
invariant-loop-j l = Passed l.g (record_at (layout_of l.g) l.records) l.lost l.j l.seen l.tally l.names × (l.full ≡ full_names l.g.n l.lost)
