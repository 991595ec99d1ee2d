-- After j turns the first j records are empty.
use Rattle.layout.specs.Layout.{layout_of}
use Rattle.layout.specs.Record.{empty_record, bytes_of_record}
use Rattle.codec.proofs.Fills.{Firsts}
use Rattle.codec.proofs.put.put_empty_records.Given as goal

abbrev pub invariant-loop-j : goal.invariant-loop-j
invariant-loop-j l = Firsts 32 l.n (bytes_of_record (layout_of l.fn.g) (empty_record (layout_of l.fn.g))) l.initial.records l.j l.records
