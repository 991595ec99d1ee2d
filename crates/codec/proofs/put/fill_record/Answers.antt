-- The six parts, one behind the other, are the record.
use Rattle.octets.specs.Number.{digits}
use Rattle.layout.specs.Record.{row}
use Rattle.codec.proofs.Fills.{laid}
use Rattle.codec.proofs.Encodings.{record_laid}
use Rattle.codec.proofs.put.fill_record.Goals as goal

pub returns : goal.returns
unfolding laid row digits
returns c g =
    rw (
      c.put_number-4.ensures,
      c.put_number-3.ensures,
      c.put_number-2.ensures,
      c.put_number.ensures,
      c.put_six-2.ensures,
      c.put_six.ensures,
    )
    (record_laid g c.args.e c.args.dst.now c.requires.0 c.requires.1)
