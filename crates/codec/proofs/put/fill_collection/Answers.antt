-- The five parts, one behind the other, are the record.
use Rattle.octets.specs.Number.{digits}
use Rattle.codec.proofs.Fills.{laid}
use Rattle.codec.proofs.Encodings.{collection_laid}
use Rattle.codec.proofs.put.fill_collection.Goals as goal

pub returns : goal.returns
unfolding laid digits
returns c g =
    rw (
      c.put_number-5.ensures,
      c.put_number-4.ensures,
      c.put_number-3.ensures,
      c.put_number-2.ensures,
      c.put_number.ensures,
    )
    (collection_laid g c.args.co c.args.dst.now c.requires.0 c.requires.1 c.requires.2)
