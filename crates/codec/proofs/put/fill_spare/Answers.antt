-- The five parts, one behind the other, are the spare bytes.
use Rattle.octets.specs.Number.{digits}
use Rattle.codec.proofs.Fills.{laid}
use Rattle.codec.proofs.Encodings.{spare_laid}
use Rattle.codec.proofs.put.fill_spare.Goals as goal

pub returns : goal.returns
unfolding laid digits
returns c =
    rw (
      c.put_number-5.ensures,
      c.put_number-4.ensures,
      c.put_number-3.ensures,
      c.put_number-2.ensures,
      c.put_number.ensures,
    )
    (spare_laid c.args.t c.args.dst.now c.requires.0 c.requires.1)
