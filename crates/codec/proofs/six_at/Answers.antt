-- The six calls of `number_at` give the six numbers, each of two bytes.
use Rattle.codec.proofs.Encodings.{six_below}
use Rattle.codec.proofs.six_at.Goals as goal

pub returns : goal.returns
returns c = (
  cc,
  six_below
      65536
      c.number_at.ensures.1
      c.number_at-2.ensures.1
      c.number_at-3.ensures.1
      c.number_at-4.ensures.1
      c.number_at-5.ensures.1
      c.number_at-6.ensures.1,
)
