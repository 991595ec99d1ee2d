-- The two words are those that the calls of `word_at` give.
use Rattle.codec.proofs.scan.ending_at.Goals as goal

pub returns : goal.returns
returns c = (c.word_at.ensures, c.word_at-2.ensures)
