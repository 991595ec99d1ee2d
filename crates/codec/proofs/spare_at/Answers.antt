-- The page ends within the image, so all reads are in it; each field of the page is read at its own offset.
use Rattle.codec.proofs.Offsets.{page_in_lem}
use borrow.Author.Rules.{rules}
use Rattle.codec.proofs.spare_at.Goals as goal

pub returns : goal.returns
returns c =
    let a = c.args in
    let x = page_in_lem a.g a.chips.now a.c a.p c.requires.2 in
    ((cc), search rules)
