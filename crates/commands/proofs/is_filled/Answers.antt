-- The test is the definition's, at the bytes that the calls give.

use Rattle.commands.proofs.is_filled.Goals as goal

pub returns : goal.returns
returns c =
    let letter = c.byte_at.ensures in
    let space = c.byte_at-2.ensures in
    let high = c.byte_at-3.ensures in
    let low = c.byte_at-4.ensures in
    rw (letter, space, c.digit_value.ensures, high, c.digit_value-2.ensures, low)
