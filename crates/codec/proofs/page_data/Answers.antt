-- The page ends within the image; the part that is lent is its data.
use native.Mathlib.Omega.{arith}
use native.Mathlib.Nat.{add-sub_cancel_left}
use Rattle.octets.specs.Units.{part}
use Rattle.octets.proofs.Units.{length_part}
use Rattle.codec.proofs.Offsets.{page_in_lem}
use Rattle.codec.proofs.page_data.Goals as goal

pub returns : goal.returns
unfolding part
returns c =
    let a = c.args in
    let x = page_in_lem a.g a.chips.now a.c a.p c.requires.2 in
    rw add-sub_cancel_left
    ((cc), length_part c.page_offset-a.result a.g.w a.chips.now (omega arith))
