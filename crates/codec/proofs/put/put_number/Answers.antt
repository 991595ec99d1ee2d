-- The part that is lent comes back as the number.
use native.Mathlib.Nat.{add-sub_cancel_left}
use Rattle.octets.specs.Units.{part, put}
use Rattle.octets.proofs.Units.{length_part}
use Rattle.codec.proofs.put.put_number.Goals as goal

pub returns : goal.returns
unfolding put part
returns c =
    let a = c.args in
    rw (c.fill_number.ensures, add-sub_cancel_left, length_part a.a a.k a.dst.now c.requires)
