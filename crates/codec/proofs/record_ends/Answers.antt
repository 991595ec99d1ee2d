-- The part that is looked at is the record from its byte 28 on.
use native.Mathlib.Nat.{add-sub_cancel_left}
use Rattle.octets.specs.Units.{part}
use Rattle.codec.proofs.Encodings.{rest_in}
use Rattle.codec.proofs.record_ends.Goals as goal

pub returns : goal.returns
unfolding part
returns c =
    let a = c.args in
    rw (c.zeros.ensures, rest_in a.g a.records.now a.j c.requires.1, add-sub_cancel_left)
