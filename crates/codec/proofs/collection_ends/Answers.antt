-- The part that is looked at is the collection record from its byte 6 on.
use native.Mathlib.Nat.{add-sub_cancel_left}
use native.Mathlib.Omega.{arith}
use Rattle.octets.specs.Units.{part}
use Rattle.octets.proofs.Units.{part_unit}
use Rattle.layout.specs.Collection.{collection_of, collection_at}
use Rattle.codec.proofs.collection_ends.Goals as goal

pub returns : goal.returns
unfolding collection_at collection_of part
returns c =
    let a = c.args in
    rw (c.zeros.ensures, part_unit 32 a.g.s 6 26 a.records.now (omega arith), add-sub_cancel_left)
