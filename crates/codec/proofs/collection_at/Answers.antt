-- The collection record is the 32 bytes behind the S records, so every read is inside, and the bytes and numbers read are its own.
use native.Mathlib.Nat.{add-zero}
use native.Mathlib.Omega.{arith}
use Rattle.octets.proofs.Units.{get_or_unit, part_unit}
use Rattle.layout.specs.Collection.{collection_of, collection_at}
use Rattle.codec.proofs.collection_at.Goals as goal

pub returns : goal.returns
unfolding collection_at collection_of
returns c =
    let s = c.args.g.s in
    let xs = c.args.records.now in
    record {
      phase = rw (get_or_unit 32 s 0 0 xs (omega arith), add-zero) c.byte.ensures.0;
      chip = rw (get_or_unit 32 s 1 0 xs (omega arith)) c.byte-2.ensures.0;
      victim = rw (part_unit 32 s 2 2 xs (omega arith)) c.number_at.ensures.0;
      destination = rw (part_unit 32 s 4 2 xs (omega arith)) c.number_at-2.ensures.0;
      phase_small = c.byte.ensures.1;
      chip_small = c.byte-2.ensures.1;
      victim_small = c.number_at.ensures.1;
      destination_small = c.number_at-2.ensures.1;
    }
