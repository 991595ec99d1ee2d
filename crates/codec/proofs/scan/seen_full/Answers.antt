-- What the ending and the first eight numbers tell is in Glances.
use Prim.Native.Nat.{ℕ, ◌*◌, ◌%◌, ◌<◌}
use native.Mathlib.Omega.{arith}
use lib.ListN.{get_or}
use borrow.Author.Tests.{ltb-true}
use Rattle.ranges.proofs.Tests.{and_both}
use Rattle.codec.proofs.Sizes.{bounded}
use Rattle.codec.proofs.Offsets.{record_within}
use Rattle.codec.proofs.Glances.{full}
use Rattle.codec.proofs.scan.seen_full.Goals as goal

pub overflow_mul-a : goal.overflow_mul-a
overflow_mul-a c = omega (arith, record_within c.args.g c.args.records.now c.requires.0 c.args.j (omega (arith, c.requires.1)))

pub overflow_mul-pages : goal.overflow_mul-pages
overflow_mul-pages c = omega (arith, bounded c.args.g c.requires.0.limited)

pub ending_at-end-requires : goal.ending_at-end-requires
ending_at-end-requires c = record_within c.args.g c.args.records.now c.requires.0 c.args.j (omega (arith, c.requires.1))

pub all_written-requires : goal.all_written-requires
all_written-requires c = omega (arith, record_within c.args.g c.args.records.now c.requires.0 c.args.j (omega (arith, c.requires.1)))

pub returns : goal.returns
returns c t =
    let a = c.args in
    let (olds, last) = c.ending_at-end.ensures in
    let bytes : (i : ℕ) → get_or a.records.now i 0 < 256 = λ i. (c.type_inv.records i).fits in
    let long = record_within a.g a.records.now c.requires.0 a.j (omega (arith, c.requires.1)) in
    let (two, all) = and_both _ _ t in
    let (clear, low) = and_both _ _ two in
    full {p = c.ending_at-end.result.last % 65536} c.requires.0 c.requires.1 c.requires.2 bytes
    (omega (arith, last.sum, last.first))
    (c.is_clear.ensures clear a.records.now (a.j * 32) long bytes olds last)
    (ltb-true _ _ low)
    (rw c.all_written.ensures at all)
