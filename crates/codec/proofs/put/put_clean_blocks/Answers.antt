-- The part that is lent is the first n blocks, and comes back as 255s.
use Prim.Native.Nat.{◌*◌}
use native.Mathlib.Omega.{arith}
use mathlib.Core.Path.{sym}
use lib.Seq.{length-take-le}
use Rattle.octets.specs.Units.{part, put}
use Rattle.codec.proofs.Fills.{firsts_alike}
use Rattle.codec.proofs.Offsets.{block_bytes, blocks_in}
use Rattle.codec.proofs.put.put_clean_blocks.Goals as goal

pub overflow_add-e : goal.overflow_add-e
overflow_add-e c = omega (arith, blocks_in c.args.g c.args.chips.now c.args.n c.requires.0 c.requires.1)

pub overflow_mul-e : goal.overflow_mul-e
overflow_mul-e c = omega (arith, blocks_in c.args.g c.args.chips.now c.args.n c.requires.0 c.requires.1)

pub overflow_mul-e-2 : goal.overflow_mul-e-2
overflow_mul-e-2 c = omega (arith, blocks_in c.args.g c.args.chips.now c.args.n c.requires.0 c.requires.1)

pub slice_bounds-fill-end : goal.slice_bounds-fill-end
slice_bounds-fill-end c = omega (arith, blocks_in c.args.g c.args.chips.now c.args.n c.requires.0 c.requires.1)

pub slice_bounds-fill-end-2 : goal.slice_bounds-fill-end-2
slice_bounds-fill-end-2 c =
    let a = c.args in
    sym (length-take-le (a.n * block_bytes a.g) a.chips.now (blocks_in a.g a.chips.now a.n c.requires.0 c.requires.1).fits)

pub returns : goal.returns
unfolding put part
returns c =
    let a = c.args in
    rw (c.fill.ensures.after (λ y e. e), (blocks_in a.g a.chips.now a.n c.requires.0 c.requires.1).long) (firsts_alike (block_bytes a.g) a.n 255 a.chips.now)
