-- The part that is lent is the block, and comes back as 255s.
use native.Mathlib.Nat.{add-sub_cancel_left}
use native.Mathlib.Omega.{arith}
use Rattle.octets.specs.Units.{part, put}
use Rattle.steps.specs.Store.{erased}
use Rattle.codec.proofs.Offsets.{block_in}
use Rattle.codec.proofs.put.put_clean_block.Goals as goal

pub overflow_mul-b : goal.overflow_mul-b
overflow_mul-b c = omega (arith, block_in c.args.g c.args.chips.now c.args.c c.args.b c.requires.0 c.requires.1 c.requires.2)

pub page_offset-a-requires : goal.page_offset-a-requires
page_offset-a-requires c = (c.requires.0.limited, c.requires.1, (block_in c.args.g c.args.chips.now c.args.c c.args.b c.requires.0 c.requires.1 c.requires.2).first)

pub overflow_mul-e : goal.overflow_mul-e
overflow_mul-e c = omega (arith, block_in c.args.g c.args.chips.now c.args.c c.args.b c.requires.0 c.requires.1 c.requires.2, c.page_offset-a.ensures.0)

pub overflow_add-e-2 : goal.overflow_add-e-2
overflow_add-e-2 c = omega (arith, block_in c.args.g c.args.chips.now c.args.c c.args.b c.requires.0 c.requires.1 c.requires.2, c.page_offset-a.ensures.0)

pub slice_bounds-fill-end : goal.slice_bounds-fill-end
slice_bounds-fill-end c = omega (arith, block_in c.args.g c.args.chips.now c.args.c c.args.b c.requires.0 c.requires.1 c.requires.2, c.page_offset-a.ensures.0)

pub returns : goal.returns
unfolding erased put part
returns c = rw (c.fill.ensures.after (λ y e. e), add-sub_cancel_left, c.page_offset-a.ensures.0, (block_in c.args.g c.args.chips.now c.args.c c.args.b c.requires.0 c.requires.1 c.requires.2).long)
