-- The blocks that the allowance holds are erased at once, and counted.
use Prim.Native.Nat.{◌+◌, ◌*◌, ◌≤◌, ◌<◌}
use native.Mathlib.Nat.{mul-le-mul}
use native.Mathlib.Omega.{arith}
use mathlib.Core.Path.{refl}
use Rattle.layout.specs.Layout.{layout_of}
use Rattle.layout.proofs.Limits.{Within, within}
use Rattle.steps.proofs.Alike.{ran_each}
use Rattle.format.proofs.Firsts.{erase_nth, erases_flat, erases_made}
use Rattle.format.proofs.erase_chips.Goals as goal

pub overflow_add-blocks : goal.overflow_add-blocks
overflow_add-blocks c =
    let limits : Within (layout_of c.args.g) = within (layout_of c.args.g) c.requires.0.limited in
    omega (arith, limits.members_high)

pub overflow_mul-blocks : goal.overflow_mul-blocks
overflow_mul-blocks c =
    let limits : Within (layout_of c.args.g) = within (layout_of c.args.g) c.requires.0.limited in
    let few : (c.args.g.n + 1) * c.args.g.b ≤ 7 * 1024 =
    mul-le-mul {n₂ = 7} {m₂ = 1024} (omega (arith, limits.members_high)) limits.blocks_high in
    omega (arith, few)

pub returns : goal.returns
returns c rs zs =
    let limits : Within (layout_of c.args.g) = within (layout_of c.args.g) c.requires.0.limited in
    let l = layout_of c.args.g in
    let blocks : 0 < c.args.g.b = omega (arith, limits.blocks_low) in
    rw (c.count_all.ensures, erases_flat l (c.args.g.n + 1) blocks)
    (ran_each (erase_nth l) 1 (λ i. refl) (λ i. refl) l c.args.p ((c.args.g.n + 1) * c.args.g.b) _ _ c.requires.1 (omega arith)
    (rw (c.put_clean_blocks.ensures, c.held-n.ensures, erases_made l)))
