-- The parity's chip, the member, the tag and the field are those of the definition; the last test chooses.
use Prim.Native.Nat.{◌≤◌}
use native.Mathlib.Omega.{arith}
use mathlib.Core.Path.{◌≡◌, sym, ◌∙◌}
use mathlib.Core.Logic.{◌≢◌}
use borrow.Author.Tests.{lt-ltb, le-ltb}
use Rattle.ranges.proofs.Looks.{by_same}
use Rattle.layout.specs.Layout.{layout_of}
use Rattle.layout.specs.Rotation.{parity_chip, member_on}
use Rattle.layout.proofs.Limits.{within}
use Rattle.spares.specs.Scans.{tag_on, field_on}
use Rattle.spares.proofs.Fields.{parity_is, parity_field, member_field, no_field, own_field}
use Rattle.spares.proofs.block.field_of.Goals as goal
use Rattle.spares.proofs.block.field_of.Goals.{Joined-c-parity, Joined-c-parity-3, else-c-parity, else-c-parity-2, else-c-parity-3, then-c-parity, then-c-parity-2, then-c-parity-3}

-- the member, where it is not the parity's chip
member : (c : Joined-c-parity) → let a = c.args in let l = layout_of a.g in
    (c.if-c-parity.m ≤ 6) × (a.c ≢ parity_chip l a.j → c.if-c-parity.m ≡ member_on l a.j a.c)
unfolding member_on
member c =
    let l = layout_of c.args.g in
    let q = parity_chip l c.args.j in
    let is = parity_is l c.args.c c.args.j c.requires.1 in
    let few = (within l c.requires.0).members_high in
    elim c.if-c-parity.branch [
      | then-c-parity w ↦ (omega (arith, w.m-is), λ d. rw (lt-ltb c.args.c q (omega arith)) w.m-is)
      | else-c-parity w ↦ (omega (arith, w.m-is), λ d. rw (le-ltb c.args.c q (omega arith)) w.m-is)
    ]

-- the tag and the field
worked_out : (c : Joined-c-parity-3) → let a = c.args in let l = layout_of a.g in
    (a.c ≢ parity_chip l a.j → c.if-c-parity.m ≡ member_on l a.j a.c)
    → (c.if-c-parity-2.own ≡ tag_on l a.c a.j) × (c.if-c-parity-3.field ≡ field_on l a.c a.j)
worked_out c m =
    let l = layout_of c.args.g in
    let parity = parity_is l c.args.c c.args.j c.requires.1 in
    by_same c.args.c (parity_chip l c.args.j)
    (λ e.
    let f = parity_field l c.args.c c.args.j e in (
      elim c.if-c-parity-2.branch [
        | then-c-parity-2 w ↦ w.own-is ∙ w.tag_of-own.ensures ∙ f.0
        | else-c-parity-2 w ↦ absurd (w.if-c-parity-2.false (e ∙ sym parity))
      ],
      elim c.if-c-parity-3.branch [
        | then-c-parity-3 w ↦ w.field-is ∙ f.1
        | else-c-parity-3 w ↦ absurd (w.if-c-parity-3.false (e ∙ sym parity))
      ],
    ))
    (λ d.
    let f = member_field l c.args.c c.args.j c.if-c-parity.m d (m d) in (
      elim c.if-c-parity-2.branch [
        | then-c-parity-2 w ↦ absurd (d (w.if-c-parity-2.true ∙ parity))
        | else-c-parity-2 w ↦ w.own-is ∙ w.tag_of-own-else-c-parity-2.ensures ∙ f.0
      ],
      elim c.if-c-parity-3.branch [
        | then-c-parity-3 w ↦ absurd (d (w.if-c-parity-3.true ∙ parity))
        | else-c-parity-3 w ↦ w.field-is ∙ f.1
      ],
    ))

pub overflow_cast-s : goal.overflow_cast-s
overflow_cast-s c =
    let high = (within (layout_of c.args.g) c.requires.0).stripes_high in
    record { fits = omega arith }

pub tag_of-own-requires-else-c-parity-2 : goal.tag_of-own-requires-else-c-parity-2
tag_of-own-requires-else-c-parity-2 c = (omega arith, omega (arith, (member (goal.at.tag_of-own-requires-else-c-parity-2 c).Joined-c-parity).0))

pub returns-then-tag-own : goal.returns-then-tag-own
returns-then-tag-own c =
    let a = c.args in
    let at = goal.at.returns-then-tag-own c in
    let (tag, field) = worked_out at.Joined-c-parity-3 (member at.Joined-c-parity).1 in
    field ∙ own_field (layout_of a.g) a.c a.tag a.j (rw tag at c.if-tag-own.true)

pub returns-else-tag-own : goal.returns-else-tag-own
returns-else-tag-own c =
    let a = c.args in
    let at = goal.at.returns-else-tag-own c in
    let (tag, field) = worked_out at.Joined-c-parity-3 (member at.Joined-c-parity).1 in
    no_field (layout_of a.g) a.c a.tag a.j (rw tag at c.if-tag-own.false)
