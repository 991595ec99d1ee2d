-- None is owed, or a commit is made first; then the write itself, with the victim and the free slot that are known; after a commit
-- the victim is looked for anew, and the free slot is the one that it leaves.
use Prim.Native.Nat.{◌<◌}
use native.Mathlib.Omega.{arith}
use mathlib.Core.Path.{sym, ap, ◌∙◌}
use mathlib.Core.Bool.{true≢false}
use borrow.Author.Tests.{not-true, not-false}
use Rattle.layout.specs.Layout.{layout_of}
use Rattle.layout.specs.Rotation.{member_chip}
use Rattle.steps.specs.Allowance.{Ran, images}
use Rattle.steps.proofs.Allowances.{ran_none, ran_then, ran_then_cut}
use Rattle.rules.specs.Room.{placed}
use Rattle.rules.specs.Partial.{write_at}
use Rattle.rules.specs.Write.{owed_steps, write_member}
use Rattle.records.specs.declared.SlotScan.{SlotScan}
use Rattle.commit.proofs.Placing.{seven, known_victim}
use Rattle.write.proofs.Owing.{owed_not, owed_settled, owed_victim}
use Rattle.write.proofs.write_member.Goals as goal

-- a chip is one of at most seven
low : (c : goal.After-member_chip) → c.member_chip.result < 7
low c = seven c.requires.0 c.member_chip.ensures.1

pub offset_bounds-scans-member_chip : goal.offset_bounds-scans-member_chip
offset_bounds-scans-member_chip c = omega (arith, low c)

pub bounds-scans-member_chip : goal.bounds-scans-member_chip
bounds-scans-member_chip c = low c

pub commit_victim-u-requires : goal.commit_victim-u-requires
commit_victim-u-requires c = c.requires.0.checked.chips_fit.limited

pub is_owed-requires : goal.is_owed-requires
is_owed-requires c =
    let h = c.requires in
    (h.0.checked.records_pass.fit, h.3, ap (λ (x : SlotScan). x.slotted) h.8)

pub place_member-requires : goal.place_member-requires
place_member-requires c =
    let h = c.requires in
    let on = c.member_chip.ensures in (
      h.0,
      h.1,
      h.2,
      h.3,
      h.4,
      h.5,
      h.6,
      λ _. known_victim h.7 on.1 on.0 c.victim_in-v.ensures,
      ap (λ (x : SlotScan). x.free) h.8,
    )

pub returns-then-not-is_owed : goal.returns-then-not-is_owed
unfolding write_member
returns-then-not-is_owed c =
    let a = c.args in
    let l = layout_of a.g in
    let v = images a.chips.now a.records.now a.slots.now in
    let owed = c.is_owed in
    let first : Ran l a.p (owed_steps l a.j v) a.p v v = rw (owed_not l a.j v (sym owed.ensures ∙ not-true owed.result c.if-not-is_owed.true-raw)) (ran_none l a.p v c.requires.6) in
    ran_then l a.p a.p _ (owed_steps l a.j v) (placed l (member_chip l a.j a.m) (write_at l a.j a.m a.bytes.now)) v v _ first c.place_member.ensures

pub commit_owed-owed-requires : goal.commit_owed-owed-requires
commit_owed-owed-requires c =
    let h = c.requires in
    let owed = c.is_owed in
    (h.0, h.1, h.2, h.6, sym owed.ensures ∙ not-false owed.result c.if-not-is_owed.false-raw, owed_victim h.7 c.commit_victim-u.ensures, h.8)

pub returns-then-run : goal.returns-then-run
unfolding write_member
returns-then-run c =
    let a = c.args in
    let l = layout_of a.g in
    let v = images a.chips.now a.records.now a.slots.now in
    ran_then_cut l a.p c.commit_owed-owed.result.run (owed_steps l a.j v) (placed l (member_chip l a.j a.m) (write_at l a.j a.m a.bytes.now)) v _ c.commit_owed-owed.ensures.0 c.if-run.true

pub place_member-requires-2 : goal.place_member-requires-2
place_member-requires-2 c =
    let going = c.if-run.false in
    let h = c.requires in (
      owed_settled h.0 h.1 c.args.j c.commit_owed-owed.ensures.0 going,
      h.1,
      c.commit_owed-owed.auto.work ∙ h.2,
      h.3,
      h.4,
      h.5,
      c.commit_owed-owed.ensures.0.sane,
      λ known. absurd (true≢false known),
      c.commit_owed-owed.ensures.1 going,
    )

pub returns : goal.returns
unfolding write_member
returns c =
    let a = c.args in
    let l = layout_of a.g in
    let v = images a.chips.now a.records.now a.slots.now in
    ran_then l a.p c.commit_owed-owed.result.run _ (owed_steps l a.j v) (placed l (member_chip l a.j a.m) (write_at l a.j a.m a.bytes.now)) v _ _ c.commit_owed-owed.ensures.0 c.place_member-2.ensures
