use mathlib.Core.Path.{◌≡◌}
use Rattle.layout.specs.Layout.{layout_of, no_chip}
use Rattle.steps.specs.Allowance.{images}
use Rattle.fetch.proofs.Pages.{fetched_from}
use Rattle.layout.proofs.Limits.{within}
use Rattle.parity.specs.Members.{member_role}
use Rattle.parity.proofs.Parities.{member_fits, members_none, members_more, members_skip, members_all}
use Rattle.parity.proofs.gather_members.Goals as goal
use Rattle.parity.proofs.gather_members.Goals.{else-bit_of-inside, else-inside, then-bit_of-inside, then-inside}

pub loop-m-init : goal.loop-m-init
loop-m-init c =
    let a = c.args in
    let v = a.view.now in
    members_none v.g v.chips.now v.slots.now a.j a.e a.inside a.work.now (within (layout_of v.g) v.chips_fit.limited).members_high c.requires.0

pub fetch-got-requires : goal.fetch-got-requires
fetch-got-requires c =
    let role_is : c.if-inside.role ≡ member_role c.args.inside c.loop-m.m =
    elim c.if-inside.branch [
      | then-inside w ↦ rw (w.role-is, w.if-inside.true)
      | else-inside w ↦ rw (w.role-is, w.if-inside.false)
    ] in
    (c.loop-m.invariant.long, c.requires.1, rw role_is (member_fits c.args.view.now.g c.args.inside c.loop-m.m c.loop-m-test.true), rw (← c.requires.2) c.requires.3)

pub loop-m-preserved : goal.loop-m-preserved
loop-m-preserved c =
    let s = c.loop-m.invariant in
    let h = c.loop-m-test.true in
    let bit = c.bit_of in
    let a = c.args in
    let v = a.view.now in
    elim c.if-bit_of-inside.branch [
      | then-bit_of-inside w ↦
          let role : w.if-inside.role ≡ member_role a.inside c.loop-m.m =
          elim w.if-inside.branch [ then-inside v ↦ rw (v.role-is, v.if-inside.true) | else-inside v ↦ rw (v.role-is, v.if-inside.false) ] in
          rw (w.work-is, w.reads-is) (members_more s bit.result bit.ensures h w.if-bit_of-inside.true w.fetch-got.auto.work (fetched_from (layout_of v.g) (images v.chips.now v.records.now v.slots.now) no_chip a.j _ c.requires.2 (rw role at w.fetch-got.ensures)))
      | else-bit_of-inside w ↦ rw (w.work-is, w.reads-is) (members_skip s bit.result bit.ensures h w.if-bit_of-inside.false)
    ]

pub returns : goal.returns
returns c = members_all c.loop-m.invariant c.loop-m-test.false
