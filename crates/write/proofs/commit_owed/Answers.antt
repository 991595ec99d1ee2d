-- The cheapest stripe is committed; the lowest free slot is then the lower of the one before and its own.
use mathlib.Core.Path.{sym, ap, ◌∙◌}
use Rattle.layout.specs.Layout.{layout_of}
use Rattle.layout.specs.Record.{record_at}
use Rattle.steps.specs.Allowance.{images}
use Rattle.steps.proofs.Allowances.{ran_none}
use Rattle.records.specs.declared.SlotScan.{SlotScan}
use Rattle.write.proofs.Owing.{owed_commits, owed_nothing, scanned_slotted, commit_lowers}
use Rattle.write.proofs.commit_owed.Goals as goal

pub slot_at-t-requires : goal.slot_at-t-requires
slot_at-t-requires c =
    let l = layout_of c.args.g in
    (c.requires.0.checked.records_pass.fit, (scanned_slotted l (record_at l c.args.records.now) c.requires.6 c.in-Some.is).1)

pub commit_stripe-run-requires : goal.commit_stripe-run-requires
commit_stripe-run-requires c =
    let l = layout_of c.args.g in
    let h = c.requires in
    let (_, low, has) = scanned_slotted l (record_at l c.args.records.now) h.6 c.in-Some.is in
    (h.0, h.1, h.2, low, h.3, has, h.5 _ c.in-Some.is)

pub returns-in-Some : goal.returns-in-Some
returns-in-Some c =
    let a = c.args in
    let l = layout_of a.g in
    let h = c.requires in
    let (found, low, has) = scanned_slotted l (record_at l a.records.now) h.6 c.in-Some.is in
    let v = images a.chips.now a.records.now a.slots.now in (
      rw (owed_commits l a.j v h.4 found) c.commit_stripe-run.ensures,
      λ going. rw (c.lower.ensures, ap (λ (x : SlotScan). x.free) h.6, c.slot_at-t.ensures.0) (sym (commit_lowers h.0 h.1 low has c.commit_stripe-run.ensures going)),
    )

pub returns-in-None : goal.returns-in-None
returns-in-None c =
    let a = c.args in
    let l = layout_of a.g in
    let h = c.requires in
    let v = images a.chips.now a.records.now a.slots.now in (
      rw (owed_nothing l a.j v h.4 (sym (ap (λ (x : SlotScan). x.cheapest) h.6) ∙ c.in-None.is)) (ran_none l a.p v h.3),
      λ going. ap (λ (x : SlotScan). x.free) h.6,
    )
