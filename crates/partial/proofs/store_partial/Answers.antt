-- The work page becomes the new partial parity; then the two stores, one after the other.
use Prim.Native.Nat.{◌≤◌}
use native.Mathlib.Omega.{arith}
use mathlib.Core.Path.{◌≡◌, sym, ◌∙◌}
use mathlib.Core.List.{[]}
use Rattle.std.specs.Prelude.{Some}
use Rattle.layout.specs.Layout.{layout_of, none}
use Rattle.layout.specs.Record.{record_at}
use Rattle.layout.proofs.Limits.{within}
use Rattle.steps.specs.Allowance.{images}
use Rattle.steps.proofs.Allowances.{ran_none, ran_append}
use Rattle.rules.specs.Partial.{lowest_free_slot}
use Rattle.fetch.proofs.Others.{record_is}
use Rattle.partial.proofs.Slots.{free_fits}
use Rattle.partial.proofs.Steps.{steps_none, steps_found}
use Rattle.partial.proofs.store_partial.Goals as goal

pub new_partial-reads-requires : goal.new_partial-reads-requires
new_partial-reads-requires c =
    let is = record_is c.args.g c.args.records.now c.args.j c.record_at-e.ensures c.requires.8 in
    (c.requires.3, c.requires.6, c.requires.4, c.requires.5, is, rw is c.requires.8)

pub store_slot-run-requires : goal.store_slot-run-requires
store_slot-run-requires c =
    let found : let a = c.args in
    lowest_free_slot (layout_of a.g) (record_at (layout_of a.g) a.records.now) ≡ Some c.in-Some.i =
    sym c.requires.10 ∙ c.in-Some.is in
    let fits : c.in-Some.i ≤ c.args.g.m =
    let a = c.args in
    free_fits a.g (record_at (layout_of a.g) a.records.now) c.in-Some.i found in
    (c.requires.2, fits, c.new_partial-reads.auto.work ∙ c.requires.3, c.new_partial-reads.ensures.2, c.requires.9)

pub written-requires : goal.written-requires
unfolding none
written-requires c =
    let found : let a = c.args in
    lowest_free_slot (layout_of a.g) (record_at (layout_of a.g) a.records.now) ≡ Some c.in-Some.i =
    sym c.requires.10 ∙ c.in-Some.is in
    let fits : c.in-Some.i ≤ c.args.g.m =
    let a = c.args in
    free_fits a.g (record_at (layout_of a.g) a.records.now) c.in-Some.i found in
    let w = within (layout_of c.args.g) c.requires.0.limited in (
      c.record_at-e.ensures.1,
      omega (arith, c.requires.5, w.members_high),
      omega (arith, c.requires.7, w.pages_numbered),
      omega (arith, fits, w.partials_high),
    )

pub store_record-requires : goal.store_record-requires
store_record-requires c = (c.requires.1, c.requires.4, c.written.ensures.1, (c.store_slot-run.ensures [] []).sane)

pub returns-in-Some : goal.returns-in-Some
returns-in-Some c =
    let found : let a = c.args in
    lowest_free_slot (layout_of a.g) (record_at (layout_of a.g) a.records.now) ≡ Some c.in-Some.i =
    sym c.requires.10 ∙ c.in-Some.is in
    let a = c.args in
    let l = layout_of a.g in
    let x = a.chips.now in
    let r = a.records.now in
    let y = a.slots.now in
    let z = c.store_slot-run.new.slots in
    let last = c.store_record in
    rw (steps_found a.g a.j a.m a.bytes.now a.q x r y c.record_at-e.result (record_is a.g r a.j c.record_at-e.ensures c.requires.8) c.in-Some.i found
    c.new_partial-reads.ensures.0 c.new_partial-reads.ensures.1 (c.written.ensures.0 a.g))
    (ran_append l a.p c.store_slot-run.result last.result _ _ (images x r y) (images x r z) _ (c.store_slot-run.ensures x r) (last.ensures x z))

pub returns-in-None : goal.returns-in-None
returns-in-None c =
    let a = c.args in
    let l = layout_of a.g in
    let v = images a.chips.now a.records.now a.slots.now in
    rw (steps_none a.g a.j a.m a.bytes.now a.q a.chips.now a.records.now a.slots.now (sym c.requires.10 ∙ c.in-None.is)) (ran_none l a.p v c.requires.9)
