-- The work page becomes the new parity; it is programmed, and then the record is stored.
use native.Mathlib.Omega.{arith}
use mathlib.Core.Path.{◌∙◌}
use mathlib.Core.List.{[]}
use Rattle.layout.specs.Layout.{layout_of, none}
use Rattle.layout.proofs.Limits.{Within, within}
use Rattle.steps.specs.Allowance.{images}
use Rattle.steps.proofs.Allowances.{ran_append}
use Rattle.codec.specs.Views.{record_from}
use Rattle.fetch.proofs.Others.{record_is}
use Rattle.parity.proofs.Committing.{commit_list}
use Rattle.parity.proofs.commit_at.Goals as goal

pub new_parity-reads-requires : goal.new_parity-reads-requires
new_parity-reads-requires c =
    let is = record_is c.args.g c.args.records.now c.args.j c.record_at-e.ensures c.requires.7 in
    (c.requires.3, c.requires.4, is, rw is c.requires.7, rw is c.requires.8)

pub program-run-requires : goal.program-run-requires
program-run-requires c =
    let limits : Within (layout_of c.args.g) = within (layout_of c.args.g) c.requires.0.limited in (
      c.requires.0,
      c.parity_chip.ensures.1,
      c.requires.5,
      c.new_parity-reads.auto.work ∙ c.requires.3,
      record { kind = omega arith; member = omega arith; stripe = omega (arith, c.requires.4, limits.stripes_high); copied = omega arith },
      omega (arith, c.new_parity-reads.ensures.2),
      c.requires.6,
    )

pub committed-requires : goal.committed-requires
unfolding none
committed-requires c =
    let limits : Within (layout_of c.args.g) = within (layout_of c.args.g) c.requires.0.limited in
    (c.record_at-e.ensures.1, omega (arith, c.requires.5, limits.pages_numbered))

pub store_record-requires : goal.store_record-requires
store_record-requires c = (c.requires.1, c.requires.4, c.committed.ensures.1, (c.program-run.ensures [] []).sane)

pub returns : goal.returns
unfolding none
returns c =
    let a = c.args in
    let l = layout_of a.g in
    let x = a.chips.now in
    let y = a.records.now in
    let z = a.slots.now in
    rw (commit_list a.g a.j a.q x y z c.record_at-e.result (record_is a.g y a.j c.record_at-e.ensures c.requires.7) (record_from l c.committed.result) c.parity_chip.result c.new_parity-reads.result c.new_parity-reads.new.work (c.committed.ensures.0 a.g) c.parity_chip.ensures.0 c.new_parity-reads.ensures.0 c.new_parity-reads.ensures.1)
    (ran_append l _ _ _ _ _ (images x y z) (images c.program-run.new.chips y z) _ (c.program-run.ensures y z)
    (c.store_record.ensures c.program-run.new.chips z))
