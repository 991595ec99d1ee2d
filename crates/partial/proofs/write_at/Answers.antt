-- The program, and then what is stored for the page that stands there, worked out from the images after the program.
use native.Mathlib.Omega.{arith}
use mathlib.Core.Path.{◌∙◌}
use mathlib.Core.List.{[], ◌∷◌}
use Rattle.layout.specs.Layout.{layout_of, none}
use Rattle.layout.proofs.Limits.{within}
use Rattle.steps.specs.Store.{program}
use Rattle.steps.specs.Steps.{plain}
use Rattle.steps.specs.Allowance.{images}
use Rattle.steps.proofs.Allowances.{ran_then}
use Rattle.rules.specs.Partial.{data_page, slot_steps, write_at}
use Rattle.partial.proofs.write_at.Goals as goal

pub program-run-requires : goal.program-run-requires
program-run-requires c =
    let w = within (layout_of c.args.g) c.requires.0.limited in (
      c.requires.0,
      c.member_chip.ensures.1,
      c.requires.7,
      c.requires.6,
      record { kind = omega arith; member = omega (arith, c.requires.5, w.members_high); stripe = omega (arith, c.requires.4, w.stripes_high); copied = omega arith },
      omega arith,
      c.requires.9,
    )

pub store_partial-requires : goal.store_partial-requires
store_partial-requires c =
    let f = c.program-run in (
      record { limited = c.requires.0.limited; long = f.auto.chips ∙ c.requires.0.long },
      c.requires.1,
      c.requires.2,
      c.requires.3,
      c.requires.4,
      c.requires.5,
      c.requires.6,
      c.requires.7,
      c.requires.8,
      (f.ensures [] []).sane,
      c.requires.10,
    )

pub returns : goal.returns
unfolding write_at none
returns c =
    let chip = c.member_chip in
    let a = c.args in
    let l = layout_of a.g in
    let xs = a.bytes.now in
    let r = a.records.now in
    let z = a.slots.now in
    let x = c.program-run.new.chips in
    let rest = c.store_partial in
    rw (← chip.ensures.0)
    (ran_then l a.p c.program-run.result rest.result (plain (program chip.result a.q (data_page l a.j a.m xs)) ∷ []) (slot_steps l a.j a.m xs a.q)
    (images a.chips.now r z) (images x r z) (images x rest.new.records rest.new.slots) (c.program-run.ensures r z) rest.ensures)
