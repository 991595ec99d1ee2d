-- Each match is the definition's; a member is one of six.
use native.Mathlib.Omega.{arith}
use mathlib.Core.Path.{ap, ◌∙◌}
use Rattle.layout.specs.Layout.{layout_of}
use Rattle.layout.specs.Record.{record_at}
use Rattle.codec.specs.Scan.{number_of}
use Rattle.fetch.proofs.Others.{six, current_fits, old_fits, number_current, number_old, number_parity}
use Rattle.fetch.proofs.View.number_named.Goals as goal
use Rattle.fetch.proofs.View.number_named.Goals.{in-Current, in-Old, in-Parity}

pub overflow_add-i : goal.overflow_add-i
overflow_add-i c =
    let v = c.args.self.now in
    let low = six v.g v.chips_fit.limited (old_fits v.g c.in-Old.is c.requires.1) in
    omega (arith, low)

pub number_in-requires : goal.number_in-requires
number_in-requires c =
    let v = c.args.self.now in (
      v.records_fit,
      c.requires.0,
      elim c.match-role.branch [
        | in-Current w ↦ let low = six v.g v.chips_fit.limited (current_fits v.g w.in-Current.is c.requires.1) in omega (arith, low)
        | in-Old w ↦ let low = six v.g v.chips_fit.limited (old_fits v.g w.in-Old.is c.requires.1) in omega (arith, low)
        | in-Parity w ↦ omega arith
      ],
    )

pub returns : goal.returns
returns c =
    let v = c.args.self.now in
    let r = record_at (layout_of v.g) v.records.now c.args.j in
    elim c.match-role.branch [
      | in-Current w ↦
          let low = six v.g v.chips_fit.limited (current_fits v.g w.in-Current.is c.requires.1) in
          rw w.in-Current.is (c.number_in.ensures.0 ∙ ap (number_of r) w.i-is ∙ number_current r w.in-Current.m low)
      | in-Old w ↦
          let low = six v.g v.chips_fit.limited (old_fits v.g w.in-Old.is c.requires.1) in
          rw w.in-Old.is (c.number_in.ensures.0 ∙ ap (number_of r) w.i-is ∙ number_old r w.in-Old.m low)
      | in-Parity w ↦ rw w.in-Parity.is (c.number_in.ensures.0 ∙ ap (number_of r) w.i-is ∙ number_parity r)
    ]
