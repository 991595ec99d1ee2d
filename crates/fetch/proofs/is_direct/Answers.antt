-- The number is the member's current one, and the chip is its own.
use Prim.Native.Nat.{◌<◌}
use native.Mathlib.Omega.{arith}
use mathlib.Core.Path.{◌∙◌}
use Rattle.layout.specs.Layout.{layout_of, none}
use Rattle.layout.specs.Record.{record_at}
use Rattle.fetch.proofs.Others.{six, number_current}
use Rattle.fetch.proofs.is_direct.Goals as goal

pub number_in-requires : goal.number_in-requires
number_in-requires c =
    let low : c.args.m < 6 = six c.args.g c.requires.0.limited c.requires.2 in
    (c.requires.0, c.requires.1, omega (arith, low))

pub chip_beside-requires : goal.chip_beside-requires
chip_beside-requires c =
    let low : c.args.m < 6 = six c.args.g c.requires.0.limited c.requires.2 in
    low

pub returns : goal.returns
unfolding none
returns c =
    let low : c.args.m < 6 = six c.args.g c.requires.0.limited c.requires.2 in
    let l = layout_of c.args.g in
    rw (
      c.number_in.ensures.0 ∙ number_current (record_at l c.args.records.now c.args.j) c.args.m low,
      c.chip_beside.ensures.0 l c.args.j c.requires.3,
    )
