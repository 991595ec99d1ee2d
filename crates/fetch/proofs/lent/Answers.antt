-- The page of the member, or the work page.
use Prim.Native.Nat.{◌<◌}
use native.Mathlib.Omega.{arith}
use mathlib.Core.Path.{◌≡◌, ◌∙◌}
use Rattle.layout.specs.Layout.{layout_of}
use Rattle.layout.specs.Record.{record_at}
use Rattle.fetch.proofs.Others.{six, number_current}
use Rattle.fetch.proofs.lent.Goals as goal

pub number_in-number-requires : goal.number_in-number-requires
number_in-number-requires c =
    let low : c.args.m < 6 = six c.args.g c.requires.0.limited c.requires.4 in
    (c.requires.1, c.requires.3, omega (arith, low))

pub chip_beside-requires : goal.chip_beside-requires
chip_beside-requires c =
    let low : c.args.m < 6 = six c.args.g c.requires.0.limited c.requires.4 in
    low

pub page_data-requires : goal.page_data-requires
page_data-requires c =
    let low : c.args.m < 6 = six c.args.g c.requires.0.limited c.requires.4 in
    let number : c.number_in-number.result ≡ (record_at (layout_of c.args.g) c.args.records.now c.args.j).current c.args.m =
    c.number_in-number.ensures.0 ∙ number_current (record_at (layout_of c.args.g) c.args.records.now c.args.j) c.args.m low in
    (c.requires.0, omega (arith, c.chip_beside.ensures.1, c.requires.4), rw number (c.requires.6 c.if-direct.true))

pub returns-then-direct : goal.returns-then-direct
returns-then-direct c =
    let low : c.args.m < 6 = six c.args.g c.requires.0.limited c.requires.4 in
    let number : c.number_in-number.result ≡ (record_at (layout_of c.args.g) c.args.records.now c.args.j).current c.args.m =
    c.number_in-number.ensures.0 ∙ number_current (record_at (layout_of c.args.g) c.args.records.now c.args.j) c.args.m low in
    let page = c.page_data.ensures in (
      page.0 ∙ rw (c.if-direct.true, number, c.chip_beside.ensures.0 (layout_of c.args.g) c.args.j c.requires.5),
      page.1,
    )

pub returns : goal.returns
returns c = (rw c.if-direct.false, c.requires.2)
