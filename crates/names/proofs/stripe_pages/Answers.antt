-- On the parity's chip the code gives the parity page; else what it reads are the numbers of the member on the chip.
use mathlib.Core.Path.{sym, ◌∙◌}
use mathlib.Core.Logic.{◌≢◌}
use Rattle.layout.specs.Layout.{layout_of, none}
use Rattle.layout.specs.Rotation.{parity_chip}
use Rattle.names.proofs.Readings.{parity_pages, member_pages}
use Rattle.names.proofs.stripe_pages.Goals as goal

pub returns-then-c-parity : goal.returns-then-c-parity
unfolding none
returns-then-c-parity c =
    let chip = c.if-c-parity.true ∙ c.parity_chip-parity.ensures.0 in
    rw c.number_in.ensures.0 (parity_pages (layout_of c.args.g) c.args.j _ c.args.c chip)

pub returns : goal.returns
returns c =
    let elsewhere : let a = c.args in a.c ≢ parity_chip (layout_of a.g) a.j = λ q.
    c.if-c-parity.false (q ∙ sym c.parity_chip-parity.ensures.0) in
    let m = c.member_on-m in
    rw (c.number_in-2.ensures.0, c.number_in-3.ensures.0)
    (member_pages (layout_of c.args.g) c.args.j _ c.args.c m.result elsewhere (m.ensures.0 c.args.j c.parity_chip-parity.ensures.0) m.ensures.2)
