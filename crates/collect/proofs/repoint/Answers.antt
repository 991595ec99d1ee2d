-- On the parity's chip the parity number is moved; else the numbers of the member on the chip. The arrays have six numbers each, as the
-- value's type says.
use mathlib.Core.Path.{◌≡◌, sym, ◌∙◌}
use lib.ListN.{length}
use Rattle.layout.specs.Layout.{layout_of}
use Rattle.collect.proofs.Repointing.{parity_moved, member_moved}
use Rattle.collect.proofs.repoint.Goals as goal

pub returns-then-c-parity : goal.returns-then-c-parity
returns-then-c-parity c =
    let a = c.args in
    parity_moved (layout_of a.g) a.e a.c a.j a.p a.q c.requires.2 c.requires.3
    (c.if-c-parity.true ∙ c.parity_chip-parity.ensures.0) c.moved.result c.moved.ensures

pub member_on-m-requires : goal.member_on-m-requires
member_on-m-requires c = (c.requires.0, c.requires.1, c.parity_chip-parity.ensures.1, c.if-c-parity.false)

pub returns : goal.returns
returns c =
    let a = c.args in
    let six : length a.e.current ≡ 6 = c.well_formed.1.0.1.1.0.1.0.1 in
    let six_old : length a.e.old ≡ 6 = c.well_formed.1.0.1.1.1.0.1.0.1 in
    member_moved (layout_of a.g) a.e a.c a.j a.p a.q c.requires.2 c.requires.3
    (λ e. c.if-c-parity.false (e ∙ sym c.parity_chip-parity.ensures.0))
    c.member_on-m.result c.moved-2.result c.moved-3.result (c.member_on-m.ensures.0 a.j c.parity_chip-parity.ensures.0) c.member_on-m.ensures.2 six six_old
    c.moved-2.ensures c.moved-3.ensures
