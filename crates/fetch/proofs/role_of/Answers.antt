-- The tests are those of the definition, and the member is the one on the chip.
use native.Mathlib.Omega.{arith}
use mathlib.Core.Path.{◌≡◌, sym, ◌∙◌}
use mathlib.Core.Bool.{false}
use lib.Dec.{eqb}
use borrow.Author.Tests.{eq-eqb, ne_eqb}
use Rattle.layout.specs.Layout.{layout_of}
use Rattle.layout.specs.Rotation.{parity_chip}
use Rattle.layout.specs.Record.{record_at}
use Rattle.rules.specs.Names.{role_of}
use Rattle.fetch.proofs.Others.{number_current}
use Rattle.fetch.proofs.role_of.Goals as goal

pub returns-then-c-parity : goal.returns-then-c-parity
unfolding role_of
returns-then-c-parity c =
    let a = c.args in
    (rw (eq-eqb a.c (parity_chip (layout_of a.g) a.j) (c.if-c-parity.true ∙ c.parity_chip-parity.ensures.0)), tt)

pub member_on-m-requires : goal.member_on-m-requires
member_on-m-requires c = (c.requires.0.limited, c.requires.2, c.parity_chip-parity.ensures.1, c.if-c-parity.false)

pub number_in-requires : goal.number_in-requires
number_in-requires c = (c.requires.0, c.requires.1, omega (arith, c.member_on-m.ensures.2))

pub returns-then-number_in-p : goal.returns-then-number_in-p
unfolding role_of
returns-then-number_in-p c =
    let other : let a = c.args in eqb a.c (parity_chip (layout_of a.g) a.j) ≡ false =
    let a = c.args in
    ne_eqb a.c (parity_chip (layout_of a.g) a.j) (λ e. c.if-c-parity.false (e ∙ sym c.parity_chip-parity.ensures.0)) in
    let number : let a = c.args in
    (record_at (layout_of a.g) a.records.now a.j).current c.member_on-m.result ≡ c.number_in.result =
    let a = c.args in
    sym (c.number_in.ensures.0 ∙ number_current (record_at (layout_of a.g) a.records.now a.j) c.member_on-m.result c.member_on-m.ensures.2) in
    let a = c.args in
    let (are, low, six) = c.member_on-m.ensures in
    let is = are a.j c.parity_chip-parity.ensures.0 in
    (rw (other, ← is, eq-eqb ((record_at (layout_of a.g) a.records.now a.j).current c.member_on-m.result) a.p (number ∙ c.if-number_in-p.true)), low)

pub returns : goal.returns
unfolding role_of
returns c =
    let other : let a = c.args in eqb a.c (parity_chip (layout_of a.g) a.j) ≡ false =
    let a = c.args in
    ne_eqb a.c (parity_chip (layout_of a.g) a.j) (λ e. c.if-c-parity.false (e ∙ sym c.parity_chip-parity.ensures.0)) in
    let number : let a = c.args in
    (record_at (layout_of a.g) a.records.now a.j).current c.member_on-m.result ≡ c.number_in.result =
    let a = c.args in
    sym (c.number_in.ensures.0 ∙ number_current (record_at (layout_of a.g) a.records.now a.j) c.member_on-m.result c.member_on-m.ensures.2) in
    let a = c.args in
    let (are, low, six) = c.member_on-m.ensures in
    let is = are a.j c.parity_chip-parity.ensures.0 in
    (rw (other, ← is, ne_eqb ((record_at (layout_of a.g) a.records.now a.j).current c.member_on-m.result) a.p (λ q. c.if-number_in-p.false (sym number ∙ q))), low)
