-- Each way out is the definition's: no page, the lost chip, the page itself. A sound record's numbers are those of pages.
use mathlib.Core.Path.{sym, ◌∙◌}
use Rattle.layout.specs.Layout.{layout_of, none}
use Rattle.layout.specs.Page.{page_at}
use Rattle.layout.specs.Record.{record_at}
use Rattle.layout.specs.Images.{slot_at}
use Rattle.layout.proofs.Limits.{within}
use Rattle.rules.specs.Fetch.{fetch_in}
use Rattle.rules.proofs.Soundness.RecordChecks.{record_sound_lem}
use Rattle.fetch.proofs.Pages.{fetched_none, fetched_lost, fetched_direct}
use Rattle.fetch.proofs.Others.{role_number}
use Rattle.fetch.proofs.View.fetch.Goals as goal

pub returns-then-p-eq-NONE : goal.returns-then-p-eq-NONE
unfolding none fetch_in
returns-then-p-eq-NONE c =
    let a = c.args in
    let v = a.self.now in
    let l = layout_of v.g in
    fetched_none l (page_at l v.chips.now) (slot_at l v.slots.now) a.j (record_at l v.records.now a.j) a.lost a.role
    (sym c.number_named-p.ensures ∙ c.if-p-eq-NONE.true) c.add_none.ensures

pub returns-then-c-lost : goal.returns-then-c-lost
unfolding none fetch_in
returns-then-c-lost c =
    let a = c.args in
    let v = a.self.now in
    let l = layout_of v.g in
    let chip = c.chip_of-c.ensures.0 a.j c.parity_chip-parity.ensures.0 in
    fetched_lost l (page_at l v.chips.now) (slot_at l v.slots.now) a.j (record_at l v.records.now a.j) a.lost a.role
    (λ q. c.if-p-eq-NONE.false (c.number_named-p.ensures ∙ q)) (sym chip ∙ c.if-c-lost.true) c.rebuild.ensures

pub add_page-requires : goal.add_page-requires
add_page-requires c =
    let a = c.args in
    let v = a.self.now in
    let l = layout_of v.g in
    let r = record_at l v.records.now a.j in
    (c.requires.0, c.chip_of-c.ensures.1, rw c.number_named-p.ensures (role_number v.g (within l v.chips_fit.limited) r (record_sound_lem l r c.requires.3) a.role c.requires.2))

pub returns : goal.returns
unfolding none fetch_in
returns c =
    let a = c.args in
    let v = a.self.now in
    let l = layout_of v.g in
    let chip = c.chip_of-c.ensures.0 a.j c.parity_chip-parity.ensures.0 in
    fetched_direct l (page_at l v.chips.now) (slot_at l v.slots.now) a.j (record_at l v.records.now a.j) a.lost a.role
    (λ q. c.if-p-eq-NONE.false (c.number_named-p.ensures ∙ q)) (λ q. c.if-c-lost.false (chip ∙ q)) chip c.number_named-p.ensures c.add_page.ensures
