use Prim.Native.Nat.{ℕ, ◌/◌}
use mathlib.Core.Path.{◌≡◌, refl, sym, ap, ◌∙◌}
use borrow.Author.Tests.{not-true, not-false}
use lib.ListN.{length}
use Rattle.layout.specs.Layout.{layout_of}
use Rattle.layout.proofs.Limits.{within}
use Rattle.steps.specs.Allowance.{images}
use Rattle.rules.specs.Tickets.{ticket_bytes}
use Rattle.rules.specs.Log.{per_page}
use Rattle.ticket_log.specs.declared.Position.{Position}
use Rattle.ticket_log.specs.Walks.{position_of}
use Rattle.ticket_log.proofs.Walking.{going, next, goes_on, walk_ended, walk_broken, walk_full, pages_few, places_few}
use borrow.Author.Rules.{rules}
use Rattle.ticket_log.proofs.walk_log.Goals as goal

pub overflow_mul-pages : goal.overflow_mul-pages
overflow_mul-pages c =
    let v = c.args.view.now in
    search (rules, pages_few (layout_of v.g) (within (layout_of v.g) v.chips_fit.limited))

pub loop-at-init : goal.loop-at-init
loop-at-init c =
    let a = c.args in
    let v = a.view.now in
    let l = layout_of v.g in
    let first = c.first_page-at.ensures in
    let zero = ap (λ (p : Position). p.page) first in
    (c.requires.0, first ∙ ap (λ (i : ℕ). position_of l i) (sym zero), rw zero (going l (images v.chips.now v.records.now v.slots.now) a.lost a.lot a.bag refl))

pub overflow_add-reads : goal.overflow_add-reads
overflow_add-reads c =
    let v = c.args.view.now in
    let looked = next _ _ _ _ _ c.loop-at.invariant.2 c.loop-at-test.true c.look_at_page-seen.ensures in
    search (rules, pages_few (layout_of v.g) (within (layout_of v.g) v.chips_fit.limited), looked.few, looked.inside)

pub returns-then-not-shown : goal.returns-then-not-shown
returns-then-not-shown c =
    let v = c.args.view.now in
    let looked = next _ _ _ _ _ c.loop-at.invariant.2 c.loop-at-test.true c.look_at_page-seen.ensures in
    walk_broken _ _ _ _ _ (within (layout_of v.g) v.chips_fit.limited) looked (not-true _ c.if-not-shown.true)

pub overflow_mul-end : goal.overflow_mul-end
overflow_mul-end c =
    let v = c.args.view.now in
    let inside = within (layout_of v.g) v.chips_fit.limited in
    search (rules, places_few (layout_of v.g) inside c.loop-at-test.true c.requires.0)

pub overflow_add-end : goal.overflow_add-end
overflow_add-end c =
    let v = c.args.view.now in
    let inside = within (layout_of v.g) v.chips_fit.limited in
    let per-page : length c.args.work.now / ticket_bytes ≡ per_page (layout_of v.g) = rw c.requires.0 in
    search (rules, places_few (layout_of v.g) inside c.loop-at-test.true c.requires.0, c.if-shown-per_page.true, per-page, inside.bytes_high)

pub returns-then-shown-per_page : goal.returns-then-shown-per_page
returns-then-shown-per_page c =
    let v = c.args.view.now in
    let l = layout_of v.g in
    let looked = next _ _ _ _ _ c.loop-at.invariant.2 c.loop-at-test.true c.look_at_page-seen.ensures in
    let per-page : length c.args.work.now / ticket_bytes ≡ per_page l = rw c.requires.0 in
    walk_ended _ _ _ _ _ (within l v.chips_fit.limited) looked
    (rw (c.greater-with_page.ensures, per-page) at c.whole.ensures) (not-false _ c.if-not-shown.false) (rw per-page at c.if-shown-per_page.true)

pub loop-at-preserved : goal.loop-at-preserved
loop-at-preserved c =
    let l = layout_of c.args.view.now.g in
    let o = c.loop-at in
    let looked = next _ _ _ _ _ o.invariant.2 c.loop-at-test.true c.look_at_page-seen.ensures in
    let per-page : length c.args.work.now / ticket_bytes ≡ per_page l = rw c.requires.0 in
    let is = c.next_page-next.ensures in
    let page = ap (λ (p : Position). p.page) is in (
      c.look_at_page-seen.auto.work ∙ o.invariant.0,
      is ∙ ap (λ (i : ℕ). position_of l i) (sym page),
      rw page (goes_on _ _ _ _ _ looked c.greater-with_page.ensures (rw per-page at c.if-shown-per_page.false)),
    )

pub returns : goal.returns
returns c =
    let v = c.args.view.now in
    walk_full _ _ _ _ _ (within (layout_of v.g) v.chips_fit.limited) c.whole-2.ensures c.loop-at.invariant.2 c.loop-at-test.false
