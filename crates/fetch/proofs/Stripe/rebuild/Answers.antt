-- A current page in the bitmap goes through the partial parity, and every other one through the parity.
use mathlib.Core.Path.{refl, sym, ◌∙◌}
use Rattle.layout.specs.Layout.{layout_of}
use Rattle.layout.specs.Page.{page_at}
use Rattle.layout.specs.Record.{record_at}
use Rattle.layout.specs.Images.{slot_at}
use Rattle.fetch.proofs.Pages.{into_same}
use Rattle.fetch.proofs.Others.{inside_bit, rebuilt_inside, rebuilt_full}
use Rattle.fetch.proofs.Stripe.rebuild.Goals as goal

pub through_partial-requires : goal.through_partial-requires
through_partial-requires c =
    let s = c.args.self.now in
    let r = record_at (layout_of s.view.g) s.view.records.now s.j in
    (c.requires.0, rw c.left_out.ensures (inside_bit r c.args.role (sym c.is_inside.ensures ∙ c.if-is_inside.true)))

pub returns-then-is_inside : goal.returns-then-is_inside
returns-then-is_inside c =
    let s = c.args.self.now in
    let v = s.view in
    let l = layout_of v.g in
    let inside = sym c.is_inside.ensures ∙ c.if-is_inside.true in
    into_same
    (rw c.left_out.ensures (rebuilt_inside l (page_at l v.chips.now) (slot_at l v.slots.now) s.j (record_at l v.records.now s.j) c.args.role inside))
    refl c.through_partial.ensures

pub returns : goal.returns
returns c =
    let s = c.args.self.now in
    let v = s.view in
    let l = layout_of v.g in
    let z = slot_at l v.slots.now in
    let outside = sym c.is_inside.ensures ∙ c.if-is_inside.false in
    into_same
    (rebuilt_full l (page_at l v.chips.now) z s.j (record_at l v.records.now s.j) c.args.role outside)
    refl (c.through_parity.ensures z)
