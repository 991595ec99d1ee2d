-- A page is XORed in as it stands; no page adds nothing.
use mathlib.Core.Path.{ap, ◌∙◌}
use Rattle.octets.specs.Xor.{◌⊕◌}
use Rattle.layout.specs.Layout.{layout_of, none}
use Rattle.layout.specs.Page.{page_at}
use Rattle.fetch.specs.Into.{begun}
use Rattle.fetch.proofs.Pages.{page_none, page_there}
use Rattle.fetch.proofs.View.add_page.Goals as goal

pub page_data-requires : goal.page_data-requires
unfolding none
page_data-requires c = (c.args.self.now.chips_fit, c.requires.1, c.requires.2 c.if-p-ne-NONE.true)

pub returns-then-p-ne-NONE : goal.returns-then-p-ne-NONE
unfolding none
returns-then-p-ne-NONE c =
    let a = c.args in
    let v = a.self.now in
    page_there (layout_of v.g) (page_at (layout_of v.g) v.chips.now) a.c a.p (begun a.fresh a.work.now) c.if-p-ne-NONE.true
    (c.add.ensures ∙ ap (λ x. begun a.fresh a.work.now ⊕ x) c.page_data.ensures.0)

pub returns : goal.returns
unfolding none
returns c =
    let a = c.args in
    let v = a.self.now in
    let h = page_none (layout_of v.g) (page_at (layout_of v.g) v.chips.now) a.c a.p (begun a.fresh a.work.now) c.if-p-ne-NONE.false in
    (c.add_none.ensures ∙ h.0, h.1, h.2)
