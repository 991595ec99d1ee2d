-- The next member of the stripe, or the first of the next stripe.
use Prim.Native.Nat.{◌*◌, ◌≤◌}
use Rattle.layout.specs.Layout.{Layout, layout_of}
use Rattle.layout.proofs.Limits.{Within, within}
use Rattle.ticket_log.proofs.Walking.{pages_few, position_same, position_next, at_stripe, at_member}
use borrow.Author.Rules.{rules}
use Rattle.ticket_log.proofs.next_page.Goals as goal

pub overflow_add-member : goal.overflow_add-member
overflow_add-member c =
    let layout : Layout = layout_of c.args.g in
    let inside : Within layout = within layout c.requires.0 in
    search (rules, at_member layout inside c.requires.1, inside.members_high)

pub overflow_add-result : goal.overflow_add-result
overflow_add-result c =
    let layout : Layout = layout_of c.args.g in
    let inside : Within layout = within layout c.requires.0 in
    let few-pages : c.args.g.n * c.args.g.s ≤ 393210 = pages_few layout inside in
    search (rules, few-pages, c.requires.2)

pub returns-then-member-g : goal.returns-then-member-g
returns-then-member-g c =
    let layout : Layout = layout_of c.args.g in
    let inside : Within layout = within layout c.requires.0 in
    position_same layout inside c.requires.1 c.if-member-g.true

pub overflow_add-stripe : goal.overflow_add-stripe
overflow_add-stripe c =
    let layout : Layout = layout_of c.args.g in
    let inside : Within layout = within layout c.requires.0 in
    search (rules, at_stripe layout inside c.requires.1 c.requires.2, inside.stripes_high)

pub overflow_add-result-2 : goal.overflow_add-result-2
overflow_add-result-2 c =
    let layout : Layout = layout_of c.args.g in
    let inside : Within layout = within layout c.requires.0 in
    let few-pages : c.args.g.n * c.args.g.s ≤ 393210 = pages_few layout inside in
    search (rules, few-pages, c.requires.2)

pub returns : goal.returns
returns c =
    let layout : Layout = layout_of c.args.g in
    let inside : Within layout = within layout c.requires.0 in
    position_next layout inside c.requires.1 c.if-member-g.false c.parity_chip.ensures.0
