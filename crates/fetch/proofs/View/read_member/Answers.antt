-- The data of a page fit the work page. The member is fetched into the buffer or, where its chip is lost, to the front of the work page.
use Rattle.layout.specs.Layout.{layout_of}
use Rattle.layout.proofs.Limits.{within}
use Rattle.fetch.proofs.View.read_member.Goals as goal

pub returns-then-member_chip-lost : goal.returns-then-member_chip-lost
returns-then-member_chip-lost c = c.fetch_member.ensures.0

pub slice_bounds-work-end : goal.slice_bounds-work-end
slice_bounds-work-end c =
    let v = c.args.self.now in
    (within (layout_of v.g) v.chips_fit.limited).bytes_high
