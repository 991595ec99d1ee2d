-- The part that is lent is the page, and comes back as its bytes.
use native.Mathlib.Nat.{add-sub_cancel_left}
use Rattle.octets.specs.Units.{put, unit_put}
use Rattle.steps.specs.Store.{programmed}
use Rattle.codec.proofs.put.put_page.Goals as goal

pub returns : goal.returns
unfolding programmed unit_put put
returns c = rw (c.fill_page.ensures c.args.g, add-sub_cancel_left, c.page_offset-a.ensures.0)
