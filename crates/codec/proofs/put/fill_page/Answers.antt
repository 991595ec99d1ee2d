-- The data in front and the spare bytes behind them are the page.
use native.Mathlib.Nat.{add-sub_cancel_left}
use Rattle.octets.specs.Units.{put}
use Rattle.codec.proofs.Offsets.{page_filled}
use Rattle.codec.proofs.put.fill_page.Goals as goal

pub returns : goal.returns
unfolding put
returns c g =
    rw (c.copy.ensures, c.fill_spare.ensures, add-sub_cancel_left)
    (page_filled g c.args.bytes.now c.args.page.now c.args.t c.requires.0)
