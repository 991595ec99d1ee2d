-- The loop's invariant: the first i tags and stripes are those from the first spare on, one for each page.
use Prim.Native.Nat.{◌+◌}
use mathlib.Core.Path.{◌≡◌}
use lib.ListN.{length}
use Rattle.codec.proofs.Fetching.{Filled, TagAt, StripeAt}
use Rattle.codec.proofs.scan.fetch_stamps.Given as goal

abbrev pub invariant-loop-i : goal.invariant-loop-i
invariant-loop-i l = (length l.tags ≡ 128) × (length l.stripes ≡ 128)
    × Filled (TagAt l.chips l.start (l.w + 8)) l.tags l.i × Filled (StripeAt l.chips l.start (l.w + 8)) l.stripes l.i
