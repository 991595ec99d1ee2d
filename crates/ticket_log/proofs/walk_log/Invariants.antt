-- The pages before the position neither end the log nor break its rules; the next one was looked at.
use Prim.Native.Nat.{◌-◌}
use mathlib.Core.Path.{◌≡◌}
use lib.ListN.{length}
use Rattle.layout.specs.Layout.{layout_of}
use Rattle.steps.specs.Allowance.{images}
use Rattle.ticket_log.specs.Walks.{position_of}
use Rattle.ticket_log.proofs.Walking.{Going}
use Rattle.ticket_log.proofs.walk_log.Given as goal

abbrev pub invariant-loop-at : goal.invariant-loop-at
invariant-loop-at l =
    let v = l.view in
    (length l.work ≡ v.g.w) × (l.at ≡ position_of (layout_of v.g) l.at.page) × Going (layout_of v.g) (images v.chips.now v.records.now v.slots.now) l.lost l.lot l.bag l.latest l.greatest l.reads l.at.page

abbrev pub decreases-loop-at : goal.decreases-loop-at
decreases-loop-at l = l.pages - l.at.page
