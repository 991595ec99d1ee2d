-- The tickets before place i are plain where the loop says so.
use Prim.Native.Nat.{◌-◌, ◌≤◌}
use mathlib.Core.Path.{◌≡◌}
use Rattle.ranges.specs.Look.{all_below}
use Rattle.ticket_log.specs.Walks.{is_plain}
use Rattle.ticket_log.proofs.all_plain.Given as goal

abbrev pub invariant-loop-i : goal.invariant-loop-i
invariant-loop-i l = (l.i ≤ l.per_page) × (l.plain ≡ all_below l.i (is_plain l.page l.lot l.bag))

abbrev pub decreases-loop-i : goal.decreases-loop-i
decreases-loop-i l = l.per_page - l.i
