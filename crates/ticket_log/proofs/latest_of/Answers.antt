-- The latest ticket of the page, or the one before it.
use Prim.Native.Nat.{ℕ, ◌≤◌}
use mathlib.Core.Path.{◌≡◌, refl, ap, ap₂, ◌∙◌}
use lib.Dec.{lit≤}
use Rattle.rules.specs.declared.Origin.{Origin}
use Rattle.rules.specs.declared.Origin.TheVariants.{Unwritten, Direct, Partial, Full}
use Rattle.rules.specs.declared.Ticket.{Ticket}
use Rattle.ranges.specs.Look.{when_found}
use Rattle.rules.specs.Origins.{origin_number, origin_numbered}
use Rattle.ticket_log.specs.Walks.{held_by}
use borrow.Author.Rules.{rules}
use Rattle.ticket_log.proofs.latest_of.Goals as goal

-- the number of an origin is small, and tells it
numbered : (o : Origin) → (origin_number o ≤ 3) × (origin_numbered (origin_number o) ≡ o)
numbered Unwritten = (lit≤ tt, refl)
numbered Direct = (lit≤ tt, refl)
numbered Partial = (lit≤ tt, refl)
numbered Full = (lit≤ tt, refl)

pub ticket_in-t-requires : goal.ticket_in-t-requires
ticket_in-t-requires c = c.requires c.in-Some.i c.in-Some.is

pub overflow_cast-number : goal.overflow_cast-number
overflow_cast-number c = search (rules, (numbered c.args.origin).0)

pub returns-in-Some : goal.returns-in-Some
unfolding when_found
returns-in-Some c =
    let a = c.args in
    let is = ap (λ (n : ℕ). origin_numbered n) c.origin_number-number.ensures ∙ (numbered a.origin).1 in
    rw c.in-Some.is (ap₂ (λ (t : Ticket) (o : Origin). held_by t o) c.ticket_in-t.ensures is)

pub returns-in-None : goal.returns-in-None
unfolding when_found
returns-in-None c = rw c.in-None.is
