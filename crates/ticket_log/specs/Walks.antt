-- What a walk of the log tells.
use Rattle.std.specs.Prelude.{ℕ, ◌/◌, ◌^◌, ◌≤◌, ◌<◌, ◌≡◌, Bool, true, false, not, cond, ◌&&◌, List, length, eqb, Option, Some, None}
use Rattle.ranges.specs.Look.{all_below, last_below, when_found}
use Rattle.octets.specs.Units.{unit}
use Rattle.layout.specs.Layout.{Layout}
use Rattle.layout.specs.Rotation.{member_of, stripe_of, parity_chip}
use Rattle.layout.specs.Images.{Images}
use Rattle.rules.specs.declared.Origin.{Origin}
use Rattle.rules.specs.declared.Origin.TheVariants.{Unwritten}
use Rattle.rules.specs.declared.Ticket.{Ticket}
use Rattle.rules.specs.declared.Weight.{Weight}
use Rattle.rules.specs.Read.{fetch}
use Rattle.rules.specs.Origins.{origin_numbered}
use Rattle.rules.specs.Tickets.{ticket_bytes, ticket_of, is_empty, ticket_sound, is_for, weight_of}
use Rattle.rules.specs.Log.{carried, contents, origins, log_end, log_sound, log_reads, standing, log_origin}
use Rattle.ticket_log.specs.declared.Shown.{Shown}
use Rattle.ticket_log.specs.declared.Latest.{Latest}
use Rattle.ticket_log.specs.declared.Position.{Position}
use Rattle.ticket_log.specs.declared.Looked.{Looked}
use Rattle.ticket_log.specs.declared.Walk.{Walk}

-- the walk of a store's log, for a lot and bag; of one with a ticket that breaks the rules it tells nothing
abbrev pub walk_of : Layout → Images → ℕ → ℕ → ℕ → Option Walk
walk_of l s lost lot bag =
    cond (log_sound l (contents l s lost))
    (Some (record {
      end = log_end l (contents l s lost);
      reads = log_reads l s lost;
      standing = standing l (contents l s lost) lot bag;
      origin = log_origin l (contents l s lost) (origins l s lost) lot bag;
    }))
    None

-- the tickets of a page
abbrev pub tickets_in : List ℕ → ℕ → Ticket
tickets_in page t = ticket_of (unit ticket_bytes t page)

-- ticket t of a page is sound and not for the lot and bag
unfoldable pub is_plain : List ℕ → ℕ → ℕ → ℕ → Bool
is_plain page lot bag t = ticket_sound (tickets_in page t) && not (is_for lot bag (tickets_in page t))

-- of the tickets x 0, x 1, .. the first n are sound, and this is the latest of them for the lot and bag
pub record Seen (x : ℕ → Ticket) (lot bag n : ℕ) (latest : Option ℕ) : Type 0 where
  pub sound : all_below n (λ t. ticket_sound (x t)) ≡ true
  pub told : latest ≡ last_below n (λ t. is_for lot bag (x t))

-- what a look at the tickets of a page tells
pub record PageShows (page : List ℕ) (lot bag : ℕ) (r : Shown) : Type 0 where
  pub seen : Seen (tickets_in page) lot bag r.kept r.latest
  pub few : r.kept ≤ length page / ticket_bytes
  pub next : r.kept < length page / ticket_bytes → ticket_sound (tickets_in page r.kept) ≡ false
  pub ends : r.kept < length page / ticket_bytes → r.ended ≡ is_empty (tickets_in page r.kept)
  pub over : r.kept ≡ length page / ticket_bytes → r.ended ≡ true

-- what the latest ticket for the lot and bag lets stand, and how its page was got
pub record Held : Type 0 where
  pub standing : Option Weight
  pub origin : Origin

-- of this ticket
abbrev pub held_by : Ticket → Origin → Held
held_by t o = record { standing = weight_of t; origin = o }

-- as the code has it: "if it is a weight, else none"
abbrev pub held_from : Latest → Held
held_from x =
    record {
      standing = cond (eqb x.kind 1) (Some (record { gross = x.gross; tare = x.tare })) None;
      origin = origin_numbered x.origin;
    }

-- before the first ticket
abbrev pub nothing_held : Held
nothing_held = record { standing = None; origin = Unwritten }

-- a log whose tickets are sound, with the greatest origin of its pages
abbrev pub whole : Option ℕ → ℕ → Latest → Origin → Walk
whole end reads x greatest =
    record {
      end = end;
      reads = reads;
      standing = (held_from x).standing;
      origin = carried (held_from x).standing (held_from x).origin greatest;
    }

-- logical page i, and the chip of its stripe's parity
abbrev pub position_of : Layout → ℕ → Position
position_of l i = record { page = i; stripe = stripe_of l i; member = member_of l i; parity = parity_chip l (stripe_of l i) }

-- page i of a store, looked at
pub record PageLooked (l : Layout) (s : Images) (lost lot bag i : ℕ) (before : Latest) (r : Looked) : Type 0 where
  pub long : length (contents l s lost i) ≡ l.W
  pub shows : PageShows (contents l s lost i) lot bag r.shown
  pub reads : r.reads ≡ (fetch l s lost i).reads
  pub few : r.reads ≤ 7
  pub origin : r.origin ≡ origins l s lost i
  pub stands : held_from r.latest ≡ when_found r.shown.latest (λ k. held_by (tickets_in (contents l s lost i) k) (origins l s lost i)) (held_from before)

-- what the walk of a store's log tells; no count is near a word's end
pub record Walked (l : Layout) (s : Images) (lost lot bag : ℕ) (r : Option Walk) : Type 0 where
  pub tells : r ≡ walk_of l s lost lot bag
  pub few : (x : Walk) → r ≡ Some x → x.reads < 2 ^ 32
