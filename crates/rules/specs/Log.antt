-- Document 02, 1, "Tickets inside the pages": the log, over any function f from a logical page to its bytes. What a store reads is one, the
-- price book another.
use Rattle.std.specs.Prelude.{ℕ, ◌+◌, ◌*◌, ◌/◌, ◌%◌, Bool, true, false, List, [], Option, Some, None}
use Rattle.ranges.specs.Look.{all_below, first_below, last_below, sum_below, when_found}
use Rattle.octets.specs.Units.{unit, unit_put}
use Rattle.layout.specs.Layout.{Layout}
use Rattle.layout.specs.Images.{Images}
use Rattle.steps.specs.Steps.{Step}
use Rattle.rules.specs.declared.Ticket.{Ticket}
use Rattle.rules.specs.declared.Weight.{Weight}
use Rattle.rules.specs.declared.Origin.{Origin}
use Rattle.rules.specs.declared.Origin.TheVariants.{Unwritten}
use Rattle.rules.specs.Read.{fetch}
use Rattle.rules.specs.Origins.{greatest_origin}
use Rattle.rules.specs.Write.{write_steps}
use Rattle.rules.specs.Tickets.{ticket_bytes, ticket_of, is_empty, ticket_sound, is_for, weight_of}

-- a ticket that is given carries the one, "any other reading of the log" the other
abbrev pub carried : Option Weight → Origin → Origin → Origin
carried (Some w) its any = its
carried None its any = any

module _ (l : Layout) where
  open l use {N, W, S}

  -- the tickets of a page
  abbrev pub per_page : ℕ
  per_page = W / ticket_bytes

  -- those of all pages
  abbrev pub places : ℕ
  places = N * S * per_page

  -- the page that place t falls in
  abbrev pub falls_in : ℕ → ℕ
  falls_in t = t / per_page

  module _ (f : ℕ → List ℕ) where
    -- "Tickets fill the pages in order": the bytes at place t
    unfoldable pub bytes_at : ℕ → List ℕ
    bytes_at t = unit ticket_bytes (t % per_page) (f (falls_in t))

    -- the ticket there
    abbrev pub ticket_at : ℕ → Ticket
    ticket_at t = ticket_of (bytes_at t)

    -- "the log ends at the first of kind 0"
    unfoldable pub log_end : Option ℕ
    log_end = first_below places (λ t. is_empty (ticket_at t))

    -- the tickets before the end; "a log that fills every page" has no end
    unfoldable pub log_length : ℕ
    log_length = when_found log_end (λ t. t) places

    -- no ticket "found before the log's end" breaks the rules
    unfoldable pub log_sound : Bool
    log_sound = all_below log_length (λ t. ticket_sound (ticket_at t))

    -- not "a log that fills every page"
    unfoldable pub log_open : Bool
    log_open = when_found log_end (λ t. true) false

    -- "Of tickets with one lot and bag, the latest in the log stands"
    unfoldable pub latest : ℕ → ℕ → Option ℕ
    latest lot bag = last_below log_length (λ t. is_for lot bag (ticket_at t))

    -- "asked for lot and bag, the store gives the one standing if it is a weight, else none"
    unfoldable pub standing : ℕ → ℕ → Option Weight
    standing lot bag = when_found (latest lot bag) (λ t. weight_of (ticket_at t)) None

    -- "each page up to and including the log's end"
    unfoldable pub log_pages : ℕ
    log_pages = when_found log_end (λ t. falls_in t + 1) (N * S)

    -- document 02, 2, where o tells how each page was got: "a ticket given carries its page's, any other reading of the log the last in that
    -- order among its pages"
    unfoldable pub log_origin : (ℕ → Origin) → ℕ → ℕ → Origin
    log_origin o lot bag =
        carried (standing lot bag) (when_found (latest lot bag) (λ t. o (falls_in t)) Unwritten) (greatest_origin log_pages o)

    -- "Adding one rewrites the page it falls in, other bytes kept": that page with the ticket at place t
    unfoldable pub with_ticket : List ℕ → ℕ → List ℕ
    with_ticket ticket t = unit_put ticket_bytes (t % per_page) ticket (f (falls_in t))

  -- what the pages of a store read as
  abbrev pub contents : Images → ℕ → ℕ → List ℕ
  contents s lost i = (fetch l s lost i).bytes

  -- how they are got
  abbrev pub origins : Images → ℕ → ℕ → Origin
  origins s lost i = (fetch l s lost i).origin

  -- "counts the reads of each page up to and including the log's end once"
  unfoldable pub log_reads : Images → ℕ → ℕ
  log_reads s lost = sum_below (log_pages (contents s lost)) (λ i. (fetch l s lost i).reads)

  -- "Adding one rewrites the page it falls in"
  unfoldable pub add_steps : ℕ → List ℕ → Images → List Step
  add_steps lost ticket s =
      when_found (log_end (contents s lost)) (λ t. write_steps l (falls_in t) (with_ticket (contents s lost) ticket t) s) []
