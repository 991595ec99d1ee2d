-- Document 01, "Write": the new partial parity, and what a write of member m of stripe j stores at its place.
use Rattle.std.specs.Prelude.{ℕ, ◌+◌, ◌^◌, Bool, not, cond, List, [], ◌∷◌, Option}
use Rattle.std.specs.Int.Bits.{bit_or}
use Rattle.ranges.specs.Look.{some_below, first_below, when_found}
use Rattle.ranges.specs.Update.{at}
use Rattle.layout.specs.Layout.{Layout, none}
use Rattle.layout.specs.Rotation.{member_chip}
use Rattle.layout.specs.Page.{Page, data_kind, blank_tail}
use Rattle.layout.specs.Record.{Record, record_at, bit, has_slot, slot_of}
use Rattle.layout.specs.Images.{Images, slot_at}
use Rattle.steps.specs.Store.{program, slot, stripe}
use Rattle.steps.specs.Steps.{Step, plain, and_then}
use Rattle.rules.specs.declared.Role.{Role}
use Rattle.rules.specs.declared.Role.TheVariants.{Current}
use Rattle.rules.specs.Fetch.{Feed, given, xored, fed, feed_in}

module _ (l : Layout) where
  open l use {S, M}

  -- "kind (.. 68 data ..), member, stripe, copied-from page (.. 65,535 if no copy)"
  abbrev pub data_page : ℕ → ℕ → List ℕ → Page
  data_page j m xs =
      record { bytes = xs; kind = data_kind; member = m; stripe = j; copied = none l; tail = blank_tail l }

  -- slot i is free: no record names it
  abbrev pub free_slot : (ℕ → Record) → ℕ → Bool
  free_slot r i = not (some_below S (slot_of r i))

  -- "the lowest free slot"
  unfoldable pub lowest_free_slot : (ℕ → Record) → Option ℕ
  lowest_free_slot r = first_below (M + 1) (free_slot r)

  -- with the pages in their roles and the bytes of the slot: "the new partial parity: the data; or partial ⊕ data;
  -- or, if bit m was set, partial ⊕ current page ⊕ data (one page read)"
  unfoldable pub new_partial : (Role → Feed) → List ℕ → ℕ → List ℕ → Record → Feed
  new_partial page partial m xs r =
      cond (has_slot r)
      (cond (bit r m)
      (xored (xored (given partial) (page (Current m))) (given xs))
      (xored (given partial) (given xs)))
      (given xs)

  -- "Store record j: if the bit was clear, old becomes current; set bit, current, slot."
  unfoldable pub written : ℕ → ℕ → ℕ → Record → Record
  written m p i r =
      record {
        current = at m p r.current;
        old = cond (bit r m) r.old (at m (r.current m) r.old);
        parity = r.parity;
        bitmap = bit_or r.bitmap (2 ^ m);
        slot = i;
        rest = 0;
      }

  -- the stores of slot i and of record j, which is r, for a page that stands at p
  abbrev pub slot_stores : ℕ → ℕ → List ℕ → ℕ → Images → Record → ℕ → List Step
  slot_stores j m xs p s r i =
      fed (new_partial (feed_in l s j) (slot_at l s.slots r.slot) m xs r) (slot i)
      ∷ plain (stripe j (written m p i r))
      ∷ []

  -- "Store into the lowest free slot the new partial parity: .. Store record j: .."
  unfoldable pub slot_steps : ℕ → ℕ → List ℕ → ℕ → Images → List Step
  slot_steps j m xs p s =
      when_found (lowest_free_slot (record_at l s.records)) (slot_stores j m xs p s (record_at l s.records j)) []

  -- at the place p: "program it", then the slot and the record
  unfoldable pub write_at : ℕ → ℕ → List ℕ → ℕ → Images → List Step
  write_at j m xs p s =
      and_then l (plain (program (member_chip l j m) p (data_page j m xs)) ∷ []) (slot_steps j m xs p) s
