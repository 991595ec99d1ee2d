-- One page of a stripe, fetched in its role: what a read, a write, a commit and a copy take from the chips. y gives the pages of each
-- chip, z the slots, and r is the record of stripe j.
use Rattle.std.specs.Prelude.{ℕ, ◌+◌, Bool, true, cond, not, ◌&&◌, List, [], eqb}
use Rattle.ranges.specs.Look.{sum_below}
use Rattle.octets.specs.Xor.{◌⊕◌, xor_below}
use Rattle.layout.specs.Layout.{Layout, none, no_chip, is_none}
use Rattle.layout.specs.Rotation.{parity_chip, member_chip}
use Rattle.layout.specs.Page.{Page, page_at}
use Rattle.layout.specs.Record.{Record, record_at, bit}
use Rattle.layout.specs.Images.{Images, slot_at}
use Rattle.steps.specs.Store.{Store}
use Rattle.steps.specs.Steps.{Step}
use Rattle.rules.specs.declared.Role.{Role}
use Rattle.rules.specs.declared.Role.TheVariants.{Current, Old, Parity}
use Rattle.rules.specs.declared.Origin.{Origin}
use Rattle.rules.specs.declared.Origin.TheVariants.{Unwritten, Direct, Partial, Full}

-- what a page is found to hold, the pages read for it, and how it was got
pub record Fetched : Type 0 where
  pub bytes : List ℕ
  pub reads : ℕ
  pub origin : Origin

-- what a store is fed with: bytes, and the pages read for them
pub record Feed : Type 0 where
  pub bytes : List ℕ
  pub reads : ℕ

-- a page that was fetched
abbrev pub as_feed : Fetched → Feed
as_feed x = record { bytes = x.bytes; reads = x.reads }

-- a page that was put together from others
abbrev pub through : Origin → Feed → Fetched
through origin x = record { bytes = x.bytes; reads = x.reads; origin = origin }

-- bytes at hand, for which no page is read
abbrev pub given : List ℕ → Feed
given xs = record { bytes = xs; reads = 0 }

-- the XOR of two
abbrev pub xored : Feed → Feed → Feed
xored a b = record { bytes = a.bytes ⊕ b.bytes; reads = a.reads + b.reads }

-- a step takes its reads from what its store is fed with
abbrev pub fed : Feed → (List ℕ → Store) → Step
fed x f = record { reads = x.reads; store = f x.bytes }

module _ (l : Layout) where
  open l use {N}

  -- page p of chip c as it stands: "a page number of none adds zeros and no read"
  unfoldable pub itself : (ℕ → ℕ → Page) → ℕ → ℕ → Fetched
  itself y c p =
      cond (is_none l p)
      (record { bytes = []; reads = 0; origin = Unwritten })
      (record { bytes = (y c p).bytes; reads = 1; origin = Direct })

  -- the XOR over the members that are chosen
  unfoldable pub members_feed : (ℕ → Bool) → (ℕ → Feed) → Feed
  members_feed chosen f =
      record {
        bytes = xor_below N (λ m. cond (chosen m) (f m).bytes []);
        reads = sum_below N (λ m. cond (chosen m) (f m).reads 0);
      }

  -- over all members of stripe j, each with its page f m as it stands
  unfoldable pub gathered : (ℕ → ℕ → Page) → ℕ → (ℕ → ℕ) → Feed
  gathered y j f = members_feed (λ m. true) (λ m. as_feed (itself y (member_chip l j m) (f m)))

  -- the chip of a page of stripe j
  abbrev pub chip_in : ℕ → Role → ℕ
  chip_in j (Current m) = member_chip l j m
  chip_in j (Old m) = member_chip l j m
  chip_in j Parity = parity_chip l j

  -- its number in the record
  abbrev pub number_in : Record → Role → ℕ
  number_in r (Current m) = r.current m
  number_in r (Old m) = r.old m
  number_in r Parity = r.parity

  -- the stored parity is the XOR of these: "old page of each set member", "current page of each .. clear one"
  unfoldable pub under_parity : Record → ℕ → ℕ
  under_parity r m = cond (bit r m) (r.old m) (r.current m)

  -- the same but for member m
  unfoldable pub others_under_parity : ℕ → Record → ℕ → ℕ
  others_under_parity m r i = cond (eqb i m) (none l) (under_parity r i)

  -- "the other pages of the bitmap"
  unfoldable pub others_inside : ℕ → Record → ℕ → ℕ
  others_inside m r i = cond (bit r i && not (eqb i m)) (r.current i) (none l)

  module _ (y : ℕ → ℕ → Page) (z : ℕ → List ℕ) (j : ℕ) (r : Record) where
    -- "bit set, slot ⊕ the other pages of the bitmap"
    unfoldable pub through_partial : ℕ → Fetched
    through_partial m = through Partial (xored (given (z r.slot)) (gathered y j (others_inside m r)))

    -- "bit clear, parity page ⊕ old page of each set member ⊕ current page of each other clear one"
    unfoldable pub through_parity : ℕ → Fetched
    through_parity m =
        through Full (xored (as_feed (itself y (parity_chip l j) r.parity)) (gathered y j (others_under_parity m r)))

    -- the parity page from the pages under it
    unfoldable pub parity_anew : Fetched
    parity_anew = through Full (gathered y j (under_parity r))

    -- "On the lost chip, a written page is gathered"
    abbrev pub rebuilt : Role → Fetched
    rebuilt (Current m) = cond (bit r m) (through_partial m) (through_parity m)
    rebuilt (Old m) = through_parity m
    rebuilt Parity = parity_anew

    -- a page in its role, rebuilt where its chip is the lost one
    unfoldable pub fetch_role : ℕ → Role → Fetched
    fetch_role lost role =
        cond (eqb (chip_in j role) lost && not (is_none l (number_in r role))) (rebuilt role)
        (itself y (chip_in j role) (number_in r role))

    -- for a store; no chip is lost then
    abbrev pub feed_role : Role → Feed
    feed_role role = as_feed (fetch_role no_chip role)

  -- from the images
  unfoldable pub fetch_in : Images → ℕ → ℕ → Role → Fetched
  fetch_in s lost j role =
      fetch_role (page_at l s.chips) (slot_at l s.slots) j (record_at l s.records j) lost role

  -- the same for a store
  abbrev pub feed_in : Images → ℕ → Role → Feed
  feed_in s j role = feed_role (page_at l s.chips) (slot_at l s.slots) j (record_at l s.records j) role
