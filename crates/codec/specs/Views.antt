-- The code's own structs as the definitions see them.
use Rattle.std.specs.Prelude.{ℕ, ◌+◌, ◌<◌, cond, ◌≡◌, List, [], ◌∷◌, ◌++◌, get_or, replicate, ltb}
use Rattle.octets.specs.Number.{number, digits}
use Rattle.octets.specs.Units.{part}
use Rattle.layout.specs.Layout.{Layout, none}
use Rattle.layout.specs.Page.{Page, blank_tail}
use Rattle.layout.specs.Record.{Record}
use Rattle.layout.specs.Collection.{Collection}
use Rattle.codec.specs.declared.StripeRecord.{StripeRecord}
use Rattle.codec.specs.declared.CollectionRecord.{CollectionRecord}
use Rattle.codec.specs.declared.Spare.{Spare}

module _ (l : Layout) where
  -- six numbers, and none beyond them
  unfoldable pub six_of : List ℕ → ℕ → ℕ
  six_of xs m = cond (ltb m 6) (get_or xs m 0) (none l)

  -- the record that the code's struct stands for; the bytes after it are 0
  unfoldable pub record_from : StripeRecord → Record
  record_from e =
      record {
        current = six_of e.current;
        old = six_of e.old;
        parity = e.parity;
        bitmap = e.bitmap;
        slot = e.slot;
        rest = 0;
      }

-- a record, ended by zeros
unfoldable pub ended : Record → Record
ended r = record { current = r.current; old = r.old; parity = r.parity; bitmap = r.bitmap; slot = r.slot; rest = 0 }

-- the collection record that the code's struct stands for; the bytes after it are 0
abbrev pub collection_from : CollectionRecord → Collection
collection_from co =
    record {
      phase = co.phase;
      chip = co.chip;
      victim = co.victim;
      destination = co.destination;
      rest = 0;
    }

-- what the spare bytes of a page say, but for its tail
abbrev pub spare_of : Page → Spare
spare_of x = record { kind = x.kind; member = x.member; stripe = x.stripe; copied = x.copied }

-- the page that is programmed with some data and a spare
abbrev pub page_from : Layout → List ℕ → Spare → Page
page_from l xs t =
    record {
      bytes = xs;
      kind = t.kind;
      member = t.member;
      stripe = t.stripe;
      copied = t.copied;
      tail = blank_tail l;
    }

-- its spare bytes
abbrev pub spare_from : Spare → List ℕ
spare_from t = t.kind ∷ t.member ∷ (digits 2 t.stripe ++ (digits 2 t.copied ++ replicate 2 255))

-- the six numbers of two bytes at offset a
abbrev pub six_at : ℕ → List ℕ → List ℕ
six_at a xs =
    number (part a 2 xs)
    ∷ number (part (a + 2) 2 xs)
    ∷ number (part (a + 4) 2 xs)
    ∷ number (part (a + 6) 2 xs)
    ∷ number (part (a + 8) 2 xs)
    ∷ number (part (a + 10) 2 xs)
    ∷ []

-- the fields of a record are in the range of their bytes
pub record SmallRecord (e : StripeRecord) : Type 0 where
  pub current : (m : ℕ) → get_or e.current m 0 < 65536
  pub old : (m : ℕ) → get_or e.old m 0 < 65536
  pub parity : e.parity < 65536
  pub bitmap : e.bitmap < 256
  pub slot : e.slot < 256

-- the fields of a spare are in the range of their bytes
pub record SmallSpare (t : Spare) : Type 0 where
  pub kind : t.kind < 256
  pub member : t.member < 256
  pub stripe : t.stripe < 65536
  pub copied : t.copied < 65536

-- the struct has the fields of the collection record
pub record CollectionIs (t : CollectionRecord) (co : Collection) : Type 0 where
  pub phase : t.phase ≡ co.phase
  pub chip : t.chip ≡ co.chip
  pub victim : t.victim ≡ co.victim
  pub destination : t.destination ≡ co.destination
  pub phase_small : t.phase < 256
  pub chip_small : t.chip < 256
  pub victim_small : t.victim < 65536
  pub destination_small : t.destination < 65536
