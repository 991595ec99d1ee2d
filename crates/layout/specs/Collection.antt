-- Document 01, "Records": the collection record, the last of the S + 1.
use Rattle.std.specs.Prelude.{ℕ, ◌-◌, List, ◌∷◌, ◌++◌, get_or}
use Rattle.octets.specs.Number.{number, digits}
use Rattle.octets.specs.Units.{part, unit}
use Rattle.layout.specs.Layout.{Layout, record_bytes}

-- "phase (0, 1, 2), chip, victim block (2 bytes), destination block (2 bytes), then zeros"
pub record Collection : Type 0 where
  pub phase : ℕ
  pub chip : ℕ
  pub victim : ℕ
  pub destination : ℕ
  -- the bytes after these, as one number
  pub rest : ℕ

-- "in phase 0 all zero"
abbrev pub idle : Collection
idle = record { phase = 0; chip = 0; victim = 0; destination = 0; rest = 0 }

module _ (l : Layout) where
  open l use {S}

  -- the collection record that 32 bytes hold
  unfoldable pub collection_of : List ℕ → Collection
  collection_of xs =
      record {
        phase = get_or xs 0 0;
        chip = get_or xs 1 0;
        victim = number (part 2 2 xs);
        destination = number (part 4 2 xs);
        rest = number (part 6 (record_bytes l - 6) xs);
      }

  -- the bytes of one that is stored
  unfoldable pub bytes_of_collection : Collection → List ℕ
  bytes_of_collection co =
      co.phase
      ∷ co.chip
      ∷ (digits 2 co.victim ++ (digits 2 co.destination ++ digits (record_bytes l - 6) co.rest))

  -- "The last record is the collection record"
  unfoldable pub collection_at : List ℕ → Collection
  collection_at records = collection_of (unit (record_bytes l) S records)
