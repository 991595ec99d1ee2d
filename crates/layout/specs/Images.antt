-- Document 01: "the three lent images", their lengths, and the slots.
use Rattle.std.specs.Prelude.{ℕ, ◌+◌, ◌*◌, Bool, ◌&&◌, List, length, eqb}
use Rattle.octets.specs.Units.{unit}
use Rattle.layout.specs.Layout.{Layout, pages, page_bytes, record_bytes}

-- "the three lent images"
pub record Images : Type 0 where
  pub chips : List ℕ
  pub records : List ℕ
  pub slots : List ℕ

module _ (l : Layout) where
  open l use {N, W, S, M}

  -- "N + 1 chips end to end, each B × K pages of W + 8 bytes"
  unfoldable pub chips_length : ℕ
  chips_length = (N + 1) * pages l * page_bytes l

  -- "S + 1 records of 32 bytes, no header"
  unfoldable pub records_length : ℕ
  records_length = (S + 1) * record_bytes l

  -- "M + 1 pages of W bytes holding partial parities"
  unfoldable pub slots_length : ℕ
  slots_length = (M + 1) * W

  -- each image has its length: row 2 of the table, "an image has another length"
  unfoldable pub lengths : Images → Bool
  lengths s =
      eqb (length s.chips) chips_length
      && eqb (length s.records) records_length
      && eqb (length s.slots) slots_length

  -- slot i
  unfoldable pub slot_at : List ℕ → ℕ → List ℕ
  slot_at slots i = unit W i slots
