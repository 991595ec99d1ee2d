-- What the code relies on once geometry and buffers are checked: rows 1 and 2 of the table.
use Rattle.std.specs.Prelude.{◌≡◌, true, List, ℕ, length}
use Rattle.layout.specs.declared.Geometry.{Geometry}
use Rattle.layout.specs.Layout.{layout_of, limits}
use Rattle.layout.specs.Images.{chips_length, records_length, slots_length}

-- the geometry is within the limits, and the chip image has its length
pub record ChipsFit (g : Geometry) (chips : List ℕ) : Type 0 where
  pub limited : limits (layout_of g) ≡ true
  pub long : length chips ≡ chips_length (layout_of g)

-- the same of the records
pub record RecordsFit (g : Geometry) (records : List ℕ) : Type 0 where
  pub limited : limits (layout_of g) ≡ true
  pub long : length records ≡ records_length (layout_of g)

-- the same of the slots
pub record SlotsFit (g : Geometry) (slots : List ℕ) : Type 0 where
  pub limited : limits (layout_of g) ≡ true
  pub long : length slots ≡ slots_length (layout_of g)
