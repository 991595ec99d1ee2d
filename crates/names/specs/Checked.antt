-- What the code relies on once the rows of the table about the images have passed.
use Rattle.std.specs.Prelude.{◌≡◌, true, List, ℕ}
use Rattle.layout.specs.declared.Geometry.{Geometry}
use Rattle.layout.specs.Layout.{layout_of, no_chip}
use Rattle.layout.specs.Page.{page_at}
use Rattle.layout.specs.Record.{record_at}
use Rattle.layout.specs.Collection.{collection_at}
use Rattle.rules.specs.Sound.{is_lost, records_sound, spares_sound}
use Rattle.codec.specs.Fit.{ChipsFit, RecordsFit}

-- row 4: the records are sound
pub record RecordsPass (g : Geometry) (records : List ℕ) : Type 0 where
  pub fit : RecordsFit g records
  pub pass : records_sound (layout_of g) (record_at (layout_of g) records) (collection_at (layout_of g) records) ≡ true

-- rows 4 and 5, with the lost chip
pub record Checked (g : Geometry) (lost : ℕ) (chips records : List ℕ) : Type 0 where
  pub chips_fit : ChipsFit g chips
  pub records_pass : RecordsPass g records
  pub spares_pass :
      spares_sound (layout_of g) (record_at (layout_of g) records) (page_at (layout_of g) chips) (collection_at (layout_of g) records) (is_lost lost)
      ≡ true

-- and row 6, with no chip lost: no collection is under way
pub record Settled (g : Geometry) (chips records : List ℕ) : Type 0 where
  pub checked : Checked g no_chip chips records
  pub at_rest : (collection_at (layout_of g) records).phase ≡ 0
