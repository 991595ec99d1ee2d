-- What the look at the images brings.
use Rattle.std.specs.Prelude.{Result, ℕ, Ok, Err}
use Rattle.layout.specs.Layout.{Layout}
use Rattle.layout.specs.Page.{page_at}
use Rattle.layout.specs.Record.{record_at}
use Rattle.layout.specs.Images.{Images}
use Rattle.rules.specs.declared.Refusal.{Refusal}
use Rattle.rules.specs.Refusals.{Check}
use Rattle.records.specs.Slots.{slot_scan}
use Rattle.spares.specs.Scans.{chip_scans}
use Rattle.looks.specs.declared.Look.{Look}

-- rows below others count where those above have passed
abbrev pub below : Check → Check → Check
below (Ok tt) rest = rest
below (Err r) rest = Err r

-- where the rows pass: the scan of each chip but the lost one, and what the records tell of the slots; else their refusal
abbrev pub look_of : Layout → Images → ℕ → Check → Result Look Refusal
look_of l s lost (Ok tt) =
    Ok
    (record {
      chips = chip_scans l (record_at l s.records) (page_at l s.chips) lost l.B;
      slots = slot_scan l (record_at l s.records);
    })
look_of l s lost (Err r) = Err r
