-- None where there is a place; else what the scan of the chip has found.
use mathlib.Core.Path.{◌∙◌}
use Rattle.ranges.specs.Look.{when_found}
use Rattle.space.specs.Victims.{victim_wanted}
use Rattle.space.proofs.Victims.{victim_found}
use Rattle.space.proofs.victim_on.Goals as goal

pub returns-in-Some : goal.returns-in-Some
unfolding victim_wanted when_found
returns-in-Some c = rw (← c.place_on.ensures, c.in-Some.is)

pub returns : goal.returns
unfolding victim_wanted when_found
returns c =
    rw (← c.place_on.ensures, c.in_default.is)
    (c.victim_in.ensures ∙ victim_found c.requires.1 c.scan_chip.ensures)
