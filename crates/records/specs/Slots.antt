-- What the records tell of the slots, and what the pass over them knows on the way.
use Rattle.std.specs.Prelude.{ℕ, ◌+◌, ◌≡◌, Bool, true, false, not, List, get_or, eqb}
use Rattle.ranges.specs.Look.{all_below, some_below, count_below, least_so_far}
use Rattle.layout.specs.Layout.{Layout}
use Rattle.layout.specs.Record.{Record, slotted, slot_of}
use Rattle.rules.specs.Sound.{own_slot, sound_at}
use Rattle.rules.specs.Costs.{record_cost, cheapest}
use Rattle.rules.specs.Partial.{lowest_free_slot}
use Rattle.codec.specs.declared.StripeRecord.{StripeRecord}
use Rattle.codec.specs.Views.{record_from, ended}
use Rattle.records.specs.declared.SlotScan.{SlotScan}
use Rattle.records.specs.declared.Tally.{Tally}

-- how many records have a slot, the cheapest stripe to commit, and the lowest free slot
abbrev pub slot_scan : Layout → (ℕ → Record) → SlotScan
slot_scan l r = record { slotted = count_below l.S (slotted r); cheapest = cheapest l r; free = lowest_free_slot l r }

-- slot i is not marked
abbrev pub unmarked : List Bool → ℕ → Bool
unmarked marks i = not (get_or marks i false)

-- the tally is that of the records below j
pub record Tallied (l : Layout) (r : ℕ → Record) (j : ℕ) (t : Tally) : Type 0 where
  pub sounds : t.sound ≡ all_below j (sound_at l r)
  pub owns : t.own ≡ all_below j (own_slot r)
  pub counts : t.slotted ≡ count_below j (slotted r)
  pub cheap : t.cheapest ≡ least_so_far (slotted r) (record_cost l r) j

-- n is t with record j, which is e and ends in zeros or not, whatever the records before it are; taken, where one of them has its slot
pub record Adds (l : Layout) (j : ℕ) (e : StripeRecord) (ends taken : Bool) (t n : Tally) : Type 0 where
  pub adds : (r : ℕ → Record) → record_from l e ≡ ended (r j) → ends ≡ eqb (r j).rest 0 → (slotted r j ≡ true → taken ≡ some_below j (slot_of r (r j).slot))
      → Tallied l r j t → Tallied l r (j + 1) n
