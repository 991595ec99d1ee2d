-- What the tests of `Checked` say as statements, and the tests from the statements.
use Prim.Native.Nat.{ℕ, ◌+◌, ◌≤◌}
use native.Mathlib.Omega.{arith}
use mathlib.Core.Path.{◌≡◌}
use mathlib.Core.Bool.{true, cond}
use mathlib.Core.List.{List, [], ◌∷◌}
use lib.ListN.{length, replicate, length-replicate}
use lib.Dec.{eqb}
use borrow.Author.Tests.{eq-eqb}
use Rattle.ranges.specs.Look.{all_below, some_below}
use Rattle.ranges.proofs.Looks.{all_at}
use Rattle.ranges.proofs.Tests.{chain_all, unless_equal}
use Rattle.layout.specs.declared.Geometry.{Geometry}
use Rattle.layout.specs.Layout.{Layout, layout_of, limits, no_chip}
use Rattle.layout.specs.Page.{Page, page_at}
use Rattle.layout.specs.Record.{Record, record_at}
use Rattle.layout.specs.Collection.{Collection, collection_at}
use Rattle.layout.specs.Images.{Images, lengths, chips_length, records_length, slots_length}
use Rattle.layout.proofs.Limits.{Within, within as in_limits}
use Rattle.steps.specs.Allowance.{images}
use Rattle.rules.specs.Blocks.{clean_block, ordered_block}
use Rattle.rules.specs.Sound.{collecting, stamped_stripe, phase1_sound, phase2_sound, chip_sound, sound_or_exempt, spares_sound, is_lost}
use Rattle.rules.proofs.Soundness.Statements.{Usable, RecordsSound, ChipSound, Sound}
use Rattle.rules.proofs.Soundness.RecordChecks.{records_sound_lem}
use Rattle.rules.proofs.Soundness.ChipChecks.{chip_sound_lem}
use Rattle.rules.proofs.Soundness.Checks.{images_sound, records_check_pass, spares_check_pass}
use Rattle.names.specs.Stamps.{StampsPass}
use Rattle.names.specs.Checked.{Checked}

-- the tests of a chip: its named pages are rightly stamped, and in no block a used page follows a clean one
chip_tests : (l : Layout) (r : ℕ → Record) (x : ℕ → Page) (c : ℕ) (co : Collection) → chip_sound l r x c co ≡ true
    → (all_below l.S (stamped_stripe l r x c) ≡ true) × (all_below l.B (ordered_block l x) ≡ true)
unfolding chip_sound
chip_tests l r x c co e =
    let phase =
    cond (collecting co c)
    (cond (eqb co.phase 1) (phase1_sound l r c co.destination) (phase2_sound l r x c co.victim co.destination))
    (some_below l.B (clean_block l x)) in
    let h = chain_all (all_below l.S (stamped_stripe l r x c)) (all_below l.B (ordered_block l x) ∷ phase ∷ []) e in
    (h.0, h.1.0)

module _ (g : Geometry) (chips records : List ℕ) (h : Checked g no_chip chips records) where
  abbrev l : Layout
  l = layout_of g

  abbrev r : ℕ → Record
  r = record_at l records

  abbrev co : Collection
  co = collection_at l records

  -- the geometry is within the limits
  pub within : Within l
  within = in_limits l h.chips_fit.limited

  -- and its page numbers are of two bytes
  pub usable : Usable l
  usable = record { within = within; some = omega arith; narrow = omega arith }

  -- the records are sound, and with them the collection record
  pub stripes : RecordsSound l r co
  stripes = records_sound_lem l r co h.records_pass.pass

  -- the test of each chip passes
  chip_test : (c : ℕ) → c ≤ g.n → chip_sound l r (page_at l chips c) c co ≡ true
  unfolding spares_sound
  chip_test c low =
      unless_equal c no_chip (chip_sound l r (page_at l chips c) c co)
      (all_at (g.n + 1) (sound_or_exempt l r (page_at l chips) co (is_lost no_chip)) h.spares_pass c (omega arith))
      (omega (arith, within.members_high))

  -- so each chip is sound
  pub chip_is_sound : (c : ℕ) → c ≤ g.n → ChipSound l r (page_at l chips c) c co
  chip_is_sound c low = chip_sound_lem l r (page_at l chips c) c co (chip_test c low)

  -- and its named pages are rightly stamped
  pub stamps_pass : (c : ℕ) → c ≤ g.n → StampsPass g chips records c
  stamps_pass c low = record {
    chips_fit = h.chips_fit;
    records_fit = h.records_pass.fit;
    chip = low;
    stamps = (chip_tests l r (page_at l chips c) c co (chip_test c low)).0;
  }

  -- and its blocks are in order
  pub chip_ordered : (c : ℕ) → c ≤ g.n → all_below g.b (ordered_block l (page_at l chips c)) ≡ true
  chip_ordered c low = (chip_tests l r (page_at l chips c) c co (chip_test c low)).1

  -- the images are sound, with any slots of their length
  pub sound : (zs : List ℕ) → length zs ≡ slots_length l → Sound l (images chips records zs)
  unfolding lengths
  sound zs e =
      images_sound l (images chips records zs) (is_lost no_chip)
      (rw (
        eq-eqb (length chips) (chips_length l) h.chips_fit.long,
        eq-eqb (length records) (records_length l) h.records_pass.fit.long,
        eq-eqb (length zs) (slots_length l) e,
      ))
      h.records_pass.pass h.spares_pass

-- there are slots of their length
pub some_slots : (l : Layout) → (zs : List ℕ) × (length zs ≡ slots_length l)
some_slots l = (replicate {A = ℕ} (slots_length l) 0, length-replicate {A = ℕ} (slots_length l) 0)

-- sound images pass the tests
pub checked : (g : Geometry) → limits (layout_of g) ≡ true → (s : Images) → Sound (layout_of g) s → Checked g no_chip s.chips s.records
checked g limited s f = record {
  chips_fit = record { limited = limited; long = f.chips };
  records_pass = record { fit = record { limited = limited; long = f.records }; pass = records_check_pass (layout_of g) s (is_lost no_chip) f };
  spares_pass = spares_check_pass (layout_of g) s (is_lost no_chip) f;
}
