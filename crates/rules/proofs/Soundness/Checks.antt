-- The tests of "Sound images" pass exactly where the statements hold.
use Prim.Native.Nat.{ℕ, ◌+◌}
use mathlib.Core.Path.{◌≡◌}
use mathlib.Core.Bool.{true, Bool}
use mathlib.Core.List.{[], ◌∷◌}
use lib.ListN.{length}
use lib.Dec.{eqb}
use borrow.Author.Tests.{eqb-true, eq-eqb}
use Rattle.ranges.proofs.Looks.{all_true, all_at}
use Rattle.ranges.proofs.Tests.{chain_all, or_else, or_by}
use Rattle.layout.specs.Layout.{Layout}
use Rattle.layout.specs.Page.{page_at}
use Rattle.layout.specs.Record.{record_at}
use Rattle.layout.specs.Collection.{collection_at}
use Rattle.layout.specs.Images.{Images, lengths, chips_length, records_length, slots_length}
use Rattle.rules.specs.Sound.{chip_sound, spares_sound, sound_or_exempt}
use Rattle.rules.specs.Refusals.{records_check}
use Rattle.rules.proofs.Soundness.Statements.{SoundBut}
use Rattle.rules.proofs.Soundness.RecordChecks.{records_sound_lem, records_pass}
use Rattle.rules.proofs.Soundness.ChipChecks.{chip_sound_lem, chip_pass}

module _ (l : Layout) where
  open l use {N}

  -- the test of the lengths
  pub lengths_are : (s : Images) → lengths l s ≡ true
      → (length s.chips ≡ chips_length l) × (length s.records ≡ records_length l) × (length s.slots ≡ slots_length l)
  unfolding lengths
  lengths_are s e =
      let h = chain_all (eqb (length s.chips) (chips_length l)) (eqb (length s.records) (records_length l) ∷ eqb (length s.slots) (slots_length l) ∷ []) e in (
        eqb-true (length s.chips) (chips_length l) h.0,
        eqb-true (length s.records) (records_length l) h.1.0,
        eqb-true (length s.slots) (slots_length l) h.1.1.0,
      )

  -- rows 2, 4 and 5 of the refusals, one way and the other
  pub images_sound : (s : Images) (exempt : ℕ → Bool) → lengths l s ≡ true → records_check l s ≡ true
      → spares_sound l (record_at l s.records) (page_at l s.chips) (collection_at l s.records) exempt ≡ true → SoundBut l exempt s
  unfolding spares_sound
  images_sound s exempt long records spares =
      let r = record_at l s.records in
      let co = collection_at l s.records in
      let n = lengths_are s long in
      record {
        chips = n.0;
        records = n.1;
        slots = n.2;
        stripes = records_sound_lem l r co records;
        chip = λ c low d.
            chip_sound_lem l r (page_at l s.chips c) c co
            (or_else (exempt c) (chip_sound l r (page_at l s.chips c) c co) (all_at _ (sound_or_exempt l r (page_at l s.chips) co exempt) spares c low) d);
      }

  module _ (s : Images) (exempt : ℕ → Bool) (h : SoundBut l exempt s) where
    pub lengths_pass : lengths l s ≡ true
    unfolding lengths
    lengths_pass =
        rw (
          eq-eqb (length s.chips) (chips_length l) h.chips,
          eq-eqb (length s.records) (records_length l) h.records,
          eq-eqb (length s.slots) (slots_length l) h.slots,
        )

    pub records_check_pass : records_check l s ≡ true
    records_check_pass = records_pass l (record_at l s.records) (collection_at l s.records) h.stripes

    pub spares_check_pass : spares_sound l (record_at l s.records) (page_at l s.chips) (collection_at l s.records) exempt ≡ true
    unfolding spares_sound
    spares_check_pass =
        let r = record_at l s.records in
        let co = collection_at l s.records in
        all_true (N + 1) (sound_or_exempt l r (page_at l s.chips) co exempt)
        (λ c low. or_by (exempt c) (chip_sound l r (page_at l s.chips c) c co) (λ d. chip_pass l r (page_at l s.chips c) c co (h.chip c low d)))
