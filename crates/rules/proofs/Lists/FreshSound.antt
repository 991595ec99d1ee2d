-- What a format leaves is sound: an empty record is sound and names nothing, and every page is clean.
use Prim.Native.Nat.{ℕ, ◌+◌, ◌<◌}
use native.Mathlib.Omega.{arith}
use mathlib.Core.Path.{◌≡◌, refl}
use mathlib.Core.Bool.{true, false}
use lib.Arith.{digits_lt}
use lib.Pow.{pow_pos}
use lib.Dec.{eqb}
use Rattle.ranges.proofs.Looks.{both, all_true}
use Rattle.ranges.proofs.Tests.{cond_same}
use Rattle.ranges.proofs.Counts.{count_zero}
use Rattle.layout.specs.Layout.{Layout, none, page_in}
use Rattle.layout.specs.Rotation.{parity_chip}
use Rattle.layout.specs.Page.{page_at}
use Rattle.layout.specs.Record.{bit, slotted, empty_record, record_at}
use Rattle.layout.specs.Collection.{collection_at}
use Rattle.layout.specs.Images.{Images}
use Rattle.layout.proofs.Limits.{Within}
use Rattle.layout.proofs.Bits.{test_bit, test_zero}
use Rattle.steps.proofs.View.{erased_clean}
use Rattle.rules.specs.Names.{main_number, side_number}
use Rattle.rules.specs.Blocks.{clean_in, clean_block}
use Rattle.rules.proofs.Soundness.Statements.{RecordSound, RecordsSound, ChipSound, Sound, idle_sound}
use Rattle.rules.proofs.Lists.Fresh.{Fresh}

module _ (l : Layout) where
  open l use {N, K, B, S}

  empty_sound : RecordSound l (empty_record l)
  unfolding empty_record bit
  empty_sound = record {
    member = λ m low.
        record {
          current = λ d. absurd (d refl);
          old = λ d. absurd (d refl);
          beyond = λ high. (refl, refl);
          old_under_bit_lem = λ d. absurd (d refl);
          current_under_bit_lem = λ t. both (test_bit 0 m) t (test_zero m);
          parity_under_old = λ d. absurd (d refl);
          parity_under_current = λ d. absurd (d refl);
        };
    parity = λ d. absurd (d refl);
    bitmap = pow_pos N;
    no_slot_lem = λ z. refl;
    slot = λ d. absurd (d refl);
    rest = refl;
  }

  main_empty : (c j : ℕ) → main_number l c j (empty_record l) ≡ none l
  unfolding main_number empty_record
  main_empty c j = cond_same (eqb c (parity_chip l j)) (none l)

  side_empty : (c j : ℕ) → side_number l c j (empty_record l) ≡ none l
  unfolding side_number empty_record
  side_empty c j = cond_same (eqb c (parity_chip l j)) (none l)

  module _ (w : Within l) (s : Images) (f : Fresh l s) where
    fresh_clean : (c : ℕ) → c < N + 1 → (b i : ℕ) → b < B → i < K → clean_in l (page_at l s.chips c) b i ≡ true
    fresh_clean c chip b i block place = rw (f.page c (page_in l b i) chip (digits_lt block place)) (erased_clean l)

    fresh_block : (c : ℕ) → c < N + 1 → clean_block l (page_at l s.chips c) 0 ≡ true
    unfolding clean_block
    fresh_block c chip = all_true K (clean_in l (page_at l s.chips c) 0) (λ i place. fresh_clean c chip 0 i (omega (arith, w.blocks_low)) place)

    fresh_unslotted : (j : ℕ) → j < S → slotted (record_at l s.records) j ≡ false
    unfolding empty_record
    fresh_unslotted j low = rw (f.stripe j low)

    at_rest : (collection_at l s.records).phase ≡ 0
    at_rest = rw f.collection

    fresh_records : RecordsSound l (record_at l s.records) (collection_at l s.records)
    fresh_records = record {
      stripe = λ j low. rw (f.stripe j low) empty_sound;
      own = λ i j less low t. both (slotted (record_at l s.records) j) t (fresh_unslotted j low);
      few = omega (arith, count_zero S (slotted (record_at l s.records)) fresh_unslotted);
      collection = rw f.collection (idle_sound l);
    }

    fresh_chip : (c : ℕ) → c < N + 1 → ChipSound l (record_at l s.records) (page_at l s.chips c) c (collection_at l s.records)
    fresh_chip c chip = record {
      main = λ j low d. absurd (d (rw (f.stripe j low) (main_empty c j)));
      side = λ j low d. absurd (d (rw (f.stripe j low) (side_empty c j)));
      order = λ b i block place t. fresh_clean c chip b (i + 1) block place;
      spare = λ e. (0, omega (arith, w.blocks_low), fresh_block c chip);
      phase_1 = λ one. absurd (omega (arith, at_rest));
      phase_2 = λ two. absurd (omega (arith, at_rest));
    }

    pub fresh_sound : Sound l s
    fresh_sound = record {
      chips = f.chips;
      records = f.records;
      slots = f.slots;
      stripes = fresh_records;
      chip = λ c chip d. fresh_chip c chip;
    }
