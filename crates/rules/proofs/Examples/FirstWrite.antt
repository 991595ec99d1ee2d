-- "A first write takes 3 stores. Allowance 2 is cut and reads zeros; 3 is done." In every geometry.
use Prim.Native.Nat.{ℕ, ◌+◌, ◌*◌, ◌≤◌, ◌<◌}
use native.Mathlib.Omega.{arith}
use mathlib.Core.Path.{◌≡◌, refl}
use mathlib.Core.Bool.{true}
use mathlib.Core.List.{List, [], ◌∷◌}
use lib.ListN.{length, replicate}
use lib.Arith.{digits_lt}
use borrow.Author.Tests.{eq-eqb, ne_eqb}
use Rattle.ranges.specs.Look.{when_found}
use Rattle.std.specs.Prelude.{Some, Ok}
use Rattle.ranges.proofs.Looks.{all_true, some_false, first_none, first_is}
use Rattle.ranges.proofs.Counts.{count_zero, count_all}
use Rattle.layout.specs.Layout.{Layout, no_chip, none, page_in}
use Rattle.layout.specs.Rotation.{member_chip, member_of, stripe_of}
use Rattle.layout.specs.Page.{page_at}
use Rattle.layout.specs.Record.{slotted, slot_of, empty_record, record_at}
use Rattle.layout.specs.Images.{Images}
use Rattle.layout.proofs.Limits.{within}
use Rattle.layout.proofs.Rotations.{stripe_fits, page_chip_fits}
use Rattle.steps.specs.Store.{program, slot, stripe, apply}
use Rattle.steps.specs.Steps.{plain, and_then, apply_all, no_counts, counted, counted_all}
use Rattle.steps.proofs.View.{erased_clean}
use Rattle.rules.specs.Blocks.{clean_in, clean_block}
use Rattle.rules.specs.Place.{open_block, place_of}
use Rattle.rules.specs.Room.{room_steps, at_place, placed}
use Rattle.rules.specs.declared.Origin.TheVariants.{Unwritten}
use Rattle.rules.specs.Partial.{new_partial, lowest_free_slot, free_slot, data_page, written, slot_steps, write_at}
use Rattle.rules.specs.Write.{commit_owed, owed_steps, write_member, write_steps}
use Rattle.rules.specs.Read.{fetch_member, fetch}
use Rattle.rules.specs.declared.Answer.TheVariants.{Done, Cut}
use Rattle.rules.specs.Calls.{ReadOutcome, verdict, done, run, format_call, write_call, read_call}
use Rattle.rules.proofs.Soundness.Statements.{Usable, Sound}
use Rattle.rules.proofs.Soundness.Accepted.{WriteAccepted, write_passes, read_passes}
use Rattle.rules.proofs.Space.Places.{place_fresh}
use Rattle.rules.proofs.Lists.Fresh.{Fresh, format_fresh}
use Rattle.rules.proofs.Lists.FreshSound.{fresh_sound}
use Rattle.rules.proofs.Lists.EachCall.{write_every}

module _ (l : Layout) where
  open l use {W}

  -- what document 01 says of a first write
  pub record FirstWrite (s : Images) (i : ℕ) (xs : List ℕ) : Type 0 where
    pub three : length (write_steps l i xs s) ≡ 3
    pub cut_at_two : (write_call l s no_chip i xs 2).answer ≡ Ok (Cut (record { reads = 0; programs = 1; erases = 0; stores = 2 }))
    pub reads_zeros : (buffer : List ℕ) → length buffer ≡ W
        → ◌≡◌ {A = ReadOutcome} (read_call l (write_call l s no_chip i xs 2).images no_chip i buffer) (record { answer = Ok (record { counts = no_counts; origin = Unwritten }); buffer = replicate W 0 })
    pub done_at_three : (write_call l s no_chip i xs 3).answer ≡ Ok (Done (record { reads = 0; programs = 1; erases = 0; stores = 3 }))

-- on images as a format leaves them
module _ (l : Layout) (u : Usable l) (s : Images) (f : Fresh l s) where
  open l use {N, W, K, B, S, M}

  -- every block is clean, so the first page of a chip is the place
  clean_block_lem : (c : ℕ) → c < N + 1 → (b : ℕ) → b < B → clean_block l (page_at l s.chips c) b ≡ true
  unfolding clean_block
  clean_block_lem c chip b block =
      all_true K (clean_in l (page_at l s.chips c) b) (λ i place. rw (f.page c (page_in l b i) chip (digits_lt block place)) (erased_clean l))

  first_place : (c : ℕ) → c < N + 1 → place_of l (page_at l s.chips c) ≡ Some (page_in l 0 0)
  unfolding open_block
  first_place c chip =
      let x = page_at l s.chips c in
      let some : 0 < B = omega (arith, u.within.blocks_low) in
      place_fresh l x 0
      (first_none B (open_block l x) (λ b block. rw (clean_block_lem c chip b block)))
      (omega (arith, count_all B (clean_block l x) (clean_block_lem c chip), u.within.blocks_low))
      (first_is B (clean_block l x) 0 some (clean_block_lem c chip 0 some) (λ k low. absurd (omega arith)))

  -- so nothing is collected
  nothing_collected : (c : ℕ) → c < N + 1 → room_steps l c s ≡ []
  unfolding room_steps when_found
  nothing_collected c chip = rw (first_place c chip)

  -- no record has a slot, so no commit is owed and slot 0 is free
  no_commit_owed : (j : ℕ) → j < S → owed_steps l j s ≡ []
  unfolding owed_steps commit_owed empty_record
  no_commit_owed j low =
      rw (
        f.stripe j low,
        count_zero S (slotted (record_at l s.records)) (λ k h. rw (f.stripe k h)),
        ne_eqb 0 M (omega (arith, u.within.partials_low)),
      )

  lowest_slot : lowest_free_slot l (record_at l s.records) ≡ Some 0
  unfolding lowest_free_slot empty_record
  lowest_slot =
      first_is (M + 1) (free_slot l (record_at l s.records)) 0 (omega arith)
      (rw (some_false S (slot_of (record_at l s.records) 0) (λ k h. rw (f.stripe k h))))
      (λ k low. absurd (omega arith))

  -- page i, which is member m of stripe j
  module _ (i : ℕ) (page : i < N * S) where
    abbrev j : ℕ
    j = stripe_of l i

    abbrev m : ℕ
    m = member_of l i

    abbrev chip : ℕ
    chip = member_chip l j m

    stripe_inside : j < S
    stripe_inside = stripe_fits l u.within i page

    -- a write of it is three stores: the page, the slot, the record
    pub three_stores : (xs : List ℕ) → write_steps l i xs s
        ≡ plain (program chip (page_in l 0 0) (data_page l j m xs)) ∷ plain (slot 0 xs) ∷ plain (stripe j (written l m (page_in l 0 0) 0 (empty_record l))) ∷ []
    unfolding write_steps write_member and_then apply_all apply at_place placed when_found write_at slot_steps new_partial empty_record
    three_stores xs =
        let fits = page_chip_fits l u.within i in
        rw (no_commit_owed j stripe_inside, nothing_collected chip fits, first_place chip fits, lowest_slot, f.stripe j stripe_inside)

    -- a read of it, while the records are as they were: zeros, and no page is read for them
    zeros : (t : Images) → Sound l t → t.records ≡ s.records → (buffer : List ℕ) → length buffer ≡ W
        → ◌≡◌ {A = ReadOutcome} (read_call l t no_chip i buffer) (record { answer = Ok (record { counts = no_counts; origin = Unwritten }); buffer = replicate W 0 })
    unfolding read_call fetch fetch_member empty_record
    zeros t sound same buffer whole =
        rw (
          read_passes l t no_chip i buffer (record { within = u.within; named = refl; sound = sound; page = page; whole = whole }),
          same,
          f.stripe j stripe_inside,
          eq-eqb (none l) (none l) refl,
        )

    module _ (xs : List ℕ) (whole : length xs ≡ W) where
      -- the write is not refused, and makes its list
      accepted : WriteAccepted l s i xs
      accepted = record {
        settled = record { within = u.within; sound = fresh_sound l u.within s f; at_rest = rw f.collection };
        page = page;
        whole = whole;
      }

      ran : (allowance : ℕ) → write_call l s no_chip i xs allowance ≡ run l no_counts allowance (write_steps l i xs s) s
      unfolding write_call
      ran allowance = rw (write_passes l s i xs accepted)

      -- cut before its third store, it leaves sound images, and every record as it was
      cut_sound : Sound l (write_call l s no_chip i xs 2).images
      unfolding run
      cut_sound = rw (ran 2) (write_every l u s i xs accepted 2)

      cut_records : (write_call l s no_chip i xs 2).images.records ≡ s.records
      unfolding run apply_all apply
      cut_records = rw (ran 2, three_stores xs)

      fresh_write : FirstWrite l s i xs
      unfolding run counted_all counted
      fresh_write = record {
        three = rw (three_stores xs);
        cut_at_two = rw (ran 2, three_stores xs);
        reads_zeros = zeros (write_call l s no_chip i xs 2).images cut_sound cut_records;
        done_at_three = rw (ran 3, three_stores xs);
      }

pub first_write : (l : Layout) → 1 ≤ l.D → l.D ≤ 4 → (s : Images) (allowance : ℕ) → verdict (format_call l s allowance).answer ≡ done
    → (i : ℕ) → i < l.N * l.S → (xs : List ℕ) → length xs ≡ l.W → FirstWrite l (format_call l s allowance).images i xs
first_write l some narrow s allowance e =
    let (fit, fresh) = format_fresh l some narrow s allowance e in
    fresh_write l (record { within = within l fit; some = some; narrow = narrow }) (format_call l s allowance).images fresh
