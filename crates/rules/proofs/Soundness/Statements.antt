-- "Sound images" as plain statements, in the order of document 01, and what follows of them at once.
use Prim.Native.Nat.{ℕ, ◌+◌, ◌^◌, ◌≤◌, ◌<◌}
use native.Mathlib.Omega.{arith}
use mathlib.Core.Path.{◌≡◌, refl}
use mathlib.Core.Logic.{◌≢◌}
use mathlib.Core.Bool.{true, false, and-false, Bool}
use lib.ListN.{length}
use borrow.Author.Tests.{ne_eqb}
use Rattle.ranges.specs.Look.{count_below}
use Rattle.layout.specs.Layout.{Layout, no_chip, none, pages, page_in}
use Rattle.layout.specs.Page.{Page, page_at}
use Rattle.layout.specs.Record.{Record, bit, no_slot, slotted, record_at}
use Rattle.layout.specs.Collection.{Collection, collection_at, idle}
use Rattle.layout.specs.Images.{Images, chips_length, records_length, slots_length}
use Rattle.layout.proofs.Limits.{Within}
use Rattle.rules.specs.Names.{main_number, side_number, kind_on, member_byte, named}
use Rattle.rules.specs.Blocks.{clean_in, clean_block}
use Rattle.rules.specs.Sound.{collecting, is_lost}

module _ (l : Layout) where
  open l use {N, K, B, S, M, D}

  -- a geometry within the limits, and page numbers of 1 to 4 bytes
  pub record Usable : Type 0 where
    pub within : Within l
    pub some : 1 ≤ D
    pub narrow : D ≤ 4

  pub usable : 1 ≤ D → D ≤ 4 → Within l → Usable
  usable some narrow w = record { within = w; some = some; narrow = narrow }

  -- "none or below B × K"
  abbrev pub Numbered : ℕ → Type 0
  Numbered p = p ≢ none l → p < pages l

  -- what a record says of member m
  pub record MemberSound (r : Record) (m : ℕ) : Type 0 where
    -- "page numbers are none or below B × K, and none for members N and above"
    pub current : Numbered (r.current m)
    pub old : Numbered (r.old m)
    pub beyond : N ≤ m → (r.current m ≡ none l) × (r.old m ≡ none l)
    -- "an old number only where the bit is set"
    pub old_under_bit_lem : r.old m ≢ none l → bit r m ≡ true
    -- "a set bit has a current number, different from the old one"
    pub current_under_bit_lem : bit r m ≡ true → (r.current m ≢ none l) × (r.current m ≢ r.old m)
    -- "an old number, or a current one with its bit clear, needs a parity page"
    pub parity_under_old : r.old m ≢ none l → r.parity ≢ none l
    pub parity_under_current : r.current m ≢ none l → bit r m ≡ false → r.parity ≢ none l

  -- one record
  pub record RecordSound (r : Record) : Type 0 where
    pub member : (m : ℕ) → m < 6 → MemberSound r m
    pub parity : Numbered r.parity
    -- "bitmap bits only below N"
    pub bitmap : r.bitmap < 2 ^ N
    -- "slot none exactly when the bitmap is 0, else at most M"
    pub no_slot_lem : r.bitmap ≡ 0 → r.slot ≡ no_slot
    pub slot : r.bitmap ≢ 0 → r.slot ≤ M
    -- "the last four bytes are 0"
    pub rest : r.rest ≡ 0

  -- the collection record
  pub record CollectionSound (co : Collection) : Type 0 where
    -- "then zeros; in phase 0 all zero"
    pub rest : co.rest ≡ 0
    pub at_rest : co.phase ≡ 0 → (co.chip ≡ 0) × (co.victim ≡ 0) × (co.destination ≡ 0)
    -- "phase (0, 1, 2)"
    pub phases : co.phase ≤ 2
    -- "outside phase 0, chip at most N, both blocks below B and different"
    pub chip : co.phase ≢ 0 → co.chip ≤ N
    pub victim : co.phase ≢ 0 → co.victim < B
    pub destination : co.phase ≢ 0 → co.destination < B
    pub apart : co.phase ≢ 0 → co.victim ≢ co.destination

  -- all records
  pub record RecordsSound (r : ℕ → Record) (co : Collection) : Type 0 where
    pub stripe : (j : ℕ) → j < S → RecordSound (r j)
    -- "no slot in two records"
    pub own : (i j : ℕ) → i < j → j < S → slotted r j ≡ true → (r i).slot ≢ (r j).slot
    -- "at most M records with a slot"
    pub few : count_below S (slotted r) ≤ M
    pub collection : CollectionSound co

  -- page p of chip c "has that stripe, kind and member"
  pub record Stamped (x : ℕ → Page) (c j p : ℕ) : Type 0 where
    pub stripe : (x p).stripe ≡ j
    pub kind : (x p).kind ≡ kind_on l c j
    pub member : (x p).member ≡ member_byte l c j

  -- page q has "the same kind, member and stripe" as p, is "copied from it and named by no record"
  pub record IsTwin (r : ℕ → Record) (x : ℕ → Page) (c p q : ℕ) : Type 0 where
    pub kind : (x q).kind ≡ (x p).kind
    pub member : (x q).member ≡ (x p).member
    pub stripe : (x q).stripe ≡ (x p).stripe
    pub copied : (x q).copied ≡ p
    pub free : named l r c q ≡ false

  -- page p "has exactly one page in the destination" that is its twin
  pub record OneTwin (r : ℕ → Record) (x : ℕ → Page) (c destination p : ℕ) : Type 0 where
    pub place : ℕ
    pub fits : place < K
    pub is_twin : IsTwin r x c p (page_in l destination place)
    pub only : (k : ℕ) → k < K → IsTwin r x c p (page_in l destination k) → k ≡ place

  -- one chip c, with its pages x
  pub record ChipSound (r : ℕ → Record) (x : ℕ → Page) (c : ℕ) (co : Collection) : Type 0 where
    -- "each page a record names has that stripe, kind and member"
    pub main : (j : ℕ) → j < S → main_number l c j (r j) ≢ none l → Stamped x c j (main_number l c j (r j))
    pub side : (j : ℕ) → j < S → side_number l c j (r j) ≢ none l → Stamped x c j (side_number l c j (r j))
    -- "no used page follows a clean one in a block"
    pub order : (b i : ℕ) → b < B → i + 1 < K → clean_in l x b i ≡ true → clean_in l x b (i + 1) ≡ true
    -- "some block is wholly clean, unless a collection is in phase 1 or 2 on that chip"
    pub spare : collecting co c ≡ false → (b : ℕ) × (b < B) × (clean_block l x b ≡ true)
    -- "Phase 1: no record names a page of the destination."
    pub phase_1 : co.phase ≡ 1 → co.chip ≡ c → (i : ℕ) → i < K → named l r c (page_in l co.destination i) ≡ false
    -- "Phase 2: each page named in the victim has exactly one page in the destination with the same .."
    pub phase_2 : co.phase ≡ 2 → co.chip ≡ c → (i : ℕ) → i < K → named l r c (page_in l co.victim i) ≡ true
        → OneTwin r x c co.destination (page_in l co.victim i)

  -- images of their lengths that are sound, "on every chip but the lost one"
  pub record SoundBut (exempt : ℕ → Bool) (s : Images) : Type 0 where
    pub chips : length s.chips ≡ chips_length l
    pub records : length s.records ≡ records_length l
    pub slots : length s.slots ≡ slots_length l
    pub stripes : RecordsSound (record_at l s.records) (collection_at l s.records)
    pub chip : (c : ℕ) → c < N + 1 → exempt c ≡ false → ChipSound (record_at l s.records) (page_at l s.chips c) c (collection_at l s.records)

  -- on every chip
  abbrev pub Sound : Images → Type 0
  Sound s = SoundBut (is_lost no_chip) s

  -- ---- what follows at once

  -- no chip is the one that stands for none
  pub sound_chip : Usable → (s : Images) → Sound s → (c : ℕ) → c < N + 1
      → ChipSound (record_at l s.records) (page_at l s.chips c) c (collection_at l s.records)
  sound_chip u s f c chip = f.chip c chip (ne_eqb c no_chip (omega (arith, u.within.members_high)))

  -- what is sound on every chip is so on every chip but some
  pub sound_but : Within l → (s : Images) (exempt : ℕ → Bool) → Sound s → SoundBut exempt s
  sound_but w s exempt h = record {
    chips = h.chips;
    records = h.records;
    slots = h.slots;
    stripes = h.stripes;
    chip = λ c low d. h.chip c low (ne_eqb c no_chip (omega (arith, w.members_high)));
  }

  -- a record is sound about every member that there is
  pub sound_member : Within l → (r : Record) → RecordSound r → (m : ℕ) → m < N → MemberSound r m
  sound_member w r f m h = f.member m (omega (arith, w.members_high))

  -- the collection record with no collection under way
  pub idle_sound : CollectionSound idle
  idle_sound = record {
    rest = refl;
    at_rest = λ z. (refl, refl, refl);
    phases = omega arith;
    chip = λ d. absurd (d refl);
    victim = λ d. absurd (d refl);
    destination = λ d. absurd (d refl);
    apart = λ d. absurd (d refl);
  }

-- no chip is collected on at rest, nor one that is not the collection's
pub rest_collects : (co : Collection) (c : ℕ) → co.phase ≡ 0 → collecting co c ≡ false
rest_collects co c e = rw e

pub not_collecting : (co : Collection) (c : ℕ) → co.chip ≢ c → collecting co c ≡ false
not_collecting co c d = rw (ne_eqb co.chip c d, and-false)
