-- The view after a store is the view, updated at one place. Only here do offsets matter.
use Prim.Native.Nat.{ℕ, ◌+◌, ◌*◌, ◌≤◌, ◌<◌}
use native.Mathlib.Decide.{dec_lt}
use native.Mathlib.Omega.{arith}
use mathlib.Core.Path.{◌≡◌, sym, ap, ◌∙◌, fun_ext}
use mathlib.Core.Logic.{◌≢◌}
use mathlib.Core.Bool.{cond, true}
use mathlib.Core.List.{List, []}
use lib.ListN.{length, replicate, length-replicate, get_or-replicate}
use lib.Arith.{digits_lt}
use borrow.Author.Tests.{lt-ltb, le-ltb, le-leb, lt-leb}
use Rattle.octets.specs.Units.{unit, unit_put}
use Rattle.ranges.specs.Update.{at}
use Rattle.octets.proofs.Units.{unit_unit, unit_unit_outside, apart, unit_same, unit_other, length_unit_put, length_put_units, unit_fill_in, unit_fill_before, unit_fill_after, same_index}
use Rattle.ranges.proofs.Updates.{at_unique}
use Rattle.layout.specs.Layout.{Layout, pages, in_block, page_bytes, record_bytes}
use Rattle.layout.specs.Page.{Page, page_of, bytes_of_page, page_at, clean}
use Rattle.layout.specs.Record.{Record, record_of, bytes_of_record, record_at}
use Rattle.layout.specs.Collection.{Collection, collection_of, bytes_of_collection, collection_at}
use Rattle.layout.specs.Images.{chips_length, records_length, slots_length, slot_at}
use Rattle.layout.proofs.Codec.{PageFits, length_page, page_decodes, RecordFits, length_record, record_decodes, CollectionFits, length_collection, collection_decodes}
use Rattle.steps.specs.Store.{programmed, erased, recorded}

module _ (l : Layout) where
  open l use {N, W, K, B, S, M, D}

  -- a page of an erased block
  unfoldable pub erased_page : Page
  erased_page = page_of l (replicate (page_bytes l) 255)

  pub erased_clean : clean erased_page ≡ true
  unfolding erased_page page_of
  erased_clean = rw (get_or-replicate {A = ℕ} (page_bytes l) W 255 0 (omega arith))

  -- the pages of a chip with block b erased
  unfoldable pub wiped : ℕ → (ℕ → Page) → ℕ → Page
  wiped b x p = cond (in_block l b p) erased_page (x p)

  -- the page of a unit of the chip image
  inside : (chips : List ℕ) (c p : ℕ) → p < pages l → page_at l chips c p ≡ page_of l (unit (page_bytes l) (c * pages l + p) chips)
  unfolding page_at
  inside chips c p h = ap (page_of l) (unit_unit (pages l) (page_bytes l) c p chips h)

  outside : (chips : List ℕ) (c p : ℕ) → pages l ≤ p → page_at l chips c p ≡ page_of l []
  unfolding page_at
  outside chips c p h = ap (page_of l) (unit_unit_outside (pages l) (page_bytes l) c p chips h)

  module _ (narrow : D ≤ 4) (chips : List ℕ) (long : length chips ≡ chips_length l) (c : ℕ) (chip : c < N + 1) where
    module _ (p : ℕ) (fits : p < pages l) (x : Page) (f : PageFits l x) where
      pub length_programmed : length (programmed l c p x chips) ≡ length chips
      unfolding programmed chips_length
      length_programmed =
          length_unit_put ((N + 1) * pages l) (page_bytes l) (c * pages l + p) (bytes_of_page l x) chips long (digits_lt chip fits) (length_page l narrow x f)

      program_here : page_at l (programmed l c p x chips) c p ≡ x
      unfolding programmed chips_length
      program_here =
          inside (programmed l c p x chips) c p fits
          ∙ ap (page_of l) (unit_same ((N + 1) * pages l) (page_bytes l) (c * pages l + p) (bytes_of_page l x) chips long (digits_lt chip fits) (length_page l narrow x f))
          ∙ page_decodes l narrow x f

      program_within : (c' p' : ℕ) → p' < pages l → (c' ≡ c → p' ≢ p) → page_at l (programmed l c p x chips) c' p' ≡ page_at l chips c' p'
      unfolding programmed chips_length
      program_within c' p' h d =
          let other : c' * pages l + p' ≢ c * pages l + p =
          λ e. let same = same_index (pages l) c' p' c p h fits e in d same.0 same.1 in
          rw (inside (programmed l c p x chips) c' p' h, inside chips c' p' h)
          (ap (page_of l) (unit_other ((N + 1) * pages l) (page_bytes l) (c * pages l + p) (c' * pages l + p') (bytes_of_page l x) chips long (digits_lt chip fits) (length_page l narrow x f) other))

      pub program_elsewhere : (c' p' : ℕ) → (c' ≡ c → p' ≢ p) → page_at l (programmed l c p x chips) c' p' ≡ page_at l chips c' p'
      program_elsewhere c' p' d = elim (dec_lt p' (pages l)) [
        | yes h ↦ program_within c' p' h d
        | no h ↦ outside (programmed l c p x chips) c' p' (omega arith) ∙ sym (outside chips c' p' (omega arith))
      ]

      -- a program: that page of that chip
      pub page_programmed : page_at l (programmed l c p x chips) ≡ at c (at p x (page_at l chips c)) (page_at l chips)
      page_programmed =
          at_unique c (at p x (page_at l chips c)) (page_at l chips) (page_at l (programmed l c p x chips))
          (at_unique p x (page_at l chips c) (page_at l (programmed l c p x chips) c) program_here (λ p' d. program_elsewhere c p' (λ e. d)))
          (λ c' d. fun_ext λ p'. program_elsewhere c' p' (λ e. absurd (d e)))

    module _ (b : ℕ) (block : b < B) where
      -- the first unit of the block
      start : ℕ
      start = c * pages l + b * K

      block_ends : b * K + K ≤ pages l
      block_ends = apart K b B block

      fits_in : start + K ≤ (N + 1) * pages l
      unfolding start
      fits_in = omega (arith, block_ends, apart (pages l) c (N + 1) chip)

      erase_within : (p : ℕ) → b * K ≤ p → p < b * K + K → page_at l (erased l c b chips) c p ≡ erased_page
      unfolding erased chips_length start erased_page
      erase_within p low high =
          inside (erased l c b chips) c p (omega (arith, block_ends))
          ∙ ap (page_of l) (unit_fill_in ((N + 1) * pages l) (page_bytes l) start K (c * pages l + p) 255 chips long fits_in (omega arith) (omega arith))

      pub length_erased : length (erased l c b chips) ≡ length chips
      unfolding erased chips_length start
      length_erased =
          length_put_units ((N + 1) * pages l) (page_bytes l) start K (replicate (K * page_bytes l) 255) chips long fits_in (length-replicate (K * page_bytes l) 255)

      erase_before : (c' p : ℕ) → p < pages l → c' * pages l + p < start → page_at l (erased l c b chips) c' p ≡ page_at l chips c' p
      unfolding erased chips_length start
      erase_before c' p h low =
          rw (inside (erased l c b chips) c' p h, inside chips c' p h)
          (ap (page_of l) (unit_fill_before ((N + 1) * pages l) (page_bytes l) start K (c' * pages l + p) 255 chips long fits_in low))

      erase_after : (c' p : ℕ) → p < pages l → start + K ≤ c' * pages l + p → page_at l (erased l c b chips) c' p ≡ page_at l chips c' p
      unfolding erased chips_length start
      erase_after c' p h high =
          rw (inside (erased l c b chips) c' p h, inside chips c' p h)
          (ap (page_of l) (unit_fill_after ((N + 1) * pages l) (page_bytes l) start K (c' * pages l + p) 255 chips long fits_in high))

      erase_outside : (c' p : ℕ) → pages l ≤ p → page_at l (erased l c b chips) c' p ≡ page_at l chips c' p
      erase_outside c' p h = outside (erased l c b chips) c' p h ∙ sym (outside chips c' p h)

      erase_other : (c' : ℕ) → c' ≢ c → (p : ℕ) → page_at l (erased l c b chips) c' p ≡ page_at l chips c' p
      unfolding start
      erase_other c' d p = elim (dec_lt p (pages l)) [
        | yes h ↦ elim (dec_lt c' c) [
          | yes low ↦ erase_before c' p h (omega (arith, apart (pages l) c' c low))
          | no high ↦ erase_after c' p h (omega (arith, block_ends, apart (pages l) c c' (omega (arith, d))))
        ]
        | no h ↦ erase_outside c' p (omega arith)
      ]

      erase_same : (p : ℕ) → page_at l (erased l c b chips) c p ≡ wiped b (page_at l chips c) p
      unfolding start wiped
      erase_same p = elim (dec_lt p (b * K)) [
        | yes low ↦
            rw (lt-leb (b * K) p low) (erase_before c p (omega (arith, block_ends)) (omega arith))
        | no h ↦ elim (dec_lt p (b * K + K)) [
          | yes high ↦ rw (le-leb (b * K) p (omega arith), lt-ltb p (b * K + K) high) (erase_within p (omega arith) high)
          | no high ↦
              rw (le-leb (b * K) p (omega arith), le-ltb p (b * K + K) (omega arith))
              (elim (dec_lt p (pages l)) [
                | yes i ↦ erase_after c p i (omega arith)
                | no i ↦ erase_outside c p (omega arith)
              ])
        ]
      ]

      -- an erase: the pages of that block of that chip
      pub page_erased : page_at l (erased l c b chips) ≡ at c (wiped b (page_at l chips c)) (page_at l chips)
      page_erased =
          at_unique c (wiped b (page_at l chips c)) (page_at l chips) (page_at l (erased l c b chips)) (fun_ext erase_same) (λ c' d. fun_ext (erase_other c' d))

  module _ (some : 1 ≤ D) (records : List ℕ) (long : length records ≡ records_length l) where
    -- the record of a unit of the record image
    record_inside : (xs : List ℕ) (j : ℕ) → j < S → record_at l xs j ≡ record_of l (unit (record_bytes l) j xs)
    unfolding record_at
    record_inside xs j h = rw (lt-ltb j S h)

    record_outside : (xs : List ℕ) (j : ℕ) → S ≤ j → record_at l xs j ≡ record_of l []
    unfolding record_at
    record_outside xs j h = rw (le-ltb j S h)

    module _ (j : ℕ) (place : j < S + 1) (xs : List ℕ) (whole : length xs ≡ record_bytes l) where
      pub length_recorded : length (recorded l j xs records) ≡ length records
      unfolding recorded records_length
      length_recorded = length_unit_put (S + 1) (record_bytes l) j xs records long place whole

      recorded_other : (i : ℕ) → i ≢ j → unit (record_bytes l) i (recorded l j xs records) ≡ unit (record_bytes l) i records
      unfolding recorded records_length
      recorded_other i d = unit_other (S + 1) (record_bytes l) j i xs records long place whole d

      recorded_same : unit (record_bytes l) j (recorded l j xs records) ≡ xs
      unfolding recorded records_length
      recorded_same = unit_same (S + 1) (record_bytes l) j xs records long place whole

      record_other : (i : ℕ) → i ≢ j → record_at l (recorded l j xs records) i ≡ record_at l records i
      record_other i d = elim (dec_lt i S) [
        | yes h ↦ rw (record_inside (recorded l j xs records) i h, record_inside records i h) (ap (record_of l) (recorded_other i d))
        | no h ↦ record_outside (recorded l j xs records) i (omega arith) ∙ sym (record_outside records i (omega arith))
      ]

    -- a record store: that record; the collection record stays
    module _ (j : ℕ) (stripe : j < S) (r : Record) (f : RecordFits l r) where
      pub record_stored : record_at l (recorded l j (bytes_of_record l r) records) ≡ at j r (record_at l records)
      record_stored =
          at_unique j r (record_at l records) (record_at l (recorded l j (bytes_of_record l r) records))
          (record_inside (recorded l j (bytes_of_record l r) records) j stripe
          ∙ ap (record_of l) (recorded_same j (omega arith) (bytes_of_record l r) (length_record l some r))
          ∙ record_decodes l some r f)
          (record_other j (omega arith) (bytes_of_record l r) (length_record l some r))

      pub collection_stays : collection_at l (recorded l j (bytes_of_record l r) records) ≡ collection_at l records
      unfolding collection_at
      collection_stays =
          ap (collection_of l) (recorded_other j (omega arith) (bytes_of_record l r) (length_record l some r) S (omega arith))

    -- a store of the collection record: that; the records stay
    module _ (co : Collection) (f : CollectionFits l co) where
      pub collection_stored : collection_at l (recorded l S (bytes_of_collection l co) records) ≡ co
      unfolding collection_at
      collection_stored =
          ap (collection_of l) (recorded_same S (omega arith) (bytes_of_collection l co) (length_collection l some co))
          ∙ collection_decodes l some co f

      records_stay_at : (i : ℕ) → record_at l (recorded l S (bytes_of_collection l co) records) i ≡ record_at l records i
      records_stay_at i = elim (dec_lt i S) [
        | yes h ↦ record_other S (omega arith) (bytes_of_collection l co) (length_collection l some co) i (omega arith)
        | no h ↦ record_outside (recorded l S (bytes_of_collection l co) records) i (omega arith) ∙ sym (record_outside records i (omega arith))
      ]

      pub records_stay : record_at l (recorded l S (bytes_of_collection l co) records) ≡ record_at l records
      records_stay = fun_ext records_stay_at

  -- a slot store: that slot
  module _ (slots : List ℕ) (long : length slots ≡ slots_length l) (i : ℕ) (slot : i < M + 1) (xs : List ℕ) (whole : length xs ≡ W) where
    pub length_slotted : length (unit_put W i xs slots) ≡ length slots
    unfolding slots_length
    length_slotted = length_unit_put (M + 1) W i xs slots long slot whole

    pub slot_stored : slot_at l (unit_put W i xs slots) ≡ at i xs (slot_at l slots)
    unfolding slot_at slots_length
    slot_stored =
        at_unique i xs (slot_at l slots) (slot_at l (unit_put W i xs slots)) (unit_same (M + 1) W i xs slots long slot whole) (λ k d. unit_other (M + 1) W i k xs slots long slot whole d)
