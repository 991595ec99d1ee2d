-- Soundness after a store, of the records and of one chip, where x gives the chip's pages.
use Prim.Native.Nat.{ℕ, ◌+◌, ◌-◌, ◌^◌, ◌≤◌, ◌<◌}
use native.Mathlib.Decide.{ℕ_discrete}
use native.Mathlib.Omega.{arith}
use mathlib.Core.Path.{◌≡◌, refl, sym, ◌∙◌}
use mathlib.Core.Logic.{◌≢◌}
use mathlib.Core.Bool.{true, false}
use borrow.Author.Tests.{eqb-true}
use Rattle.ranges.specs.Look.{count_below}
use Rattle.ranges.specs.Update.{at}
use Rattle.ranges.proofs.Looks.{by_test, both, all_true, all_at}
use Rattle.octets.proofs.Numbers.{pow_positive}
use Rattle.ranges.proofs.Updates.{at_same, at_other, by_at}
use Rattle.ranges.proofs.Tests.{differ}
use Rattle.layout.specs.Layout.{Layout, none, page_in, in_block, record_bytes}
use Rattle.layout.specs.Page.{Page, clean_kind, clean}
use Rattle.layout.specs.Record.{Record, no_slot, slotted, rest_bytes}
use Rattle.layout.specs.Collection.{Collection}
use Rattle.layout.proofs.Limits.{blocks_most}
use Rattle.layout.proofs.Codec.{RecordFits, CollectionFits}
use Rattle.layout.proofs.Records.{SixMembers}
use Rattle.layout.proofs.Pages.{same_place, in_own_block, in_other_block, place_in, none_fits}
use Rattle.steps.proofs.View.{wiped, erased_clean}
use Rattle.rules.specs.Names.{main_number, side_number, names, named}
use Rattle.rules.specs.Blocks.{clean_in, clean_block}
use Rattle.rules.specs.Sound.{collecting}
use Rattle.rules.proofs.Soundness.Statements.{Usable, Numbered, RecordSound, CollectionSound, RecordsSound, Stamped, OneTwin, ChipSound}
use Rattle.rules.proofs.Stores.Names.{main_names, side_names, name_named, name_stamped, named_used}

module _ (l : Layout) where
  open l use {K, B, S, M, D}

  -- place i of block b can be programmed: it is clean, and those before it are used
  pub record Fillable (x : ℕ → Page) (b i : ℕ) : Type 0 where
    pub block : b < B
    pub place : i < K
    pub is_clean : clean_in l x b i ≡ true
    pub before : (k : ℕ) → k < i → clean_in l x b k ≡ false

  -- another block than b is wholly clean
  pub record CleanBut (x : ℕ → Page) (b : ℕ) : Type 0 where
    pub block : ℕ
    pub fits : block < B
    pub other : block ≢ b
    pub is_clean : clean_block l x block ≡ true

  -- what is sound fits its fields
  module _ (u : Usable l) where
    number_fits : (p : ℕ) → Numbered l p → p < 256 ^ D
    number_fits p h = elim (ℕ_discrete p (none l)) [
      | yes e ↦ rw e (none_fits l)
      | no d ↦ omega (arith, h d, u.within.pages_numbered, none_fits l)
    ]

    pub record_fits : (r : Record) → RecordSound l r → SixMembers l r → RecordFits l r
    record_fits r f beyond = record {
      current = λ m h. number_fits (r.current m) (f.member m h).current;
      old = λ m h. number_fits (r.old m) (f.member m h).old;
      beyond = beyond;
      parity = number_fits r.parity f.parity;
      rest = rw f.rest (pow_positive (rest_bytes l));
    }

    block_fits : (phase b : ℕ) → (phase ≡ 0 → b ≡ 0) → (phase ≢ 0 → b < B) → b < 256 ^ 2
    block_fits phase b rest busy = elim (ℕ_discrete phase 0) [
      | yes e ↦ rw (rest e) (pow_positive 2)
      | no d ↦ omega (arith, busy d, blocks_most l u.within)
    ]

    pub collection_fits : (co : Collection) → CollectionSound l co → CollectionFits l co
    collection_fits co f = record {
      victim = block_fits co.phase co.victim (λ e. (f.at_rest e).1) f.victim;
      destination = block_fits co.phase co.destination (λ e. (f.at_rest e).2) f.destination;
      rest = rw f.rest (pow_positive (record_bytes l - 6));
    }

  -- all records
  module _ (r : ℕ → Record) (co : Collection) (f : RecordsSound l r co) where
    -- after a record store
    module _ (j : ℕ) (r' : Record) (g : RecordSound l r')
        (own : r'.slot ≢ no_slot → (i : ℕ) → i < S → i ≢ j → (r i).slot ≢ r'.slot) (few : count_below S (slotted (at j r' r)) ≤ M) where
      record_sound_lem : (i : ℕ) → i < S → RecordSound l (at j r' r i)
      record_sound_lem i h = by_at j r' r i (λ e n. rw n g) (λ d n. rw n (f.stripe i h))

      own_after : (i k : ℕ) → i < k → k < S → slotted (at j r' r) k ≡ true → (at j r' r i).slot ≢ (at j r' r k).slot
      own_after i k h below t = elim (ℕ_discrete k j) [
        | yes e ↦
            rw (e, at_same j r' r, at_other j r' r i (omega arith)) (own (differ r'.slot no_slot (rw (e, at_same j r' r) at t)) i (omega arith) (omega arith))
        | no d ↦
            let was : slotted r k ≡ true = rw (at_other j r' r k d) at t in
            rw (at_other j r' r k d)
            (elim (ℕ_discrete i j) [
              | yes e ↦ rw (e, at_same j r' r) (λ q. own (λ n. differ (r k).slot no_slot was (sym q ∙ n)) k below d (sym q))
              | no d' ↦ rw (at_other j r' r i d') (f.own i k h below was)
            ])
      ]

      -- the records after it
      pub records_keep : RecordsSound l (at j r' r) co
      records_keep = record { stripe = record_sound_lem; own = own_after; few = few; collection = f.collection }

    -- after a store of the collection record
    pub collection_records_keep : (co' : Collection) → CollectionSound l co' → RecordsSound l r co'
    collection_records_keep co' g = record { stripe = f.stripe; own = f.own; few = f.few; collection = g }

  -- a block that is erased is wholly clean, and the pages of the others stay
  module _ (b : ℕ) (x : ℕ → Page) where
    wiped_own : (i : ℕ) → i < K → clean_in l (wiped l b x) b i ≡ true
    unfolding wiped
    wiped_own i h = rw (in_own_block l b i h) (erased_clean l)

    pub wiped_clean : clean_block l (wiped l b x) b ≡ true
    unfolding clean_block
    wiped_clean = all_true K (clean_in l (wiped l b x) b) wiped_own

    pub wiped_other : (d i : ℕ) → b ≢ d → i < K → wiped l b x (page_in l d i) ≡ x (page_in l d i)
    unfolding wiped
    wiped_other d i other h = rw (in_other_block l b d i other h)

  -- stamps stay where named pages do
  module _ (r : ℕ → Record) (x x' : ℕ → Page) (c : ℕ) (co : Collection) (f : ChipSound l r x c co)
      (same : (p : ℕ) → p ≢ none l → named l r c p ≡ true → x' p ≡ x p) where
    stamp_stays : (p j : ℕ) → j < S → p ≢ none l → names l r c p j ≡ true → Stamped l x' c j p
    stamp_stays p j h d t =
        let g = name_stamped l r x c co f p j h d t in
        let e = same p d (name_named l r c p j h t) in
        record { stripe = rw e g.stripe; kind = rw e g.kind; member = rw e g.member }

    main_stays : (j : ℕ) → j < S → main_number l c j (r j) ≢ none l → Stamped l x' c j (main_number l c j (r j))
    main_stays j h d = stamp_stays (main_number l c j (r j)) j h d (main_names l r c (main_number l c j (r j)) j refl)

    side_stays : (j : ℕ) → j < S → side_number l c j (r j) ≢ none l → Stamped l x' c j (side_number l c j (r j))
    side_stays j h d = stamp_stays (side_number l c j (r j)) j h d (side_names l r c (side_number l c j (r j)) j refl)

  module _ (r : ℕ → Record) (x : ℕ → Page) (c : ℕ) (co : Collection) (f : ChipSound l r x c co) where
    -- a program of a clean page behind used ones
    module _ (b i : ℕ) (g : Fillable x b i) (page : Page) (used : page.kind ≢ clean_kind) where
      -- no named page is changed
      pub program_same : (p : ℕ) → p ≢ none l → named l r c p ≡ true → at (page_in l b i) page x p ≡ x p
      program_same p d t =
          at_other (page_in l b i) page x p (λ e. both (clean (x p)) (rw e g.is_clean) (named_used l r x c co f p d t))

      -- a page that is clean after it is another, and was clean
      clean_other : (p : ℕ) → clean (at (page_in l b i) page x p) ≡ true → p ≢ page_in l b i
      clean_other p t e =
          used (eqb-true page.kind clean_kind (rw (e, at_same (page_in l b i) page x) at t))

      clean_before : (p : ℕ) → clean (at (page_in l b i) page x p) ≡ true → clean (x p) ≡ true
      clean_before p t = rw (at_other (page_in l b i) page x p (clean_other p t)) at t

      program_order : (b' k : ℕ) → b' < B → k + 1 < K → clean_in l (at (page_in l b i) page x) b' k ≡ true
          → clean_in l (at (page_in l b i) page x) b' (k + 1) ≡ true
      program_order b' k block h t =
          let was = clean_before (page_in l b' k) t in
          let other : page_in l b' (k + 1) ≢ page_in l b i =
          λ e. let (same, next) = same_place l b' (k + 1) b i h g.place e in
          both (clean_in l x b' k) was (rw same (g.before k (omega arith))) in
          rw (at_other (page_in l b i) page x (page_in l b' (k + 1)) other) (f.order b' k block h was)

      program_spare : (b' : ℕ) → b' ≢ b → clean_block l x b' ≡ true → clean_block l (at (page_in l b i) page x) b' ≡ true
      unfolding clean_block
      program_spare b' d t =
          all_true K (clean_in l (at (page_in l b i) page x) b')
          (λ k h.
          rw (at_other (page_in l b i) page x (page_in l b' k) (λ e. d (same_place l b' k b i h g.place e).0))
          (all_at K (clean_in l x b') t k h))

      -- the chip after it
      pub program_keeps : co.phase ≢ 2 → (collecting co c ≡ false → CleanBut x b) → ChipSound l r (at (page_in l b i) page x) c co
      program_keeps free spare = record {
        main = main_stays r x (at (page_in l b i) page x) c co f program_same;
        side = side_stays r x (at (page_in l b i) page x) c co f program_same;
        order = program_order;
        spare = λ t. let d = spare t in (d.block, d.fits, program_spare d.block d.other d.is_clean);
        phase_1 = f.phase_1;
        phase_2 = λ e. absurd (free e);
      }

    -- an erase of a block of which no page is named
    module _ (b : ℕ) (block : b < B) (unnamed : (i : ℕ) → i < K → named l r c (page_in l b i) ≡ false) where
      pub erase_same : (p : ℕ) → p ≢ none l → named l r c p ≡ true → wiped l b x p ≡ x p
      unfolding wiped
      erase_same p d t =
          by_test (in_block l b p)
          (λ e. let (i, h, q) = place_in l b p e in both (named l r c p) t (rw q (unnamed i h)))
          (λ e. rw e)

      erase_order : (b' k : ℕ) → b' < B → k + 1 < K → clean_in l (wiped l b x) b' k ≡ true → clean_in l (wiped l b x) b' (k + 1) ≡ true
      erase_order b' k fits h t = elim (ℕ_discrete b' b) [
        | yes e ↦ rw e (wiped_own b x (k + 1) h)
        | no d ↦ rw (wiped_other b x b' (k + 1) (λ e. d (sym e)) h) (f.order b' k fits h (rw (wiped_other b x b' k (λ e. d (sym e)) (omega arith)) at t))
      ]

      -- the chip after it
      pub erase_keeps : (co.phase ≡ 2 → co.chip ≡ c → b ≡ co.victim) → ChipSound l r (wiped l b x) c co
      erase_keeps is-victim = record {
        main = main_stays r x (wiped l b x) c co f erase_same;
        side = side_stays r x (wiped l b x) c co f erase_same;
        order = erase_order;
        spare = λ t. (b, block, wiped_clean b x);
        phase_1 = f.phase_1;
        phase_2 = λ e q i h t. both (named l r c (page_in l co.victim i)) t (rw (← is-victim e q) (unnamed i h));
      }

    -- a record store at rest
    module _ (j : ℕ) (r' : Record)
        (main : main_number l c j r' ≢ none l → Stamped l x c j (main_number l c j r'))
        (side : side_number l c j r' ≢ none l → Stamped l x c j (side_number l c j r')) where
      record_main : (i : ℕ) → i < S → main_number l c i (at j r' r i) ≢ none l → Stamped l x c i (main_number l c i (at j r' r i))
      record_main i h = by_at j r' r i (λ e n. rw (n, e) main) (λ d n. rw n (f.main i h))

      record_side : (i : ℕ) → i < S → side_number l c i (at j r' r i) ≢ none l → Stamped l x c i (side_number l c i (at j r' r i))
      record_side i h = by_at j r' r i (λ e n. rw (n, e) side) (λ d n. rw n (f.side i h))

      -- the chip after it
      pub record_keeps : co.phase ≡ 0 → ChipSound l (at j r' r) x c co
      record_keeps rest = record {
        main = record_main;
        side = record_side;
        order = f.order;
        spare = f.spare;
        phase_1 = λ e. absurd (omega arith);
        phase_2 = λ e. absurd (omega arith);
      }

    -- a store of the collection record
    pub collection_keeps : (co' : Collection)
        → (collecting co' c ≡ false → (b : ℕ) × (b < B) × (clean_block l x b ≡ true))
        → (co'.phase ≡ 1 → co'.chip ≡ c → (i : ℕ) → i < K → named l r c (page_in l co'.destination i) ≡ false)
        → (co'.phase ≡ 2 → co'.chip ≡ c → (i : ℕ) → i < K → named l r c (page_in l co'.victim i) ≡ true
        → OneTwin l r x c co'.destination (page_in l co'.victim i))
        → ChipSound l r x c co'
    collection_keeps co' spare first second =
        record { main = f.main; side = f.side; order = f.order; spare = spare; phase_1 = first; phase_2 = second }
