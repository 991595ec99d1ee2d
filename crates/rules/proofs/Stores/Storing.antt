-- Each kind of store: what it leaves to be seen, and that it keeps what the images hold.
use Prim.Native.Nat.{ℕ, ◌+◌, ◌≤◌, ◌<◌}
use native.Mathlib.Decide.{ℕ_discrete}
use native.Mathlib.Omega.{arith}
use mathlib.Core.Path.{◌≡◌, refl, ◌∙◌}
use mathlib.Core.Logic.{◌≢◌}
use mathlib.Core.Bool.{true, false}
use mathlib.Core.List.{List}
use lib.ListN.{length}
use Rattle.ranges.specs.Look.{count_below}
use Rattle.ranges.specs.Update.{at}
use Rattle.ranges.proofs.Updates.{at_same, at_other, by_at}
use Rattle.layout.specs.Layout.{Layout, none, pages, page_in}
use Rattle.layout.specs.Page.{Page, clean_kind, page_at}
use Rattle.layout.specs.Record.{Record, no_slot, slotted, record_at, bytes_of_record}
use Rattle.layout.specs.Collection.{Collection, collection_at, bytes_of_collection}
use Rattle.layout.specs.Images.{Images, chips_length, records_length, slot_at}
use Rattle.layout.proofs.Codec.{PageFits, length_record, length_collection}
use Rattle.layout.proofs.Records.{SixMembers}
use Rattle.layout.proofs.Pages.{page_in_fits}
use Rattle.steps.specs.Store.{program, erase, slot, stripe, collection, programmed, erased, recorded, apply}
use Rattle.steps.proofs.View.{wiped, length_programmed, page_programmed, length_erased, page_erased, length_recorded, record_stored, collection_stays, collection_stored, records_stay, length_slotted, slot_stored}
use Rattle.rules.specs.Names.{main_number, side_number, names, named}
use Rattle.rules.specs.Blocks.{clean_block}
use Rattle.rules.specs.Sound.{collecting}
use Rattle.rules.proofs.Soundness.Statements.{Usable, RecordSound, CollectionSound, RecordsSound, Stamped, OneTwin, ChipSound, Sound, sound_chip}
use Rattle.rules.proofs.Stores.Names.{main_names, side_names, name_named}
use Rattle.rules.proofs.Stores.Chips.{record_fits, collection_fits, records_keep, collection_records_keep, program_same, program_keeps, erase_same, erase_keeps, Fillable, CleanBut, record_keeps, collection_keeps}
use Rattle.rules.proofs.Stores.Kept.{Copies, CopiesOf, Kept, same_refl, same_number, same_page, no_copies, no_copies_yet}

module _ (l : Layout) where
  open l use {N, W, K, B, S, M}

  module _ (u : Usable l) (s : Images) (f : Sound l s) where
    abbrev r : ℕ → Record
    r = record_at l s.records

    abbrev co : Collection
    co = collection_at l s.records

    -- what each store leaves to be seen
    pub program_view : (c p : ℕ) (page : Page) → c < N + 1 → p < pages l → PageFits l page
        → page_at l (apply l (program c p page) s).chips ≡ at c (at p page (page_at l s.chips c)) (page_at l s.chips)
    unfolding apply
    program_view c p page chip fits g = page_programmed l u.narrow s.chips f.chips c chip p fits page g

    pub stripe_view : (j : ℕ) (r' : Record) → j < S → RecordSound l r' → SixMembers l r'
        → record_at l (apply l (stripe j r') s).records ≡ at j r' r
    unfolding apply
    stripe_view j r' below g beyond = record_stored l u.some s.records f.records j below r' (record_fits l u r' g beyond)

    pub stripe_collection : (j : ℕ) (r' : Record) → j < S → RecordSound l r' → SixMembers l r'
        → collection_at l (apply l (stripe j r') s).records ≡ co
    unfolding apply
    stripe_collection j r' below g beyond = collection_stays l u.some s.records f.records j below r' (record_fits l u r' g beyond)

    pub slot_view : (i : ℕ) (xs : List ℕ) → i < M + 1 → length xs ≡ W → slot_at l (apply l (slot i xs) s).slots ≡ at i xs (slot_at l s.slots)
    unfolding apply
    slot_view i xs h whole = slot_stored l s.slots f.slots i h xs whole

    pub collection_view : (co' : Collection) → CollectionSound l co' → collection_at l (apply l (collection co') s).records ≡ co'
    unfolding apply
    collection_view co' g = collection_stored l u.some s.records f.records co' (collection_fits l u co' g)

    pub collection_records : (co' : Collection) → CollectionSound l co' → record_at l (apply l (collection co') s).records ≡ r
    unfolding apply
    collection_records co' g = records_stay l u.some s.records f.records co' (collection_fits l u co' g)

    -- other chips after a store on one
    module _ (chips' : List ℕ) (c : ℕ) (x' : ℕ → Page) (view : page_at l chips' ≡ at c x' (page_at l s.chips)) where
      chips_sound : ChipSound l r x' c co → (c' : ℕ) → c' < N + 1 → ChipSound l r (page_at l chips' c') c' co
      chips_sound g c' h = rw view (by_at c x' (page_at l s.chips) c' (λ e n. rw (n, e) g) (λ d n. rw n (sound_chip l u s f c' h)))

      module _ (same : (p : ℕ) → p ≢ none l → named l r c p ≡ true → x' p ≡ page_at l s.chips c p) where
        named_stays : (c' p j : ℕ) → j < S → names l r c' p j ≡ true → p ≢ none l → page_at l chips' c' p ≡ page_at l s.chips c' p
        named_stays c' p j h t d = elim (ℕ_discrete c' c) [
          | yes e ↦ rw (e, view, at_same c x' (page_at l s.chips)) (same p d (rw e at (name_named l r c' p j h t)))
          | no q ↦ rw (view, at_other c x' (page_at l s.chips) c' q)
        ]

        kept_chips : length chips' ≡ chips_length l → ChipSound l r x' c co → (CopiesOf l s → Copies l r (page_at l chips' co.chip) co)
            → Kept l s (record { chips = chips'; records = s.records; slots = s.slots })
        kept_chips long g copies = record {
          sound = record {
            chips = long;
            records = f.records;
            slots = f.slots;
            stripes = f.stripes;
            chip = λ c' h d. chips_sound g c' h;
          };
          slot = λ j h. refl;
          bitmap = λ j h. refl;
          memory = λ j h t. refl;
          copies = copies;
          main = λ held c' j chip h.
              same_page l (page_at l s.chips) (page_at l chips') c' (main_number l c' j (r j))
              (named_stays c' (main_number l c' j (r j)) j h (main_names l r c' (main_number l c' j (r j)) j refl));
          side = λ held c' j chip h.
              same_page l (page_at l s.chips) (page_at l chips') c' (side_number l c' j (r j))
              (named_stays c' (side_number l c' j (r j)) j h (side_names l r c' (side_number l c' j (r j)) j refl));
        }

    -- the kinds of store
    pub kept_program : (c b i : ℕ) (page : Page) → c < N + 1 → Fillable l (page_at l s.chips c) b i → PageFits l page → page.kind ≢ clean_kind
        → co.phase ≢ 2 → (collecting co c ≡ false → CleanBut l (page_at l s.chips c) b)
        → Kept l s (apply l (program c (page_in l b i) page) s)
    unfolding apply
    kept_program c b i page chip g fits used free spare =
        let x : ℕ → Page = page_at l s.chips c in
        let p_fits = page_in_fits l b i g.block g.place in
        kept_chips (programmed l c (page_in l b i) page s.chips) c (at (page_in l b i) page x)
        (page_programmed l u.narrow s.chips f.chips c chip (page_in l b i) p_fits page fits)
        (program_same l r x c co (sound_chip l u s f c chip) b i g page used)
        (length_programmed l u.narrow s.chips f.chips c chip (page_in l b i) p_fits page fits ∙ f.chips)
        (program_keeps l r x c co (sound_chip l u s f c chip) b i g page used free spare)
        (λ held. no_copies_yet l r (page_at l (programmed l c (page_in l b i) page s.chips) co.chip) co free)

    pub kept_erase : (c b : ℕ) → c < N + 1 → b < B → ((i : ℕ) → i < K → named l r c (page_in l b i) ≡ false)
        → (co.phase ≡ 2 → (co.chip ≡ c) × (b ≡ co.victim)) → Kept l s (apply l (erase c b) s)
    unfolding apply
    kept_erase c b chip block unnamed is-victim =
        let x : ℕ → Page = page_at l s.chips c in
        kept_chips (erased l c b s.chips) c (wiped l b x)
        (page_erased l u.narrow s.chips f.chips c chip b block)
        (erase_same l r x c co (sound_chip l u s f c chip) b block unnamed)
        (length_erased l u.narrow s.chips f.chips c chip b block ∙ f.chips)
        (erase_keeps l r x c co (sound_chip l u s f c chip) b block unnamed (λ busy e. (is-victim busy).1))
        (λ held. no_copies l r (page_at l (erased l c b s.chips) co.chip) co
        (λ busy i h. let (e, e') = is-victim busy in rw (e, ← e') (unnamed i h)))

    pub kept_slot : (i : ℕ) (xs : List ℕ) → i < M + 1 → length xs ≡ W → ((j : ℕ) → j < S → (r j).slot ≢ i) → Kept l s (apply l (slot i xs) s)
    unfolding apply
    kept_slot i xs h whole free = record {
      sound = record {
        chips = f.chips;
        records = f.records;
        slots = length_slotted l s.slots f.slots i h xs whole ∙ f.slots;
        stripes = f.stripes;
        chip = f.chip;
      };
      slot = λ j below. refl;
      bitmap = λ j below. refl;
      memory = λ j below t. rw (slot_stored l s.slots f.slots i h xs whole, at_other i xs (slot_at l s.slots) (r j).slot (free j below));
      copies = λ held. held;
      main = λ held c j chip below. same_refl l (page_at l s.chips) c (main_number l c j (r j));
      side = λ held c j chip below. same_refl l (page_at l s.chips) c (side_number l c j (r j));
    }

    -- the records changed, and nothing else
    pub sound_records : (records' : List ℕ) → length records' ≡ records_length l → (r'' : ℕ → Record) (co'' : Collection)
        → record_at l records' ≡ r'' → collection_at l records' ≡ co'' → RecordsSound l r'' co''
        → ((c : ℕ) → c < N + 1 → ChipSound l r'' (page_at l s.chips c) c co'')
        → Sound l (record { chips = s.chips; records = records'; slots = s.slots })
    sound_records records' long r'' co'' e e' g chip = record {
      chips = f.chips;
      records = long;
      slots = f.slots;
      stripes = rw (e, e') g;
      chip = λ c h d. rw (e, e') (chip c h);
    }

    pub kept_collection : (co' : Collection) → CollectionSound l co'
        → ((c : ℕ) → c < N + 1 → collecting co' c ≡ false → (b : ℕ) × (b < B) × (clean_block l (page_at l s.chips c) b ≡ true))
        → (co'.phase ≡ 1 → (i : ℕ) → i < K → named l r co'.chip (page_in l co'.destination i) ≡ false)
        → (co'.phase ≡ 2 → (i : ℕ) → i < K → named l r co'.chip (page_in l co'.victim i) ≡ true
        → OneTwin l r (page_at l s.chips co'.chip) co'.chip co'.destination (page_in l co'.victim i))
        → Copies l r (page_at l s.chips co'.chip) co'
        → Kept l s (apply l (collection co') s)
    unfolding apply
    kept_collection co' g spare first second due =
        let records' = recorded l S (bytes_of_collection l co') s.records in
        let e : record_at l records' ≡ r = records_stay l u.some s.records f.records co' (collection_fits l u co' g) in
        let e' : collection_at l records' ≡ co' = collection_stored l u.some s.records f.records co' (collection_fits l u co' g) in
        record {
          sound =
              sound_records records'
              (length_recorded l u.some s.records f.records S (omega arith) (bytes_of_collection l co') (length_collection l u.some co') ∙ f.records)
              r co' e e' (collection_records_keep l r co f.stripes co' g)
              (λ c h.
              collection_keeps l r (page_at l s.chips c) c co (sound_chip l u s f c h) co' (spare c h)
              (λ busy here. rw (← here) (first busy))
              (λ busy here. rw (← here) (second busy)));
          slot = λ j below. rw e;
          bitmap = λ j below. rw e;
          memory = λ j below t. refl;
          copies = λ held. rw (e, e') due;
          main = λ held c j chip below.
              same_number l (page_at l s.chips) c (main_number l c j (r j)) (main_number l c j (record_at l records' j)) (rw e);
          side = λ held c j chip below.
              same_number l (page_at l s.chips) c (side_number l c j (r j)) (side_number l c j (record_at l records' j)) (rw e);
        }

    -- a record store at rest
    pub sound_stripe : (j : ℕ) (r' : Record) → j < S → RecordSound l r' → SixMembers l r'
        → co.phase ≡ 0
        → (r'.slot ≢ no_slot → (i : ℕ) → i < S → i ≢ j → (r i).slot ≢ r'.slot) → count_below S (slotted (at j r' r)) ≤ M
        → ((c : ℕ) → c < N + 1 → main_number l c j r' ≢ none l → Stamped l (page_at l s.chips c) c j (main_number l c j r'))
        → ((c : ℕ) → c < N + 1 → side_number l c j r' ≢ none l → Stamped l (page_at l s.chips c) c j (side_number l c j r'))
        → Sound l (apply l (stripe j r') s)
    unfolding apply
    sound_stripe j r' below g beyond rest own few main side =
        sound_records (recorded l j (bytes_of_record l r') s.records)
        (length_recorded l u.some s.records f.records j (omega arith) (bytes_of_record l r') (length_record l u.some r') ∙ f.records)
        (at j r' r) co
        (record_stored l u.some s.records f.records j below r' (record_fits l u r' g beyond))
        (collection_stays l u.some s.records f.records j below r' (record_fits l u r' g beyond))
        (records_keep l r co f.stripes j r' g own few)
        (λ c h. record_keeps l r (page_at l s.chips c) c co (sound_chip l u s f c h) j r' (main c h) (side c h) rest)
