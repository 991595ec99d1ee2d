-- Document 01, "Sound images".
use Rattle.std.specs.Prelude.{ℕ, ◌+◌, ◌^◌, Bool, not, cond, ◌&&◌, ◌||◌, leb, ltb, eqb}
use Rattle.ranges.specs.Look.{all_below, some_below, count_below}
use Rattle.layout.specs.Layout.{Layout, is_none, pages, page_in}
use Rattle.layout.specs.Page.{Page}
use Rattle.layout.specs.Record.{Record, bit, no_slot, slotted, slot_of}
use Rattle.layout.specs.Collection.{Collection}
use Rattle.rules.specs.Names.{main_number, side_number, kind_on, member_byte, unnamed}
use Rattle.rules.specs.Blocks.{clean_block, ordered_block, named_in, unnamed_in}

-- a collection is in phase 1 or 2 on chip c
abbrev pub collecting : Collection → ℕ → Bool
collecting co c = (eqb co.phase 1 || eqb co.phase 2) && eqb co.chip c

-- chip c is the lost one
abbrev pub is_lost : ℕ → ℕ → Bool
is_lost lost c = eqb c lost

-- "no slot in two records": none before j has its slot
abbrev pub own_slot : (ℕ → Record) → ℕ → Bool
own_slot r j = not (slotted r j) || not (some_below j (slot_of r (r j).slot))

module _ (l : Layout) where
  open l use {N, K, B, S, M}

  -- "page numbers are none or below B × K"
  abbrev pub page_number : ℕ → Bool
  page_number p = is_none l p || ltb p (pages l)

  -- "and none for members N and above"
  abbrev pub only_members : Record → ℕ → Bool
  only_members r m = ltb m N || (is_none l (r.current m) && is_none l (r.old m))

  -- "an old number only where the bit is set"
  abbrev pub old_under_bit : Record → ℕ → Bool
  old_under_bit r m = is_none l (r.old m) || bit r m

  -- "a set bit has a current number, different from the old one"
  abbrev pub current_under_bit : Record → ℕ → Bool
  current_under_bit r m = not (bit r m) || (not (is_none l (r.current m)) && not (eqb (r.current m) (r.old m)))

  -- "an old number, or a current one with its bit clear, needs a parity page"
  abbrev pub parity_under : Record → ℕ → Bool
  parity_under r m =
      (is_none l (r.old m) && (is_none l (r.current m) || bit r m)) || not (is_none l r.parity)

  -- what the record says of member m
  unfoldable pub member_sound : Record → ℕ → Bool
  member_sound r m =
      page_number (r.current m)
      && page_number (r.old m)
      && only_members r m
      && old_under_bit r m
      && current_under_bit r m
      && parity_under r m

  -- "slot none exactly when the bitmap is 0, else at most M"
  abbrev pub slot_sound : Record → Bool
  slot_sound r = cond (eqb r.bitmap 0) (eqb r.slot no_slot) (leb r.slot M)

  -- one record; "bitmap bits only below N"; "the last four bytes are 0"
  unfoldable pub record_sound : Record → Bool
  record_sound r =
      all_below 6 (member_sound r)
      && page_number r.parity
      && ltb r.bitmap (2 ^ N)
      && slot_sound r
      && eqb r.rest 0

  -- "phase (0, 1, 2)", "then zeros; in phase 0 all zero"; "outside phase 0, chip at most N, both blocks below B and different"
  unfoldable pub collection_sound : Collection → Bool
  collection_sound co =
      eqb co.rest 0
      && cond (eqb co.phase 0)
      (eqb co.chip 0 && eqb co.victim 0 && eqb co.destination 0)
      (leb co.phase 2
      && leb co.chip N
      && ltb co.victim B
      && ltb co.destination B
      && not (eqb co.victim co.destination))

  module _ (r : ℕ → Record) where
    -- the record of stripe j
    abbrev pub sound_at : ℕ → Bool
    sound_at j = record_sound (r j)

    -- "Records"; "at most M records with a slot"
    unfoldable pub records_sound : Collection → Bool
    records_sound co =
        all_below S sound_at
        && all_below S (own_slot r)
        && leb (count_below S (slotted r)) M
        && collection_sound co

  -- of chip c, with its pages x: "each page a record names has that stripe, kind and member"
  abbrev pub stamped_page : (ℕ → Page) → ℕ → ℕ → ℕ → Bool
  stamped_page x c j p =
      eqb (x p).stripe j && eqb (x p).kind (kind_on l c j) && eqb (x p).member (member_byte l c j)

  -- the page that a number names, if any
  abbrev pub stamped_number : (ℕ → Page) → ℕ → ℕ → ℕ → Bool
  stamped_number x c j p = is_none l p || stamped_page x c j p

  -- both numbers of stripe j on this chip
  unfoldable pub stamped_stripe : (ℕ → Record) → (ℕ → Page) → ℕ → ℕ → Bool
  stamped_stripe r x c j = stamped_number x c j (main_number l c j (r j)) && stamped_number x c j (side_number l c j (r j))

  -- "Phase 1: no record names a page of the destination."
  unfoldable pub phase1_sound : (ℕ → Record) → ℕ → ℕ → Bool
  phase1_sound r c destination = all_below K (unnamed_in l r c destination)

  module _ (r : ℕ → Record) (x : ℕ → Page) (c : ℕ) where
    -- page q has the same kind, member and stripe as p, is copied from it and named by no record
    unfoldable pub twin : ℕ → ℕ → Bool
    twin p q =
        eqb (x q).kind (x p).kind
        && eqb (x q).member (x p).member
        && eqb (x q).stripe (x p).stripe
        && eqb (x q).copied p
        && unnamed l r c q

    -- place i of the destination holds the twin of page p
    abbrev pub twin_in : ℕ → ℕ → ℕ → Bool
    twin_in destination p i = twin p (page_in l destination i)

    -- "Phase 2: each page named in the victim has exactly one page in the destination with the same .."
    abbrev pub one_twin : ℕ → ℕ → ℕ → Bool
    one_twin victim destination i =
        not (named_in l r c victim i)
        || eqb (count_below K (twin_in destination (page_in l victim i))) 1

    -- of all places of the victim
    unfoldable pub phase2_sound : ℕ → ℕ → Bool
    phase2_sound victim destination = all_below K (one_twin victim destination)

    -- "some block is wholly clean, unless a collection is in phase 1 or 2 on that chip"
    unfoldable pub chip_sound : Collection → Bool
    chip_sound co =
        all_below S (stamped_stripe r x c)
        && all_below B (ordered_block l x)
        && cond (collecting co c)
        (cond (eqb co.phase 1) (phase1_sound r c co.destination) (phase2_sound co.victim co.destination))
        (some_below B (clean_block l x))

  -- "Spares, on every chip but the lost one": y gives the pages of each chip
  abbrev pub sound_or_exempt : (ℕ → Record) → (ℕ → ℕ → Page) → Collection → (ℕ → Bool) → ℕ → Bool
  sound_or_exempt r y co exempt c = exempt c || chip_sound r (y c) c co

  -- all chips but those that are exempt
  unfoldable pub spares_sound : (ℕ → Record) → (ℕ → ℕ → Page) → Collection → (ℕ → Bool) → Bool
  spares_sound r y co exempt = all_below (N + 1) (sound_or_exempt r y co exempt)
