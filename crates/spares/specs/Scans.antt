-- What one pass over the spare bytes of a chip brings.
use Rattle.std.specs.Prelude.{ℕ, ◌+◌, ◌*◌, ◌≤◌, ◌<◌, ◌≡◌, Bool, false, not, cond, ◌&&◌, ◌||◌, None, List, [], ◌∷◌, map, ◌≢◌, get_or, eqb, ltb}
use Rattle.ranges.specs.Look.{all_below, some_below, count_below, least_so_far}
use Rattle.layout.specs.Layout.{Layout, page_in}
use Rattle.layout.specs.Page.{Page}
use Rattle.layout.specs.Record.{Record}
use Rattle.layout.specs.Collection.{Collection}
use Rattle.layout.specs.Rotation.{parity_chip, member_on}
use Rattle.rules.specs.Names.{kind_on, member_byte}
use Rattle.rules.specs.Blocks.{clean_block, full_block, ordered_block}
use Rattle.rules.specs.Sound.{is_lost, spares_sound}
use Rattle.codec.specs.Scan.{tag_of, first_old, last_number, no_index, number_of}
use Rattle.names.specs.Stamps.{by_stamp}
use Rattle.spares.specs.declared.block.Scan.{Scan}
use Rattle.spares.specs.declared.ChipScan.{ChipScan}
use Rattle.spares.specs.declared.block.Fill.{Fill}
use Rattle.spares.specs.declared.Survey.{Survey}

-- record r has page p in this field, or as the old page beside it; the parity page has no old one beside it
unfoldable pub has_number : Record → ℕ → ℕ → Bool
has_number r field p =
    not (eqb field no_index)
    && (eqb (number_of r field) p || (not (eqb field last_number) && eqb (number_of r (first_old + field)) p))

-- what stands for no chip
abbrev pub unscanned : ChipScan
unscanned = record { ordered = false; clean = false; named = 0; victim = None }

module _ (l : Layout) where
  open l use {N, K, B, S}

  -- place i of block b of chip c is named, told by its stamp
  abbrev pub by_stamp_in : (ℕ → Record) → (ℕ → Page) → ℕ → ℕ → ℕ → Bool
  by_stamp_in r x c b i = by_stamp l r x c (page_in l b i)

  -- the index of chip c's page number, the main one, in the record of stripe j
  unfoldable pub field_on : ℕ → ℕ → ℕ
  field_on c j = cond (eqb c (parity_chip l j)) last_number (member_on l j c)

  -- the tag of that page
  abbrev pub tag_on : ℕ → ℕ → ℕ
  tag_on c j = tag_of (kind_on l c j) (member_byte l c j)

  -- the same index for a page of chip c with a tag and stripe j; no index where the tag is not right or there is no such stripe
  unfoldable pub field_of : ℕ → ℕ → ℕ → ℕ
  field_of c tag j = cond (eqb tag (tag_on c j) && ltb j S) (field_on c j) no_index

  -- of so many pages
  pub record FieldsOf (c count : ℕ) (tags stripes fields : List ℕ) : Type 0 where
    pub is : (i : ℕ) → i < count → get_or fields i 0 ≡ field_of c (get_or tags i 0) (get_or stripes i 0)

  -- where there is a field, it is the parity's or a member's in the record of a stripe
  pub record FieldFits (j field : ℕ) : Type 0 where
    pub stripe : field ≢ no_index → j < S
    pub low : field ≢ no_index → field ≤ last_number
    pub member : field ≢ no_index → field ≢ last_number → field < first_old

  pub record FieldsFit (count : ℕ) (stripes fields : List ℕ) : Type 0 where
    pub fit : (i : ℕ) → i < count → FieldFits (get_or stripes i 0) (get_or fields i 0)

  -- whether all pages of block b are clean, and whether none is
  unfoldable pub fill_of : (ℕ → Page) → ℕ → Fill
  fill_of x b = record { clean = clean_block l x b; full = full_block l x b }

  module _ (r : ℕ → Record) (x : ℕ → Page) (c : ℕ) where
    -- how many pages of block b are named, told by their stamps
    unfoldable pub by_stamp_count : ℕ → ℕ
    by_stamp_count b = count_below K (by_stamp_in r x c b)

    -- block b is full and not all its pages are
    unfoldable pub loose : ℕ → Bool
    loose b = full_block l x b && ltb (by_stamp_count b) K

    -- of block b
    unfoldable pub block_scan : ℕ → Scan
    block_scan b =
        record {
          ordered = ordered_block l x b;
          clean = clean_block l x b;
          full = full_block l x b;
          named = by_stamp_count b;
        }

    -- of the blocks below b: all are in order, some block is wholly clean, so many pages are named; of the loose ones the victim has
    -- fewest named pages
    unfoldable pub chip_scan : ℕ → ChipScan
    chip_scan b =
        record {
          ordered = all_below b (ordered_block l x);
          clean = some_below b (clean_block l x);
          named = count_below (b * K) (by_stamp l r x c);
          victim = least_so_far loose by_stamp_count b;
        }

  -- of chip c, with the pages y of each chip: the blocks below b; no block of the lost chip, and of one that is not there
  abbrev pub scan_of : (ℕ → Record) → (ℕ → ℕ → Page) → ℕ → ℕ → ℕ → ChipScan
  scan_of r y lost b c = chip_scan r (y c) c (cond (eqb c lost || ltb N c) 0 b)

  -- of all chips
  unfoldable pub chip_scans : (ℕ → Record) → (ℕ → ℕ → Page) → ℕ → ℕ → List ChipScan
  chip_scans r y lost b = map (scan_of r y lost b) (0 ∷ 1 ∷ 2 ∷ 3 ∷ 4 ∷ 5 ∷ 6 ∷ [])

  -- with whether the spares are sound
  abbrev pub survey : (ℕ → Record) → (ℕ → ℕ → Page) → Collection → ℕ → Survey
  survey r y co lost = record { sound = spares_sound l r y co (is_lost lost); chips = chip_scans r y lost B }
