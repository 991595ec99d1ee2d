-- What the loops over a block and over a chip have found so far.
use Prim.Native.Nat.{ℕ, zero, suc, ◌+◌, ◌-◌, ◌*◌, ◌/◌, ◌≤◌, ◌<◌}
use native.Mathlib.Nat.{add-mul, suc-mul, zero-mul, le_refl, le-div_iff_mul-le, div-mul-le_self, mul-le-mul_right}
use native.Mathlib.Numerals.{add-one}
use native.Mathlib.Omega.{arith}
use mathlib.Core.Path.{◌≡◌, refl, sym, ◌∙◌}
use mathlib.Core.Bool.{Bool, true, false, not, ◌&&◌, ◌||◌}
use mathlib.Core.List.{List, [], ◌∷◌, map}
use mathlib.Core.Logic.{◌≢◌}
use lib.ListN.{length, get_or, set, replicate, length-set, get_or-replicate}
use lib.Seq.{get_or-set_same, get_or-set_other, ext_get_or}
use lib.Dec.{eqb, ltb}
use borrow.Author.Tests.{eq-eqb, ne_eqb, lt-ltb, le-ltb}
use Rattle.std.specs.Prelude.{Option}
use Rattle.ranges.specs.declared.Least.{Least}
use Rattle.ranges.specs.Look.{all_below, some_below, count_below, least_so_far}
use Rattle.ranges.proofs.Counts.{count_start, count_le}
use Rattle.ranges.proofs.Looks.{at_last, by_order, by_test, all_true, all_at, all_cong}
use Rattle.ranges.proofs.Tests.{or_right, or_else, cond_same}
use Rattle.layout.specs.Layout.{Layout, page_in}
use Rattle.layout.specs.Page.{Page}
use Rattle.layout.specs.Record.{Record}
use Rattle.rules.specs.Blocks.{clean_in, used_in, in_order, clean_block, full_block, ordered_block}
use Rattle.codec.specs.Scan.{clean_tag, StampsOf}
use Rattle.names.specs.Stamps.{by_stamp}
use Rattle.ranges.proofs.Tallies.{count_from}
use Rattle.spares.specs.declared.block.Scan.{Scan}
use Rattle.spares.specs.declared.ChipScan.{ChipScan}
use Rattle.spares.specs.declared.block.Fill.{Fill}
use Rattle.spares.specs.Scans.{unscanned, by_stamp_in, FieldsOf, fill_of, by_stamp_count, loose, block_scan, chip_scan, scan_of, chip_scans}

-- ---- blocks that are looked at together, of k pages each

-- as many as the arrays have room for
pub together : (k : ℕ) → 0 < k → k ≤ 128 → (0 < 128 / k) × (128 / k * k ≤ 128)
together k some few = ((le-div_iff_mul-le some).1 (omega (arith, few)), div-mul-le_self 128 k)

-- s of them, or all that are left
module _ (b s n k : ℕ) (few : s * k ≤ 128) where
  pub stop_some : 0 < s → s < n - b → (b < b + s) × (b + s ≤ n) × ((b + s - b) * k ≤ 128)
  stop_some some less = let e : b + s - b ≡ s = omega arith in (omega arith, omega arith, rw e few)

module _ (k : ℕ) {from : ℕ} where
  -- those before block b end where it begins
  pub together_end : (b : ℕ) → from ≤ b → from * k + (b - from) * k ≡ b * k
  together_end b high = let e : from + (b - from) ≡ b = omega arith in rw (← add-mul, e)

  -- block b, whose pages stand from place o on, is within those before the end
  pub together_in : (b o end : ℕ) → from < end → from * k + o ≡ b * k → b < end → o + k ≤ (end - from) * k
  together_in b o end some here less = omega (arith, here, together_end end (omega arith), suc-mul b k, mul-le-mul_right k less)

-- of fewer pages the same holds
pub stamps_fewer : {x : ℕ → Page} {first m n : ℕ} {tags stripes : List ℕ} → m ≤ n → StampsOf x first n tags stripes → StampsOf x first m tags stripes
stamps_fewer few h = record { tag = λ i low. h.tag i (omega arith); stripe = λ i low. h.stripe i (omega arith) }

pub fields_fewer : (l : Layout) (c : ℕ) {m n : ℕ} {tags stripes fields : List ℕ} → m ≤ n → FieldsOf l c n tags stripes fields → FieldsOf l c m tags stripes fields
fields_fewer l c few h = record { is = λ i low. h.is i (omega arith) }

-- ---- block b of a chip, with its pages x; its tags stand from place o on

-- the page at place i is clean by its tag
abbrev pub free_tag : List ℕ → ℕ → ℕ → Bool
free_tag tags o i = clean_tag (get_or tags (o + i) 0)

-- it is used
abbrev pub used_tag : List ℕ → ℕ → ℕ → Bool
used_tag tags o i = not (free_tag tags o i)

-- it is used, or the one behind it is clean
abbrev pub order_tag : List ℕ → ℕ → ℕ → Bool
order_tag tags o i = used_tag tags o i || clean_tag (get_or tags (o + i + 1) 0)

module _ (l : Layout) {x : ℕ → Page} (b o first : ℕ) {tags stripes : List ℕ} (here : first + o ≡ b * l.K) (h : StampsOf x first (o + l.K) tags stripes) where
  open l use {K}

  -- place o + i of the arrays is place i of the block
  pub place_is : (i : ℕ) → first + (o + i) ≡ page_in l b i
  place_is i = omega (arith, here)

  free_is : (i : ℕ) → i < K → free_tag tags o i ≡ clean_in l x b i
  free_is i low = rw ((h.tag (o + i) (omega arith)).kind, place_is i)

  -- all tags tell the order of the block
  pub order_tags : all_below (K - 1) (order_tag tags o) ≡ ordered_block l x b
  unfolding ordered_block
  order_tags = all_cong (K - 1) (order_tag tags o) (in_order l x b) (λ i low. let next : o + i + 1 ≡ o + (i + 1) = omega arith in rw (next, free_is i (omega arith), free_is (i + 1) (omega arith)))

  -- and whether all its pages are clean, and whether none is
  pub fill_tags : record { clean = all_below K (free_tag tags o); full = all_below K (used_tag tags o) } ≡ fill_of l x b
  unfolding fill_of clean_block full_block
  fill_tags = rw (all_cong K (free_tag tags o) (clean_in l x b) free_is, all_cong K (used_tag tags o) (used_in l x b) (λ i low. rw (free_is i low)))

-- a block that is wholly clean, or full, is in order
pub alike_ordered : (l : Layout) (x : ℕ → Page) (b : ℕ) {f : Fill} → f ≡ fill_of l x b → f.clean || f.full ≡ true → ordered_block l x b ≡ true
unfolding fill_of clean_block full_block ordered_block
alike_ordered l x b e t =
    let K = l.K in
    all_true (K - 1) (in_order l x b)
    (λ i low. by_test (all_below K (clean_in l x b))
    (λ clean. or_right (used_in l x b i) (all_at K (clean_in l x b) clean (i + 1) (omega arith)))
    (λ some. rw (all_at K (used_in l x b) (or_else (all_below K (clean_in l x b)) (all_below K (used_in l x b)) (rw e at t) some) i (omega arith))))

-- order, fill and the number of names make the scan of the block
pub block_scan_lem : (l : Layout) (r : ℕ → Record) (x : ℕ → Page) (c b : ℕ) {o : Bool} {f : Fill} {named : ℕ}
    → o ≡ ordered_block l x b → f ≡ fill_of l x b → named ≡ count_below l.K (by_stamp_in l r x c b)
    → record { ordered = o; clean = f.clean; full = f.full; named = named } ≡ block_scan l r x c b
unfolding block_scan fill_of by_stamp_count
block_scan_lem l r x c b o e n = rw (o, e, n)

-- ---- the blocks of chip c below b, with its pages x

-- nothing before the first
pub scan_start : {v : Option Least} → ((f : ℕ → Bool) (m : ℕ → ℕ) → v ≡ least_so_far f m 0) → (l : Layout) (r : ℕ → Record) (x : ℕ → Page) (c : ℕ)
    → record { ordered = true; clean = false; named = 0; victim = v } ≡ chip_scan l r x c 0
unfolding chip_scan all_below some_below
scan_start h l r x c = rw (zero-mul, count_start (by_stamp l r x c), h (loose l r x c) (by_stamp_count l r x c))

-- s with block b, of which n is the scan, and the victim v
module _ (l : Layout) (r : ℕ → Record) (x : ℕ → Page) (c b : ℕ) {s : ChipScan} {n : Scan} (h : s ≡ chip_scan l r x c b) (e : n ≡ block_scan l r x c b) where
  open l use {K}

  -- no more names than pages
  pub scan_few : s.named + n.named ≤ (b + 1) * K
  unfolding chip_scan block_scan by_stamp_count
  scan_few = rw (h, e, add-one, suc-mul) (omega (arith, count_le (b * K) (by_stamp l r x c), count_le K (by_stamp_in l r x c b)))

  pub scan_more : {v : Option Least}
      → ((f : ℕ → Bool) (m : ℕ → ℕ) → s.victim ≡ least_so_far f m b → n.full && ltb n.named K ≡ f b → (f b ≡ true → n.named ≡ m b) → v ≡ least_so_far f m (b + 1))
      → record { ordered = s.ordered && n.ordered; clean = s.clean || n.clean; named = s.named + n.named; victim = v } ≡ chip_scan l r x c (b + 1)
  unfolding chip_scan block_scan all_below some_below by_stamp_count loose
  scan_more v =
      let is = v (loose l r x c) (by_stamp_count l r x c) (rw h) (rw e) (λ _. rw e) in
      rw (is, h, e, add-one b, suc-mul, count_from (b * K) K (by_stamp l r x c))

-- ---- all chips

-- of a list for seven chips, what it has for chip c
at_seven : (f : ℕ → ChipScan) (c : ℕ) → c < 7 → get_or (map f (0 ∷ 1 ∷ 2 ∷ 3 ∷ 4 ∷ 5 ∷ 6 ∷ [])) c unscanned ≡ f c
at_seven f zero h = refl
at_seven f (suc zero) h = refl
at_seven f (suc (suc zero)) h = refl
at_seven f (suc (suc (suc zero))) h = refl
at_seven f (suc (suc (suc (suc zero)))) h = refl
at_seven f (suc (suc (suc (suc (suc zero))))) h = refl
at_seven f (suc (suc (suc (suc (suc (suc zero)))))) h = refl
at_seven f (suc (suc (suc (suc (suc (suc (suc c))))))) h = absurd (omega arith)

-- the row of the blocks from b to e: the chips below c have them, the others not yet
pub record Row (l : Layout) (r : ℕ → Record) (y : ℕ → ℕ → Page) (lost b e c : ℕ) (scans : List ChipScan) : Type 0 where
  pub long : length scans ≡ 7
  pub made : (i : ℕ) → i < c → get_or scans i unscanned ≡ scan_of l r y lost e i
  pub due : (i : ℕ) → c ≤ i → i < 7 → get_or scans i unscanned ≡ scan_of l r y lost b i

module _ (l : Layout) (r : ℕ → Record) (y : ℕ → ℕ → Page) (lost b : ℕ) where
  open l use {N}

  -- the blocks of a chip that is there and not lost
  scan_there : (c : ℕ) → c ≤ N → c ≢ lost → scan_of l r y lost b c ≡ chip_scan l r (y c) c b
  scan_there c there d = rw (ne_eqb c lost d, le-ltb N c there)

  pub scans_at : {scans : List ChipScan} → scans ≡ chip_scans l r y lost b → N ≤ 6 → (c : ℕ) → c ≤ N → c ≢ lost
      → get_or scans c unscanned ≡ chip_scan l r (y c) c b
  unfolding chip_scans
  scans_at e few c there d = rw e (at_seven (scan_of l r y lost b) c (omega arith) ∙ scan_there c there d)

  -- of no other chip a block is looked at
  scan_gone : (e c : ℕ) → eqb c lost || ltb N c ≡ true → scan_of l r y lost b c ≡ scan_of l r y lost e c
  scan_gone e c t = rw t

  -- no chip yet
  pub row_start : (e : ℕ) {scans : List ChipScan} → scans ≡ chip_scans l r y lost b → Row l r y lost b e 0 scans
  unfolding chip_scans
  row_start e q = rw q (record { long = refl; made = λ i less. absurd (omega arith); due = λ i _. at_seven (scan_of l r y lost b) i })

module _ {l : Layout} {r : ℕ → Record} {y : ℕ → ℕ → Page} {lost b e c : ℕ} {scans : List ChipScan} (h : Row l r y lost b e c scans) where
  open l use {N}

  -- the next chip, if it is not lost
  pub row_next : c < 7 → c ≤ N → c ≢ lost → get_or scans c unscanned ≡ chip_scan l r (y c) c b
  row_next low there d = h.due c (le_refl c) low ∙ scan_there l r y lost b c there d

  -- with it
  pub row_more : {s : ChipScan} → c < 7 → c ≤ N → c ≢ lost → s ≡ chip_scan l r (y c) c e → Row l r y lost b e (c + 1) (set scans c s)
  row_more {s} low there d is = record {
    long = length-set scans c s ∙ h.long;
    made = λ i less. at_last i c (rw add-one at less)
        (λ before. get_or-set_other scans c i s unscanned (λ q. omega arith) ∙ h.made i before)
        (λ q. rw q (get_or-set_same scans c s unscanned (rw h.long low) ∙ is ∙ sym (scan_there l r y lost e c there d)));
    due = λ i more few. get_or-set_other scans c i s unscanned (λ q. omega arith) ∙ h.due i (omega arith) few;
  }

  -- with the lost one
  pub row_lost : c < 7 → c ≡ lost → Row l r y lost b e (c + 1) scans
  row_lost low is = record {
    long = h.long;
    made = λ i less. at_last i c (rw add-one at less) (h.made i)
        (λ q. rw q (h.due c (le_refl c) low ∙ scan_gone l r y lost b e c (rw (eq-eqb c lost is))));
    due = λ i more. h.due i (omega arith);
  }

  -- after the last
  pub row_all : c ≡ N + 1 → scans ≡ chip_scans l r y lost e
  unfolding chip_scans
  row_all last = ext_get_or unscanned scans (chip_scans l r y lost e) h.long (λ i less.
      let low : i < 7 = rw h.long at less in
      by_order i c (h.made i) (λ behind. h.due i behind low ∙ scan_gone l r y lost b e i (or_right (eqb i lost) (lt-ltb N i (omega arith))))
      ∙ sym (at_seven (scan_of l r y lost e) i low))

-- no block of any chip yet
pub all_start : (l : Layout) (r : ℕ → Record) (y : ℕ → ℕ → Page) (lost : ℕ) {s : ChipScan}
    → ((c : ℕ) → s ≡ chip_scan l r (y c) c 0) → replicate 7 s ≡ chip_scans l r y lost 0
unfolding chip_scans
all_start l r y lost {s} h = ext_get_or unscanned (replicate 7 s) (chip_scans l r y lost 0) refl (λ i low.
    get_or-replicate 7 i s unscanned low ∙ h i
    ∙ sym (at_seven (scan_of l r y lost 0) i low ∙ rw (cond_same (eqb i lost || ltb l.N i) 0)))
