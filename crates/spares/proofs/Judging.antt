-- The verdict on the spares in three parts: the stamps of all named pages, the shape of every chip, and the collection under way.
use Prim.Native.Nat.{ℕ, zero, suc, ◌+◌, ◌*◌, ◌≤◌, ◌<◌}
use native.Mathlib.Numerals.{add-one}
use native.Mathlib.Omega.{arith}
use mathlib.Core.Path.{◌≡◌, refl, sym, ap₂, ◌∙◌}
use mathlib.Core.Logic.{◌≢◌}
use mathlib.Core.Bool.{Bool, true, false, not, cond, ◌&&◌, ◌||◌, and-true, and-false, and_assoc, or-true, or-false}
use mathlib.Core.List.{List}
use lib.Dec.{eqb}
use borrow.Author.Tests.{eq-eqb, ne_eqb}
use Rattle.ranges.specs.Look.{all_below, some_below, count_below, sum_below}
use Rattle.ranges.proofs.Looks.{by_same, all_true, all_at, all_cong, all_both}
use Rattle.ranges.proofs.Counts.{count_le}
use Rattle.ranges.proofs.Tests.{or_else}
use Rattle.layout.specs.declared.Geometry.{Geometry}
use Rattle.layout.specs.Layout.{Layout, layout_of, pages}
use Rattle.layout.specs.Page.{Page, page_at}
use Rattle.layout.specs.Record.{Record, record_at}
use Rattle.layout.specs.Collection.{Collection, collection_at}
use Rattle.layout.proofs.Limits.{within}
use Rattle.rules.specs.Blocks.{clean_block, ordered_block}
use Rattle.rules.specs.Sound.{is_lost, collecting, stamped_stripe, phase1_sound, phase2_sound, chip_sound, sound_or_exempt, spares_sound}
use Rattle.rules.proofs.Soundness.Statements.{RecordsSound}
use Rattle.rules.proofs.Soundness.RecordChecks.{records_sound_lem}
use Rattle.codec.specs.declared.CollectionRecord.{CollectionRecord}
use Rattle.codec.specs.Fit.{ChipsFit}
use Rattle.codec.specs.Views.{CollectionIs}
use Rattle.names.specs.Stamps.{by_stamp, StampsPass, names_kept}
use Rattle.ranges.proofs.Tallies.{same_tests}
use Rattle.spares.specs.declared.ChipScan.{ChipScan}
use Rattle.names.specs.Checked.{RecordsPass}
use Rattle.spares.specs.Scans.{chip_scan}
use Rattle.spares.specs.Phases.{phase_sound}
use Rattle.names.proofs.Totals.{found_on, stamped_or_lost, total_stamps}

-- ---- tests

-- the test of one chip in three: lost or not, tags, order, clean block, phase 1, phase 2, the collection's chip, and what the phases ask
split : (lost t o k e f h p q : Bool)
    → lost || (t && o && cond ((e || f) && h) (cond e p q) k)
    ≡ (lost || t) && (lost || (o && (k || ((e || f) && h)))) && (lost || (not ((e || f) && h) || cond e p (cond f q true)))
split true t o k e f h p q = refl
split false t o k true f true p q = rw (or-true k, and-true o)
split false t o k true f false p q = rw (or-false k, and-true (t && (o && k))) (and_assoc t o k)
split false t o k false true true p q = rw (or-true k, and-true o)
split false t o k false true false p q = rw (or-false k, and-true (t && (o && k))) (and_assoc t o k)
split false t o k false false h p q = rw (or-false k, and-true (t && (o && k))) (and_assoc t o k)

-- outside phases 1 and 2 the phases ask nothing
idle : (lost e f p q : Bool) → lost || (not ((e || f) && true) || cond e p (cond f q true)) ≡ lost || cond e p (cond f q true)
idle lost true f p q = refl
idle lost false true p q = refl
idle lost false false p q = refl

-- ---- all chips, with the pages y of each

module _ (l : Layout) (r : ℕ → Record) (y : ℕ → ℕ → Page) (co : Collection) (lost : ℕ) where
  open l use {N, B}

  -- every block of chip c is in order and some block is clean or collected into, or the chip is lost
  abbrev pub shaped_or_lost : ℕ → Bool
  shaped_or_lost c = eqb c lost || (all_below B (ordered_block l (y c)) && (some_below B (clean_block l (y c)) || collecting co c))

  -- what the phase asks of chip c
  abbrev phase_on : ℕ → Bool
  phase_on c = cond (eqb co.phase 1) (phase1_sound l r c co.destination) (cond (eqb co.phase 2) (phase2_sound l r (y c) c co.victim co.destination) true)

  -- the collection is sound on chip c, or not there, or the chip is lost
  abbrev phased_or_lost : ℕ → Bool
  phased_or_lost c = eqb c lost || (not (collecting co c) || phase_on c)

  -- only the collection's chip is asked
  one_phased : co.chip ≤ N → all_below (N + 1) phased_or_lost ≡ eqb co.chip lost || phase_sound l r (y co.chip) co
  unfolding phase_sound
  one_phased low =
      let e = idle (eqb co.chip lost) (eqb co.phase 1) (eqb co.phase 2) (phase1_sound l r co.chip co.destination)
      (phase2_sound l r (y co.chip) co.chip co.victim co.destination) in
      let here : phased_or_lost co.chip ≡ eqb co.chip lost || phase_on co.chip = rw (eq-eqb co.chip co.chip refl) e in
      same_tests (all_below (N + 1) phased_or_lost) (eqb co.chip lost || phase_on co.chip)
      (λ t. sym here ∙ all_at (N + 1) phased_or_lost t co.chip (omega arith))
      (λ t. all_true (N + 1) phased_or_lost (λ c _. by_same co.chip c
      (λ q. rw (← q) (here ∙ t))
      (λ d. rw (ne_eqb co.chip c d, and-false (eqb co.phase 1 || eqb co.phase 2), or-true (eqb c lost)))))

  -- the verdict in three parts
  pub three_parts : co.chip ≤ N
      → all_below (N + 1) (stamped_or_lost l r y lost) && all_below (N + 1) shaped_or_lost && (eqb co.chip lost || phase_sound l r (y co.chip) co)
      ≡ spares_sound l r y co (is_lost lost)
  unfolding spares_sound chip_sound
  three_parts low =
      let stamped = stamped_or_lost l r y lost in
      let parts : ℕ → Bool = λ c. stamped c && shaped_or_lost c && phased_or_lost c in
      let each : all_below (N + 1) (sound_or_exempt l r y co (is_lost lost)) ≡ all_below (N + 1) parts = all_cong (N + 1) (sound_or_exempt l r y co (is_lost lost)) parts (λ c _.
      split (eqb c lost) (all_below l.S (stamped_stripe l r (y c) c)) (all_below B (ordered_block l (y c))) (some_below B (clean_block l (y c)))
      (eqb co.phase 1) (eqb co.phase 2) (eqb co.chip c) (phase1_sound l r c co.destination) (phase2_sound l r (y c) c co.victim co.destination)) in
      sym (each
      ∙ all_both (N + 1) (λ c. stamped c && shaped_or_lost c) phased_or_lost
      ∙ ap₂ (λ s t. s && t) (all_both (N + 1) stamped shaped_or_lost) (one_phased low))

  -- ---- the loop over the chips

  -- what it has found of the chips below c
  pub record Judged (c named : ℕ) (shaped : Bool) : Type 0 where
    pub names : named ≡ sum_below c (found_on l r y lost)
    pub shapes : shaped ≡ all_below c shaped_or_lost

-- nothing before the first
pub judge_start : {l : Layout} {r : ℕ → Record} {y : ℕ → ℕ → Page} {co : Collection} {lost : ℕ} → Judged l r y co lost 0 0 true
unfolding sum_below all_below
judge_start = record { names = refl; shapes = refl }

module _ {l : Layout} {r : ℕ → Record} {y : ℕ → ℕ → Page} {co : Collection} {lost c named : ℕ} {shaped : Bool} (h : Judged l r y co lost c named shaped) where
  -- with one chip more that is not lost, of which s is the scan
  pub judge_more : {s : ChipScan} → c ≢ lost → s ≡ chip_scan l r (y c) c l.B
      → Judged l r y co lost (c + 1) (named + s.named) (shaped && s.ordered && (s.clean || collecting co c))
  unfolding chip_scan sum_below all_below
  judge_more d e = record {
    names = rw (e, h.names, add-one, ne_eqb c lost d);
    shapes = rw (e, h.shapes, add-one, ne_eqb c lost d) (and_assoc (all_below c (shaped_or_lost l r y co lost)) (all_below l.B (ordered_block l (y c))) (some_below l.B (clean_block l (y c)) || collecting co c));
  }

  -- with the lost one
  pub judge_lost : c ≡ lost → Judged l r y co lost (c + 1) named shaped
  unfolding sum_below all_below
  judge_lost e = record {
    names = rw (add-one, eq-eqb c lost e) (omega (arith, h.names));
    shapes = rw (add-one, eq-eqb c lost e, and-true (all_below c (shaped_or_lost l r y co lost))) h.shapes;
  }

-- a chip of a geometry within its limits has at most 65,535 pages, so the names are few
pub judge_few : (l : Layout) (r : ℕ → Record) (y : ℕ → ℕ → Page) (lost : ℕ) → pages l ≤ 65535 → (c : ℕ) → sum_below c (found_on l r y lost) ≤ c * 65535
unfolding sum_below
judge_few l r y lost few zero = omega arith
judge_few l r y lost few (suc c) =
    omega (arith, judge_few l r y lost few c, at_most (eqb c lost) (count_below (pages l) (by_stamp l r (y c) c)) (count_le (pages l) (by_stamp l r (y c) c)))
  where
    at_most : (b : Bool) (n : ℕ) → n ≤ pages l → cond b 0 n ≤ pages l
    at_most true n h = omega arith
    at_most false n h = h

-- ---- the images

module _ {g : Geometry} {records : List ℕ} {co : CollectionRecord} (pass : RecordsPass g records) (is : CollectionIs co (collection_at (layout_of g) records)) where
  -- the records are sound, as statements
  pub statements : RecordsSound (layout_of g) (record_at (layout_of g) records) (collection_at (layout_of g) records)
  statements = let l = layout_of g in records_sound_lem l (record_at l records) (collection_at l records) pass.pass

  -- outside phase 0 both blocks of the collection are there
  pub blocks_low : co.phase ≢ 0 → (co.victim < g.b) × (co.destination < g.b)
  blocks_low d =
      let busy : (collection_at (layout_of g) records).phase ≢ 0 = λ e. d (is.phase ∙ e) in
      rw (is.victim, is.destination) (statements.collection.victim busy, statements.collection.destination busy)

  -- its chip is there in every phase
  chip_low : (collection_at (layout_of g) records).chip ≤ g.n
  chip_low =
      let h = statements.collection in
      by_same (collection_at (layout_of g) records).phase 0 (λ e. rw (h.at_rest e).0 (omega arith)) h.chip

  -- the loop has gone through all chips, and kept is the number of names on those that are not lost
  module _ {chips : List ℕ} {lost named kept i : ℕ} {shaped : Bool} (fit : ChipsFit g chips)
      (h : Judged (layout_of g) (record_at (layout_of g) records) (page_at (layout_of g) chips) (collection_at (layout_of g) records) lost i named shaped)
      (end : i ≡ g.n + 1) (kept_is : kept ≡ names_kept (layout_of g) (record_at (layout_of g) records) lost) where
    -- every named page is rightly stamped exactly where as many are found as there are names
    stamps_test : eqb named kept ≡ all_below (g.n + 1) (stamped_or_lost (layout_of g) (record_at (layout_of g) records) (page_at (layout_of g) chips) lost)
    stamps_test =
        let l = layout_of g in
        rw (h.names, end, kept_is) (total_stamps l (within l fit.limited) (record_at l records) statements.stripe (page_at l chips) lost)

    -- the verdict as the code comes to it
    pub verdict : let l = layout_of g in
        eqb named kept && shaped && (eqb co.chip lost || phase_sound l (record_at l records) (page_at l chips co.chip) (collection_at l records))
        ≡ spares_sound l (record_at l records) (page_at l chips) (collection_at l records) (is_lost lost)
    verdict =
        let l = layout_of g in
        rw (stamps_test, h.shapes, end, is.chip) (three_parts l (record_at l records) (page_at l chips) (collection_at l records) lost chip_low)

    -- as many names as are kept: on the collection's chip, if it is not lost, every named page is rightly stamped
    pub stamps_pass : eqb named kept ≡ true → co.chip ≢ lost → StampsPass g chips records co.chip
    stamps_pass t d =
        let l = layout_of g in
        let low : co.chip ≤ g.n = rw is.chip chip_low in
        let stamped = stamped_or_lost l (record_at l records) (page_at l chips) lost in
        record {
          chips_fit = fit;
          records_fit = pass.fit;
          chip = low;
          stamps = or_else (eqb co.chip lost) (all_below g.s (stamped_stripe l (record_at l records) (page_at l chips co.chip) co.chip))
              (all_at (g.n + 1) stamped (sym stamps_test ∙ t) co.chip (omega arith)) (ne_eqb co.chip lost d);
        }
