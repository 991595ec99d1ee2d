-- The victim: a block can be collected where it is full and has fewer named pages than pages; the named ones are counted by their stamps.
use Prim.Native.Nat.{ℕ, zero, suc, ◌≤◌, ◌<◌}
use native.Mathlib.Nat.{le_step, lt-suc_self}
use native.Mathlib.Omega.{arith}
use mathlib.Core.Path.{◌≡◌, refl, sym, ◌∙◌, ap}
use mathlib.Core.Bool.{Bool, true, ◌&&◌}
use mathlib.Core.List.{List}
use lib.Dec.{ltb}
use borrow.Author.Tests.{not-true, not-false, lt-ltb, ltb-true}
use Rattle.std.specs.Prelude.{Option, Some, None}
use Rattle.ranges.specs.Look.{some_below, better, least_below, when_found, found_in}
use Rattle.ranges.proofs.Looks.{by_test, some_at, some_none, least_at}
use Rattle.ranges.proofs.Counts.{count_cong, count_all, count_less}
use Rattle.ranges.proofs.Tests.{and_both}
use Rattle.ranges.proofs.Tallies.{same_tests}
use Rattle.layout.specs.declared.Geometry.{Geometry}
use Rattle.layout.specs.Layout.{Layout, layout_of, page_in}
use Rattle.layout.specs.Page.{Page, page_at}
use Rattle.layout.specs.Record.{Record, record_at}
use Rattle.layout.proofs.Limits.{within}
use Rattle.layout.proofs.Pages.{page_in_fits}
use Rattle.rules.specs.Blocks.{named_in, unnamed_in, full_block}
use Rattle.rules.specs.Collect.{collectable, named_count, victim_of}
use Rattle.names.specs.Stamps.{StampsPass}
use Rattle.names.proofs.Stamping.{named_by_stamp}
use Rattle.spares.specs.declared.ChipScan.{ChipScan}
use Rattle.spares.specs.Scans.{by_stamp_in, by_stamp_count, loose, chip_scan, chip_scans}
use Rattle.spares.proofs.Scanning.{scans_at}
use Rattle.space.specs.Victims.{victim_wanted, VictimFor, Victims}
use Rattle.ranges.proofs.Leasts.{found_least}

-- ---- the least of numbers

-- by two measures that agree on the best so far and on n
better_cong : (m k : ℕ → ℕ) (found : Option ℕ) (n : ℕ) → m n ≡ k n → ((i : ℕ) → found ≡ Some i → m i ≡ k i) → better m found n ≡ better k found n
better_cong m k (Some i) n e h = rw (e, h i refl)
better_cong m k None n e h = refl

-- by tests and measures that agree
least_cong : (n : ℕ) (f g : ℕ → Bool) (m k : ℕ → ℕ) → ((i : ℕ) → i < n → f i ≡ g i) → ((i : ℕ) → i < n → m i ≡ k i) → least_below n f m ≡ least_below n g k
unfolding least_below
least_cong zero f g m k same alike = refl
least_cong (suc n) f g m k same alike =
    rw (least_cong n f g m k (λ i low. same i (le_step low)) (λ i low. alike i (le_step low)), same n (lt-suc_self n), better_cong m k (least_below n g k) n (alike n (lt-suc_self n)) (λ i e. alike i (le_step (least_at n g k i e).0)))

-- ---- block b of chip c, with the chip's pages x and the records r

module _ (l : Layout) (c : ℕ) (x : ℕ → Page) (r : ℕ → Record) (b : ℕ) where
  open l use {K}

  -- a full block with a page that is not named can be collected
  collectable_by : full_block l x b ≡ true → named_count l c x r b < K → collectable l c x r b ≡ true
  unfolding collectable named_count
  collectable_by t few = rw t (by_test (some_below K (unnamed_in l r c b))
      (λ s. s)
      (λ s. absurd (omega (arith, count_all K (named_in l r c b) (λ i low. not-false (named_in l r c b i) (some_none K (unnamed_in l r c b) s i low))))))

  -- and no other
  collectable_is : collectable l c x r b ≡ true → (full_block l x b ≡ true) × (named_count l c x r b < K)
  unfolding collectable named_count
  collectable_is t =
      let (full, s) = and_both (full_block l x b) (some_below K (unnamed_in l r c b)) t in
      let (i, low, nay) = some_at K (unnamed_in l r c b) s in
      (full, count_less K (named_in l r c b) i low (not-true (named_in l r c b i) nay))

-- ---- a chip on which every named page is rightly stamped

module _ {g : Geometry} {chips records : List ℕ} {c : ℕ} (h : StampsPass g chips records c) where
  abbrev l : Layout
  l = layout_of g

  abbrev r : ℕ → Record
  r = record_at l records

  abbrev x : ℕ → Page
  x = page_at l chips c

  -- the stamps of a block count its named pages
  by_stamp_named : (b : ℕ) → b < g.b → by_stamp_count l r x c b ≡ named_count l c x r b
  unfolding by_stamp_count named_count
  by_stamp_named b low =
      sym (count_cong g.k (named_in l r c b) (by_stamp_in l r x c b) (λ i place.
      named_by_stamp l (within l h.chips_fit.limited) r x c h.stamps (page_in l b i) (page_in_fits l b i low place)))

  -- so a block is loose where it can be collected
  loose_collectable : (b : ℕ) → b < g.b → loose l r x c b ≡ collectable l c x r b
  unfolding loose
  loose_collectable b low =
      same_tests (full_block l x b && ltb (by_stamp_count l r x c b) g.k) (collectable l c x r b)
      (λ t. let (full, few) = and_both (full_block l x b) (ltb (by_stamp_count l r x c b) g.k) t in
      collectable_by l c x r b full (rw (by_stamp_named b low) at (ltb-true (by_stamp_count l r x c b) g.k few)))
      (λ t. let (full, few) = collectable_is l c x r b t in
      rw (full, by_stamp_named b low) (lt-ltb (named_count l c x r b) g.k few))

  -- the scan of the whole chip has found the victim
  pub victim_found : {s : ChipScan} → s ≡ chip_scan l r x c g.b → found_in s.victim ≡ victim_of l c x r
  unfolding chip_scan victim_of
  victim_found e =
      found_least (loose l r x c) (by_stamp_count l r x c) g.b (ap (λ (o : ChipScan). o.victim) e)
      ∙ (least_cong g.b (loose l r x c) (collectable l c x r) (by_stamp_count l r x c) (named_count l c x r) loose_collectable by_stamp_named)

-- the one that is wanted is the victim, where there is no place
pub victim_wanted_lem : {g : Geometry} {chips records : List ℕ} {c : ℕ} {v : Option ℕ}
    → v ≡ victim_wanted (layout_of g) c (page_at (layout_of g) chips c) (record_at (layout_of g) records) → VictimFor g chips records c v
unfolding victim_wanted when_found
victim_wanted_lem e = record { is = λ nowhere. e ∙ rw nowhere }

-- of every chip
pub victims_known : {g : Geometry} {chips records : List ℕ} {scans : List ChipScan} → ((c : ℕ) → c ≤ g.n → StampsPass g chips records c) → (lost : ℕ) → g.n < lost
    → scans ≡ chip_scans (layout_of g) (record_at (layout_of g) records) (page_at (layout_of g) chips) lost g.b → Victims g chips records scans
unfolding chip_scans
victims_known {g} {chips} stamps lost high e =
    let l = layout_of g in
    record {
      long = rw e;
      at = λ c low. let h = stamps c low in victim_found h (scans_at l _ (page_at l chips) lost g.b e (within l h.chips_fit.limited).members_high c low (λ q. omega arith));
    }
