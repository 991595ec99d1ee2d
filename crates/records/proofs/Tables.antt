-- The pass over the records: what is known once those below j are passed.
use Prim.Native.Nat.{ℕ, ◌+◌, ◌-◌, ◌*◌, ◌≤◌}
use native.Mathlib.Numerals.{add-one}
use native.Mathlib.Omega.{arith}
use mathlib.Core.Path.{◌≡◌, refl, sym, ap}
use mathlib.Core.Logic.{◌≢◌}
use mathlib.Core.Bool.{Bool, true, false, not, cond, ◌&&◌, and-true}
use mathlib.Core.List.{List}
use lib.ListN.{get_or, set, replicate}
use lib.Dec.{leb, ltb, eqb}
use borrow.Author.Tests.{ne_eqb, leb-true, lt-ltb, le-ltb, lt-leb, le-leb}
use Rattle.ranges.specs.Look.{all_below, some_below, count_below, first_below, least_so_far, found_in}
use Rattle.std.specs.Prelude.{Option}
use Rattle.ranges.specs.declared.Least.{Least}
use Rattle.ranges.proofs.Looks.{by_test, by_order, first_cong}
use Rattle.ranges.proofs.Leasts.{least_passed, found_least}
use Rattle.ranges.proofs.Tests.{differ, differ_by}
use Rattle.ranges.proofs.Sums.{sum_start, sum_more}
use Rattle.layout.specs.declared.Geometry.{Geometry}
use Rattle.layout.specs.Layout.{Layout, layout_of, limits}
use Rattle.layout.proofs.Limits.{within}
use Rattle.layout.specs.Record.{Record, slotted, slot_of}
use Rattle.layout.specs.Collection.{Collection}
use Rattle.layout.proofs.Marks.{Marks, marks_none, marks_more, marks_skip}
use Rattle.rules.specs.Sound.{sound_at, records_sound, collection_sound}
use Rattle.rules.specs.Costs.{record_cost, cheapest}
use Rattle.rules.specs.Partial.{free_slot, lowest_free_slot}
use Rattle.codec.specs.declared.StripeRecord.{StripeRecord}
use Rattle.codec.specs.Views.{record_from, ended, SmallRecord}
use Rattle.names.specs.Stamps.{record_names, names_lost, names_below, names_in, names_kept}
use Rattle.names.proofs.Totals.{on_few, chip_none, chip_more}
use Rattle.records.specs.declared.Tally.{Tally}
use Rattle.records.specs.declared.SlotScan.{SlotScan}
use Rattle.codec.specs.Scan.{Plain}
use Rattle.records.proofs.Plains.{plain_sound, plain_names, plain_few, plain_full}
use Rattle.records.specs.Slots.{slot_scan, unmarked, Tallied, Adds}

-- ---- the tally

-- before the first record
pub tallied_start : {l : Layout} {r : ℕ → Record} {c : Option Least} → ((f : ℕ → Bool) (m : ℕ → ℕ) → c ≡ least_so_far f m 0)
    → Tallied l r 0 (record { sound = true; own = true; slotted = 0; cheapest = c })
unfolding all_below count_below
tallied_start {l} {r} h = record { sounds = refl; owns = refl; counts = refl; cheap = h (slotted r) (record_cost l r) }

module _ {l : Layout} {r : ℕ → Record} {j : ℕ} {t : Tally} (h : Tallied l r j t) where
  sound_more : {ok : Bool} → ok ≡ sound_at l r j → t.sound && ok ≡ all_below (j + 1) (sound_at l r)
  unfolding all_below
  sound_more e = rw (add-one, h.sounds, e)

  -- record j has no slot
  pub tallied_bare : {ok : Bool} → ok ≡ sound_at l r j → (r j).slot ≡ 255
      → Tallied l r (j + 1) (record { sound = t.sound && ok; own = t.own; slotted = t.slotted; cheapest = t.cheapest })
  unfolding all_below count_below
  tallied_bare o s =
      record {
        sounds = sound_more o;
        owns = rw (add-one, s, and-true) h.owns;
        counts = rw (add-one, s) h.counts;
        cheap = least_passed (slotted r) (record_cost l r) j h.cheap (rw s);
      }

  -- it has one, which the records before it have or not
  pub tallied_slot : {ok taken : Bool} {cost : ℕ} {c : Option Least} → ok ≡ sound_at l r j → (r j).slot ≢ 255 → taken ≡ some_below j (slot_of r (r j).slot)
      → cost ≡ record_cost l r j
      → ((f : ℕ → Bool) (m : ℕ → ℕ) → t.cheapest ≡ least_so_far f m j → true ≡ f j → (f j ≡ true → cost ≡ m j) → c ≡ least_so_far f m (j + 1))
      → Tallied l r (j + 1) (record { sound = t.sound && ok; own = t.own && not taken; slotted = t.slotted + 1; cheapest = c })
  unfolding all_below count_below
  tallied_slot o d seen cost more =
      record {
        sounds = sound_more o;
        owns = rw (add-one, h.owns, ne_eqb (r j).slot 255 d, seen);
        counts = rw (add-one, add-one, ne_eqb (r j).slot 255 d, h.counts);
        cheap = more (slotted r) (record_cost l r) h.cheap (sym (differ_by (r j).slot 255 d)) (λ _. cost);
      }

-- ---- the pass

-- how many page numbers the records below j have on the lost chip, if it is one
abbrev lost_below : Geometry → (ℕ → Record) → ℕ → ℕ → ℕ
lost_below g r lost j = cond (leb lost g.n) (names_below (layout_of g) r lost j) 0

-- the tally, the table of the slots and the page numbers, at most 13 each, are those of the records below j; the numbers on the chips that
-- are there
pub record Passed (g : Geometry) (r : ℕ → Record) (lost j : ℕ) (seen : List Bool) (t : Tally) (names : ℕ) : Type 0 where
  pub tally : Tallied (layout_of g) r j t
  pub table : Marks r j seen
  pub named : names + lost_below g r lost j ≡ names_in (layout_of g) r j
  pub few : names ≤ 13 * j

-- before the first record no slot is marked
pub passed_start : {g : Geometry} {r : ℕ → Record} {lost : ℕ} {t : Tally} → Tallied (layout_of g) r 0 t → Passed g r lost 0 (replicate 256 false) t 0
passed_start {g} {r} {lost} h =
    let none = sum_start (λ j. record_names (layout_of g) (r j)) in
    record {
      tally = h;
      table = marks_none;
      named = by_test (leb lost g.n) (λ b. rw (b, chip_none (layout_of g) r lost, none)) (λ b. rw (b, none));
      few = omega arith;
    }

-- the numbers of a record that is looked at in full are those of the record r
pub looked_names : (g : Geometry) (r : Record) (e : StripeRecord) {more : ℕ} → record_from (layout_of g) e ≡ ended r
    → ((g' : Geometry) → more ≡ record_names (layout_of g') (record_from (layout_of g') e)) → more ≡ record_names (layout_of g) r
unfolding ended record_names
looked_names g r e same m = rw same at (m g)

-- of the numbers of record j, so many are on the lost chip
pub gone_few : (g : Geometry) (r : ℕ → Record) (lost j : ℕ) {gone more : ℕ} → limits (layout_of g) ≡ true → gone ≡ names_lost (layout_of g) r lost j
    → more ≡ record_names (layout_of g) (r j) → gone ≤ more
unfolding names_lost
gone_few g r lost j limited x m =
    let l = layout_of g in
    by_test (leb lost g.n)
    (λ b. omega (arith, rw b at x, on_few l (within l limited) r j lost (leb-true lost g.n b)))
    (λ b. omega (arith, rw b at x))

-- the numbers of a full stripe of n members on the chips that are there
abbrev pub full_names : ℕ → ℕ → ℕ
full_names n lost = cond (ltb n lost) (n + 1) n

pub full_few : (n lost : ℕ) → full_names n lost ≤ n + 1
full_few n lost = by_test (ltb n lost) (λ t. rw t (omega arith)) (λ t. rw t (omega arith))

module _ {g : Geometry} {r : ℕ → Record} {lost j : ℕ} {seen : List Bool} {t : Tally} {names : ℕ} (limited : limits (layout_of g) ≡ true)
    (p : Passed g r lost j seen t names) where
  -- the names with those of record j that are not
  more_names : {gone more : ℕ} → gone ≡ names_lost (layout_of g) r lost j → more ≡ record_names (layout_of g) (r j)
      → names + (more - gone) + lost_below g r lost (j + 1) ≡ names_in (layout_of g) r (j + 1)
  unfolding names_lost
  more_names x m =
      let l = layout_of g in
      let total : names_in l r (j + 1) ≡ names_in l r j + record_names l (r j) = rw add-one (sum_more j (λ i. record_names l (r i))) in
      let few = gone_few g r lost j limited x m in
      by_test (leb lost g.n)
      (λ b. rw (total, b, chip_more l (within l limited) r lost j) (omega (arith, m, rw b at x, rw b at p.named)))
      (λ b. rw (total, b) (omega (arith, m, rw b at x, rw b at p.named)))

  -- record j is plain: the tally stays
  pub passed_plain : {gone more : ℕ} → Plain (layout_of g) (r j) more → gone ≡ names_lost (layout_of g) r lost j
      → Passed g r lost (j + 1) seen t (names + (more - gone))
  passed_plain e x =
      record {
        tally = rw and-true at (tallied_bare p.tally (sym (plain_sound e)) e.slot);
        table = marks_skip p.table e.slot;
        named = more_names x (plain_names e);
        few = omega (arith, p.few, plain_few e);
      }

  -- it is that of a full stripe: it has a number for each chip that is there
  pub passed_full : Plain (layout_of g) (r j) (g.n + 1) → Passed g r lost (j + 1) seen t (names + full_names g.n lost)
  unfolding names_lost
  passed_full e =
      let l = layout_of g in
      let one : full_names g.n lost ≡ g.n + 1 - names_lost l r lost j =
      by_order g.n lost
      (λ h. rw (lt-ltb g.n lost h, lt-leb lost g.n h) (omega arith))
      (λ h. rw (le-ltb g.n lost h, le-leb lost g.n h, plain_full e (within l limited).members_high refl r j lost refl h) (omega arith)) in
      rw one (passed_plain e refl)

  -- it is looked at in full
  pub passed_next : {e : StripeRecord} {ends : Bool} {more gone : ℕ} {next : Tally}
      → (record_from (layout_of g) e ≡ ended (r j)) × SmallRecord e → ends ≡ eqb (r j).rest 0
      → ((g' : Geometry) → more ≡ record_names (layout_of g') (record_from (layout_of g') e)) × (more ≤ 13)
      → Adds (layout_of g) j e ends (get_or seen e.slot false) t next → gone ≡ names_lost (layout_of g) r lost j
      → Passed g r lost (j + 1) (set seen e.slot true) next (names + (more - gone))
  unfolding record_from ended
  passed_next {e} (same, small) zeros (m, most) a x =
      let s : e.slot ≡ (r j).slot = ap (λ (x : Record). x.slot) same in
      record {
        tally = a.adds r same zeros
            (λ has. rw (← s) (p.table.told e.slot (omega (arith, small.slot, differ e.slot 255 (rw (← s) at has)))))
            p.tally;
        table = marks_more p.table s;
        named = more_names x (looked_names g (r j) e same m);
        few = omega (arith, p.few);
      }

  -- once all are passed, the names are those on the chips that are there
  pub passed_names : j ≡ g.s → names ≡ names_kept (layout_of g) r lost
  unfolding names_kept
  passed_names e =
      let all = rw e at p.named in
      by_test (leb lost g.n) (λ b. rw b (omega (arith, rw b at all))) (λ b. rw b (omega (arith, rw b at all)))

  -- the tests are those of the definition
  pub passed_all : j ≡ g.s → (co : Collection)
      → t.sound && t.own && leb t.slotted g.m && collection_sound (layout_of g) co ≡ records_sound (layout_of g) r co
  unfolding records_sound
  passed_all e co = rw (p.tally.sounds, p.tally.owns, p.tally.counts, e)

  -- and so is what they tell of the slots
  pub passed_slots : j ≡ g.s → g.m ≤ 254
      → ◌≡◌ {A = SlotScan} (record { slotted = t.slotted; cheapest = found_in t.cheapest; free = first_below (g.m + 1) (unmarked seen) }) (slot_scan (layout_of g) r)
  unfolding cheapest lowest_free_slot
  passed_slots e few =
      let h : Tallied (layout_of g) r g.s t = rw e at p.tally in
      let m : Marks r g.s seen = rw e at p.table in
      let free = first_cong (g.m + 1) (unmarked seen) (free_slot (layout_of g) r) (λ i low. ap not (m.told i (omega arith))) in
      rw (h.counts, found_least (slotted r) (record_cost (layout_of g) r) g.s h.cheap, free)
