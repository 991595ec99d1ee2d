-- Room: a place, a victim, a free slot and a stripe to commit are there where they are looked for.
use Prim.Native.Nat.{ℕ, ◌+◌, ◌-◌, ◌*◌, ◌≤◌, ◌<◌}
use native.Mathlib.Nat.{le_trans}
use native.Mathlib.Omega.{arith}
use mathlib.Core.Path.{◌≡◌, refl, sym, ap, ◌∙◌}
use mathlib.Core.Logic.{◌≢◌}
use mathlib.Core.Bool.{true, false, not, cond}
use lib.Dec.{eqb}
use borrow.Author.Tests.{ne_eqb, eqb-true, eqb-false, not-true, not-false}
use Rattle.std.specs.Prelude.{Some, None}
use Rattle.ranges.specs.Look.{some_below, count_below, first_below, when_found}
use Rattle.ranges.proofs.Looks.{by_test, by_found, both, not_found, some_at, some_none, first_at, first_found, first_nothing, least_at, least_found, least_nothing}
use Rattle.ranges.proofs.Tests.{and_both}
use Rattle.octets.proofs.Units.{apart, one_less}
use Rattle.ranges.proofs.Counts.{count_le, count_less, count_found, count_two, count_other, count_grows, count_same, all_into, past, past_one, past_fits, past_apart}
use Rattle.layout.specs.Layout.{Layout, pages, page_in}
use Rattle.layout.specs.Page.{Page}
use Rattle.layout.specs.Record.{Record, no_slot, has_slot, slotted, slot_of}
use Rattle.layout.specs.Collection.{Collection}
use Rattle.layout.proofs.Limits.{Within}
use Rattle.layout.proofs.Pages.{place_of_lem, page_number_lem}
use Rattle.rules.specs.Names.{main_number, side_number, names, named}
use Rattle.rules.specs.Blocks.{clean_in, clean_block, full_block, named_in, unnamed_in}
use Rattle.rules.specs.Sound.{collecting}
use Rattle.rules.specs.Collect.{collectable, named_count, victim_of}
use Rattle.rules.specs.Place.{open_block, place_of}
use Rattle.rules.specs.Costs.{cheapest, record_cost}
use Rattle.rules.specs.Partial.{free_slot, lowest_free_slot}
use Rattle.rules.specs.Write.{commit_owed}
use Rattle.rules.proofs.Soundness.Statements.{RecordsSound, ChipSound}
use Rattle.rules.proofs.Stores.Names.{by_name, named_by, name_stamped, side_slot}
use Rattle.rules.proofs.Stores.Chips.{Fillable, CleanBut}
use Rattle.rules.proofs.Space.Places.{clean_at, open_begun, is_open, all_full, place_begun, place_fresh, place_nowhere, by_place}

module _ (l : Layout) where
  -- where a place is, in a chip of pages x
  pub record PlaceAt (x : ℕ → Page) (p : ℕ) : Type 0 where
    pub block : ℕ
    pub place : ℕ
    pub is : p ≡ page_in l block place
    pub fillable : Fillable l x block place
    pub spare : CleanBut l x block

module _ (l : Layout) (w : Within l) where
  open l use {N, K, B, S, M}

  module _ (r : ℕ → Record) (x : ℕ → Page) (c : ℕ) (co : Collection) (f : ChipSound l r x c co) (still : collecting co c ≡ false) where
    spare_but : (b : ℕ) → clean_block l x b ≡ false → CleanBut l x b
    spare_but b begun =
        let (d, fits, t) = f.spare still in
        record { block = d; fits = fits; other = λ e. both (clean_block l x b) (rw e at t) begun; is_clean = t }

    at_begun : (p b i : ℕ) → place_of l x ≡ Some p → first_below B (open_block l x) ≡ Some b → first_below K (clean_in l x b) ≡ Some i → PlaceAt l x p
    at_begun p b i e o q =
        let (block, t, _) = first_at B (open_block l x) b o in
        let (place, s, before) = first_at K (clean_in l x b) i q in
        record {
          block = b;
          place = i;
          is = cc (place_begun l x b i o q);
          fillable = record { block = block; place = place; is_clean = s; before = before };
          spare = spare_but b (open_begun l x b t);
        }

    at_fresh : (p b : ℕ) → place_of l x ≡ Some p → first_below B (open_block l x) ≡ None → 2 ≤ count_below B (clean_block l x)
        → first_below B (clean_block l x) ≡ Some b → PlaceAt l x p
    at_fresh p b e o h q =
        let (block, t, _) = first_at B (clean_block l x) b q in
        let (d, fits, other, s) = count_other B (clean_block l x) b h in
        let some : 0 < K = omega (arith, w.places_low) in
        record {
          block = b;
          place = 0;
          is = cc (place_fresh l x b o h q);
          fillable = record { block = block; place = some; is_clean = clean_at l x b 0 t some; before = λ k low. absurd (omega arith) };
          spare = record { block = d; fits = fits; other = other; is_clean = s };
        }

    -- a place that is found can be programmed, and leaves a clean block
    pub place_at : (p : ℕ) → place_of l x ≡ Some p → PlaceAt l x p
    place_at p e =
        by_place l x
        (λ b i. at_begun p b i e)
        (λ b. at_fresh p b e)
        (λ o few. not_found p (sym (place_nowhere l x o few) ∙ e))

  -- two blocks with clean pages, one of them wholly clean, are enough
  pub place_found : (x : ℕ → Page) (v d i : ℕ) → v < B → d < B → v ≢ d → clean_block l x v ≡ true → i < K → clean_in l x d i ≡ true
      → (p : ℕ) × (place_of l x ≡ Some p)
  place_found x v d i fits fits' apart t place s =
      by_place l x
      (λ b k o q. (page_in l b k, place_begun l x b k o q))
      (λ b o h q. (page_in l b 0, place_fresh l x b o h q))
      (λ o few. by_test (clean_block l x d)
      (λ t'. absurd (omega (arith, count_two B (clean_block l x) v d fits fits' apart t t')))
      (λ begun. both (open_block l x d) (is_open l x d i begun place s) (first_nothing B (open_block l x) o d fits')))

  module _ (r : ℕ → Record) (x : ℕ → Page) (c : ℕ) (co : Collection) (chip : c < N + 1) (g : RecordsSound l r co) (f : ChipSound l r x c co) where
    abbrev main_of : ℕ → ℕ
    main_of j = main_number l c j (r j)

    abbrev side_of : ℕ → ℕ
    side_of j = side_number l c j (r j)

    -- page p is on the chip, and named
    abbrev Held : ℕ → Type 0
    Held p = (p < pages l) × (named l r c p ≡ true)

    -- a number below S + M for each named page: its stripe, if it is the main page there; for an old page, S and the slots before it
    holder : ℕ → ℕ
    holder p = cond (eqb (main_of (x p).stripe) p) (x p).stripe (S + count_below (x p).stripe (slotted r))

    held_stripe : (p : ℕ) → Held p → ((x p).stripe < S) × (names l r c p (x p).stripe ≡ true)
    held_stripe p h =
        let (j, low, t) = named_by l r c p h.1 in
        rw (name_stamped l r x c co f p j low (page_number_lem l w p h.0) t).stripe (low, t)

    by_holder {ℓ} : {P : Type ℓ} (p : ℕ) → Held p
        → ((x p).stripe < S → main_of (x p).stripe ≡ p → holder p ≡ (x p).stripe → P)
        → ((x p).stripe < S → side_of (x p).stripe ≡ p → slotted r (x p).stripe ≡ true → holder p ≡ S + count_below (x p).stripe (slotted r) → P)
        → P
    unfolding holder
    by_holder p h main side =
        let (low, t) = held_stripe p h in
        let slot = side_slot l w (r (x p).stripe) (g.stripe (x p).stripe low) c (x p).stripe chip in
        by_test (eqb (main_of (x p).stripe) p)
        (λ q. main low (eqb-true (main_of (x p).stripe) p q) (rw q))
        (λ q. by_name l r c p (x p).stripe t
        (λ e. absurd (eqb-false (main_of (x p).stripe) p q e))
        (λ e. side low e (slot (rw e (page_number_lem l w p h.0))) (rw q)))

    holder_fits : (p : ℕ) → Held p → holder p < S + M
    holder_fits p h =
        by_holder p h
        (λ low _ e. omega arith)
        (λ low _ t e. omega (arith, count_grows (slotted r) (x p).stripe S low t, g.few))

    holder_one : (p q : ℕ) → Held p → Held q → holder p ≡ holder q → p ≡ q
    holder_one p q h h' e =
        by_holder p h
        (λ low u a. by_holder q h'
        (λ _ v a'. sym u ∙ ap main_of (sym a ∙ e ∙ a') ∙ v)
        (λ _ v s a'. absurd (omega arith)))
        (λ _ u t a. by_holder q h'
        (λ low v a'. absurd (omega arith))
        (λ _ v s a'. sym u ∙ ap side_of (count_same (slotted r) (x p).stripe (x q).stripe t s (omega arith)) ∙ v))

    -- with all pages outside block b named there would be as many numbers as pages
    module _ (b : ℕ) (fits : b < B) (h : (d i : ℕ) → d < B → d ≢ b → i < K → named_in l r c d i ≡ true) where
      abbrev outside : ℕ → ℕ
      outside n = past (b * K) K n

      outside_held : (n : ℕ) → n < (B - 1) * K → Held (outside n)
      outside_held n below =
          let low = past_fits (b * K) K n (B * K) (apart K b B fits) (omega (arith, one_less B K (omega (arith, w.blocks_low)))) in
          let (d, i, block, place, e) = place_of_lem l (outside n) low in
          let other : d ≢ b = λ q. past_apart (b * K) K n i place (e ∙ ap (λ (k : ℕ). page_in l k i) q) in
          (low, rw e (h d i block other place))

      holder_outside : (n m : ℕ) → n < (B - 1) * K → m < (B - 1) * K → holder (outside n) ≡ holder (outside m) → n ≡ m
      holder_outside n m low low' e = past_one (b * K) K n m (holder_one (outside n) (outside m) (outside_held n low) (outside_held m low') e)

      too_many : (B - 1) * K ≤ S + M
      too_many =
          le_trans
          (all_into ((B - 1) * K) (S + M) (λ k. true) (λ n. holder (outside n)) (λ n low. (holder_fits (outside n) (outside_held n low), refl)) holder_outside)
          (count_le (S + M) (λ k. true))

  -- a block that can be collected has a page that is not named
  pub victim_spares : (r : ℕ → Record) (x : ℕ → Page) (c v : ℕ) → collectable l c x r v ≡ true → named_count l c x r v < K
  unfolding collectable named_count
  victim_spares r x c v can =
      let some = (and_both (full_block l x v) (some_below K _) can).1 in
      let (i, fits, spared) = some_at K _ some in
      count_less K (named_in l r c v) i fits (not-true (named_in l r c v i) spared)

  -- a full block with nothing to collect has all its pages named
  all_named : (r : ℕ → Record) (x : ℕ → Page) (c d i : ℕ) → full_block l x d ≡ true → collectable l c x r d ≡ false → i < K → named_in l r c d i ≡ true
  unfolding collectable
  all_named r x c d i full shut place =
      not-false (named_in l r c d i) (some_none K (unnamed_in l r c d) (rw full at shut) i place)

  -- with no place on a chip there is a block to collect
  pub victim_found : (r : ℕ → Record) (x : ℕ → Page) (c : ℕ) (co : Collection) → c < N + 1 → RecordsSound l r co → ChipSound l r x c co
      → collecting co c ≡ false → place_of l x ≡ None → (b : ℕ) × (victim_of l c x r ≡ Some b)
  unfolding victim_of
  victim_found r x c co chip g f still e =
      by_found (victim_of l c x r)
      (λ b q. (b, q))
      (λ q.
      let (b, fits, t) = f.spare still in
      let shut = least_nothing _ (collectable l c x r) (named_count l c x r) q in
      let most = too_many r x c co chip g f b fits
      (λ d i block other. all_named r x c d i (all_full l x b d fits block other t e) (shut d block)) in
      absurd (omega (arith, w.room, most)))

  -- a slot that passes for free is no record's
  free_of : (r : ℕ → Record) (i : ℕ) → free_slot l r i ≡ true → (j : ℕ) → j < S → (r j).slot ≢ i
  free_of r i t j fits = eqb-false (r j).slot i (some_none _ (slot_of r i) (not-true _ t) j fits)

  -- the stripe that has slot i
  user : (ℕ → Record) → ℕ → ℕ
  user r i = when_found (first_below S (slot_of r i)) (λ j. j) 0

  used_by : (r : ℕ → Record) (i : ℕ) → free_slot l r i ≡ false → (user r i < S) × ((r (user r i)).slot ≡ i)
  unfolding user when_found
  used_by r i t =
      let (k, low, s) = some_at S (slot_of r i) (not-false (some_below S (slot_of r i)) t) in
      let (j, e) = first_found S (slot_of r i) k low s in
      let (fits, q, _) = first_at S (slot_of r i) j e in
      rw e (fits, eqb-true (r j).slot i q)

  -- as many records with a slot as there are slots in use
  all_used : (r : ℕ → Record) (n : ℕ) → n ≤ M + 1 → ((i : ℕ) → i < n → free_slot l r i ≡ false) → n ≤ count_below S (slotted r)
  all_used r n most h =
      let u : (i : ℕ) → i < n → (user r i < S) × ((r (user r i)).slot ≡ i) = λ i low. used_by r i (h i low) in
      all_into n S (slotted r) (user r)
      (λ i low. ((u i low).0, rw (ne_eqb (r (user r i)).slot no_slot (λ e. omega (arith, (u i low).1, w.partials_high)))))
      (λ i j low low' e. sym (u i low).1 ∙ ap (λ (k : ℕ). (r k).slot) e ∙ (u j low').1)

  -- one of the M + 1 slots is free
  pub free_slot_lem : (r : ℕ → Record) (co : Collection) → RecordsSound l r co
      → (i : ℕ) × (lowest_free_slot l r ≡ Some i) × (i < M + 1) × ((j : ℕ) → j < S → (r j).slot ≢ i)
  unfolding lowest_free_slot
  free_slot_lem r co g =
      by_found (lowest_free_slot l r)
      (λ i e.
      let (low, t, _) = first_at _ (free_slot l r) i e in
      (i, e, omega (arith, low), free_of r i t))
      (λ e. absurd (omega (arith, g.few, all_used r _ (omega arith) (first_nothing _ (free_slot l r) e))))

  -- where a commit is owed there is a stripe to commit, and it is another one
  pub stripe_to_commit : (r : ℕ → Record) (j : ℕ) → commit_owed l r j ≡ true
      → (k : ℕ) × (cheapest l r ≡ Some k) × (k < S) × (slotted r k ≡ true) × (k ≢ j)
  unfolding commit_owed cheapest
  stripe_to_commit r j owed =
      let (bare, all) = and_both (not (has_slot (r j))) (eqb (count_below S (slotted r)) M) owed in
      let (i, low, t) = count_found S (slotted r) (omega (arith, eqb-true (count_below S (slotted r)) M all, w.partials_low)) in
      let (k, e) = least_found S (slotted r) (record_cost l r) i low t in
      let (fits, s, _, _) = least_at S (slotted r) (record_cost l r) k e in
      (k, e, fits, s, λ q. both (slotted r j) (rw q at s) (not-true (slotted r j) bare))
