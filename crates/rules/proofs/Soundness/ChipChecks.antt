-- The tests of "Sound images" on one chip pass exactly where the statements hold.
use Prim.Native.Nat.{ℕ, ◌+◌, ◌-◌, ◌<◌}
use native.Mathlib.Omega.{arith}
use mathlib.Core.Path.{◌≡◌, refl}
use mathlib.Core.Logic.{◌≢◌}
use mathlib.Core.Bool.{Bool, true, false, cond, ◌||◌}
use mathlib.Core.List.{[], ◌∷◌}
use lib.Dec.{eqb}
use borrow.Author.Tests.{eqb-true, not-true, eq-eqb}
use Rattle.ranges.specs.Look.{all_below, some_below, count_below}
use Rattle.ranges.proofs.Looks.{all_true, all_at, some_true, some_at}
use Rattle.ranges.proofs.Tests.{and_both, and_left, and_right, both_and, chain_all, cond_by, cond_equal, cond_equal_by, cond_other, cond_true, false_not, under, under_by, unless_equal, unless_equal_by, cond_false}
use Rattle.ranges.proofs.Counts.{count_one, one_count}
use Rattle.layout.specs.Layout.{Layout, none, page_in}
use Rattle.layout.specs.Page.{Page}
use Rattle.layout.specs.Record.{Record}
use Rattle.layout.specs.Collection.{Collection}
use Rattle.rules.specs.Names.{main_number, side_number, kind_on, member_byte, named}
use Rattle.rules.specs.Blocks.{clean_in, clean_block, in_order, ordered_block, named_in, unnamed_in}
use Rattle.rules.specs.Sound.{collecting, stamped_page, stamped_number, stamped_stripe, phase1_sound, twin_in, one_twin, phase2_sound, chip_sound}
use Rattle.rules.proofs.Soundness.Statements.{Stamped, OneTwin, ChipSound}
use Rattle.rules.proofs.Stores.Twins.{twin_is, is_twin}

module _ (l : Layout) where
  open l use {K, B, S}

  stamped : (x : ℕ → Page) (c j p : ℕ) → stamped_number l x c j p ≡ true → p ≢ none l → Stamped l x c j p
  stamped x c j p e d =
      let t = unless_equal p (none l) (stamped_page l x c j p) e d in
      search (eqb-true, and_left, and_right)

  stamped_pass : (x : ℕ → Page) (c j p : ℕ) → (p ≢ none l → Stamped l x c j p) → stamped_number l x c j p ≡ true
  stamped_pass x c j p h =
      unless_equal_by p (none l) (stamped_page l x c j p)
      (λ d. let t = h d in
      rw (eq-eqb (x p).stripe j t.stripe, eq-eqb (x p).kind (kind_on l c j) t.kind, eq-eqb (x p).member (member_byte l c j) t.member))

  ordered : (x : ℕ → Page) (b i : ℕ) → ordered_block l x b ≡ true → i + 1 < K → clean_in l x b i ≡ true → clean_in l x b (i + 1) ≡ true
  unfolding ordered_block
  ordered x b i e h t = rw t at (all_at (K - 1) (in_order l x b) e i (omega arith))

  ordered_pass : (x : ℕ → Page) (b : ℕ) → ((i : ℕ) → i + 1 < K → clean_in l x b i ≡ true → clean_in l x b (i + 1) ≡ true) → ordered_block l x b ≡ true
  unfolding ordered_block
  ordered_pass x b h =
      all_true (K - 1) (in_order l x b) (λ i low. under_by (clean_in l x b i) (clean_in l x b (i + 1)) (h i (omega arith)))

  collecting_in : (co : Collection) (c n : ℕ) → eqb n 1 || eqb n 2 ≡ true → co.phase ≡ n → co.chip ≡ c → collecting co c ≡ true
  collecting_in co c n t e h = rw (e, t) (eq-eqb co.chip c h)

  module _ (r : ℕ → Record) (x : ℕ → Page) (c : ℕ) where
    -- the tests of both phases
    abbrev phase_test : Collection → Bool
    phase_test co = cond (eqb co.phase 1) (phase1_sound l r c co.destination) (phase2_sound l r x c co.victim co.destination)

    phase_1_sound : (destination : ℕ) → phase1_sound l r c destination ≡ true → (i : ℕ) → i < K → named l r c (page_in l destination i) ≡ false
    unfolding phase1_sound
    phase_1_sound destination e i h = not-true (named_in l r c destination i) (all_at K (unnamed_in l r c destination) e i h)

    phase_1_pass : (destination : ℕ) → ((i : ℕ) → i < K → named l r c (page_in l destination i) ≡ false) → phase1_sound l r c destination ≡ true
    unfolding phase1_sound
    phase_1_pass destination h = all_true K (unnamed_in l r c destination) (λ i low. false_not (named_in l r c destination i) (h i low))

    one_twin_lem : (destination p : ℕ) → eqb (count_below K (twin_in l r x c destination p)) 1 ≡ true → OneTwin l r x c destination p
    one_twin_lem destination p t =
        let twins = twin_in l r x c destination p in
        let (k, fits, is, only) = count_one K twins (eqb-true (count_below K twins) 1 t) in
        record {
          place = k;
          fits = fits;
          is_twin = twin_is l r x c p (page_in l destination k) is;
          only = λ m low f. only m low (is_twin l r x c p (page_in l destination m) f);
        }

    twin_one : (destination p : ℕ) → OneTwin l r x c destination p → eqb (count_below K (twin_in l r x c destination p)) 1 ≡ true
    twin_one destination p h =
        let twins = twin_in l r x c destination p in
        eq-eqb (count_below K twins) 1
        (one_count K twins h.place h.fits (is_twin l r x c p (page_in l destination h.place) h.is_twin)
        (λ m low e. h.only m low (twin_is l r x c p (page_in l destination m) e)))

    phase_2_sound : (victim destination : ℕ) → phase2_sound l r x c victim destination ≡ true
        → (i : ℕ) → i < K → named l r c (page_in l victim i) ≡ true → OneTwin l r x c destination (page_in l victim i)
    unfolding phase2_sound
    phase_2_sound victim destination e i h t =
        let p = page_in l victim i in
        one_twin_lem destination p
        (under (named l r c p) (eqb (count_below K (twin_in l r x c destination p)) 1) (all_at K (one_twin l r x c victim destination) e i h) t)

    phase_2_pass : (victim destination : ℕ)
        → ((i : ℕ) → i < K → named l r c (page_in l victim i) ≡ true → OneTwin l r x c destination (page_in l victim i))
        → phase2_sound l r x c victim destination ≡ true
    unfolding phase2_sound
    phase_2_pass victim destination h =
        all_true K (one_twin l r x c victim destination)
        (λ i low. let p = page_in l victim i in
        under_by (named l r c p) (eqb (count_below K (twin_in l r x c destination p)) 1) (λ t. twin_one destination p (h i low t)))

    stamps : (j : ℕ) → stamped_stripe l r x c j ≡ true
        → (stamped_number l x c j (main_number l c j (r j)) ≡ true) × (stamped_number l x c j (side_number l c j (r j)) ≡ true)
    unfolding stamped_stripe
    stamps j = and_both (stamped_number l x c j (main_number l c j (r j))) (stamped_number l x c j (side_number l c j (r j)))

    stamps_pass : (co : Collection) → ChipSound l r x c co → (j : ℕ) → j < S → stamped_stripe l r x c j ≡ true
    unfolding stamped_stripe
    stamps_pass co h j low =
        both_and (stamped_pass x c j (main_number l c j (r j)) (h.main j low)) (stamped_pass x c j (side_number l c j (r j)) (h.side j low))

    -- the test of a chip, one way and the other
    pub chip_sound_lem : (co : Collection) → chip_sound l r x c co ≡ true → ChipSound l r x c co
    unfolding chip_sound
    chip_sound_lem co e =
        let blank = some_below B (clean_block l x) in
        let one = phase1_sound l r c co.destination in
        let two = phase2_sound l r x c co.victim co.destination in
        let h = chain_all (all_below S (stamped_stripe l r x c)) (all_below B (ordered_block l x) ∷ cond (collecting co c) (phase_test co) blank ∷ []) e in
        let phases : collecting co c ≡ true → phase_test co ≡ true = cond_true (collecting co c) (phase_test co) blank h.1.1.0 in
        record {
          main = λ j low. stamped x c j (main_number l c j (r j)) (stamps j (all_at S (stamped_stripe l r x c) h.0 j low)).0;
          side = λ j low. stamped x c j (side_number l c j (r j)) (stamps j (all_at S (stamped_stripe l r x c) h.0 j low)).1;
          order = λ b i low. ordered x b i (all_at B (ordered_block l x) h.1.0 b low);
          spare = λ f. some_at B (clean_block l x) (cond_false (collecting co c) (phase_test co) blank h.1.1.0 f);
          phase_1 = λ q here. phase_1_sound co.destination (cond_equal co.phase 1 one two (phases (collecting_in co c 1 refl q here)) q);
          phase_2 = λ q here.
              phase_2_sound co.victim co.destination (cond_other co.phase 1 one two (phases (collecting_in co c 2 refl q here)) (omega arith));
        }

    phase_pass : (co : Collection) → ChipSound l r x c co → collecting co c ≡ true → phase_test co ≡ true
    phase_pass co h t =
        let n = and_both (eqb co.phase 1 || eqb co.phase 2) (eqb co.chip c) t in
        let here = eqb-true co.chip c n.1 in
        cond_equal_by co.phase 1 (phase1_sound l r c co.destination) (phase2_sound l r x c co.victim co.destination)
        (λ q. phase_1_pass co.destination (h.phase_1 q here))
        (λ d. phase_2_pass co.victim co.destination (h.phase_2 (eqb-true co.phase 2 (unless_equal co.phase 1 (eqb co.phase 2) n.0 d)) here))

    spare_pass : (co : Collection) → ChipSound l r x c co → collecting co c ≡ false → some_below B (clean_block l x) ≡ true
    spare_pass co h f = let (b, low, t) = h.spare f in some_true B (clean_block l x) b low t

    pub chip_pass : (co : Collection) → ChipSound l r x c co → chip_sound l r x c co ≡ true
    unfolding chip_sound
    chip_pass co h =
        rw (all_true S (stamped_stripe l r x c) (stamps_pass co h), all_true B (ordered_block l x) (λ b low. ordered_pass x b (λ i. h.order b i low)))
        (cond_by (collecting co c) (phase_test co) (some_below B (clean_block l x)) (phase_pass co h) (spare_pass co h))
