-- The numbers of all records, chip by chip: as many pages are found by their stamps on all chips but the lost one as the records
-- have numbers there exactly where every named page of every such chip is rightly stamped.
use Prim.Native.Nat.{ℕ, suc, ◌+◌, ◌≤◌, ◌<◌}
use native.Mathlib.Numerals.{add-one}
use native.Mathlib.Omega.{arith}
use mathlib.Core.Path.{◌≡◌, refl, sym, ◌∙◌}
use mathlib.Core.Bool.{Bool, cond, ◌||◌}
use lib.Dec.{eqb}
use borrow.Author.Tests.{eq-eqb, le-leb, lt-leb}
use Rattle.ranges.specs.Look.{all_below, count_below, sum_below}
use Rattle.ranges.proofs.Looks.{by_test, by_order, by_same, all_cong}
use Rattle.layout.specs.Layout.{Layout, none, is_none, pages}
use Rattle.layout.specs.Rotation.{parity_chip, member_chip, member_on}
use Rattle.layout.specs.Page.{Page}
use Rattle.layout.specs.Record.{Record}
use Rattle.layout.proofs.Limits.{Within}
use Rattle.layout.proofs.Rotations.{parity_chip_fits, chip_of_member, member_on_fits}
use Rattle.rules.specs.Sound.{stamped_stripe}
use Rattle.rules.proofs.Soundness.Statements.{RecordSound}
use Rattle.rules.proofs.Stores.Names.{main_member, side_member, main_parity, side_parity}
use Rattle.names.specs.Stamps.{by_stamp, has_main, has_side, names_on, names_below, has_current, has_old, record_names, names_in, names_kept}
use Rattle.ranges.proofs.Counts.{count_positive}
use Rattle.ranges.proofs.Tallies.{ones}
use Rattle.ranges.proofs.Sums.{sum_start, sum_more, sum_cong, sum_same, sum_beyond, sum_swap, counts_sum, sum_gap, but, sum_but_none, sum_but}
use Rattle.names.proofs.Stamping.{stamps_few, stamps_counted}

-- of the pages y of each chip but the lost one: those that are found by their stamps
abbrev pub found_on : (l : Layout) → (ℕ → Record) → (ℕ → ℕ → Page) → ℕ → ℕ → ℕ
found_on l r y lost c = cond (eqb c lost) 0 (count_below (pages l) (by_stamp l r (y c) c))

-- every page that a record names on chip c is rightly stamped, or the chip is lost
abbrev pub stamped_or_lost : (l : Layout) → (ℕ → Record) → (ℕ → ℕ → Page) → ℕ → ℕ → Bool
stamped_or_lost l r y lost c = eqb c lost || all_below l.S (stamped_stripe l r (y c) c)

-- how many of member m the record has
abbrev names_of : (l : Layout) → Record → ℕ → ℕ
names_of l r m = ones (has_current l r m) + ones (has_old l r m)

-- the numbers of one chip are those of all stripes there
chip_sum : (l : Layout) (r : ℕ → Record) (c n : ℕ) → names_below l r c n ≡ sum_below n (λ j. names_on l r j c)
unfolding names_below
chip_sum l r c n = counts_sum n (has_main l r c) (has_side l r c)

-- none before the first
pub chip_none : (l : Layout) (r : ℕ → Record) (c : ℕ) → names_below l r c 0 ≡ 0
chip_none l r c = chip_sum l r c 0 ∙ sum_start (λ j. names_on l r j c)

module _ (l : Layout) (w : Within l) (r : ℕ → Record) where
  open l use {N, S}

  -- the numbers on a member's chip are the member's
  member_names : (j m : ℕ) → names_on l r j (member_chip l j m) ≡ names_of l (r j) m
  member_names j m = rw (main_member l j m (r j), side_member l j m (r j))

  -- and the one on the parity's chip is the parity's
  parity_names : (j : ℕ) → names_on l r j (parity_chip l j) ≡ cond (is_none l (r j).parity) 0 1
  parity_names j =
      rw (main_parity l j (r j), side_parity l j (r j), eq-eqb (none l) (none l) refl)
      (by_test (is_none l (r j).parity) (λ t. rw t) (λ t. rw t))

  -- a sound record has no number of the members N and above
  none_beyond : (j : ℕ) → RecordSound l (r j) → (m : ℕ) → N ≤ m → m < 6 → names_of l (r j) m ≡ 0
  none_beyond j f m h low =
      let (cur, old) = (f.member m low).beyond h in
      rw (cur, old, eq-eqb (none l) (none l) refl)

  -- so its numbers are those on all chips: the members' on their chips, and the parity's between them
  record_sum : (j : ℕ) → RecordSound l (r j) → record_names l (r j) ≡ sum_below (N + 1) (names_on l r j)
  unfolding record_names member_chip
  record_sum j f =
      let all = counts_sum 6 (has_current l (r j)) (has_old l (r j)) in
      let few = sum_beyond N 6 (names_of l (r j)) w.members_high (none_beyond j f) in
      let gap = sum_gap N (parity_chip l j) (names_on l r j) (names_of l (r j)) (omega (arith, parity_chip_fits l j)) (λ m _. member_names j m) in
      rw add-one (omega (arith, parity_names j))

  -- a record, sound or not, has no more numbers on one chip than in all
  pub on_few : (j c : ℕ) → c ≤ N → names_on l r j c ≤ record_names l (r j)
  unfolding record_names
  on_few j c low = by_same c (parity_chip l j)
      (λ e. rw (e, parity_names j) (omega arith))
      (λ d.
      let m = member_on l j c in
      let six : m < 6 = omega (arith, member_on_fits l j c (omega arith) d, w.members_high) in
      rw (← chip_of_member l j c d, member_names j m)
      (omega (arith, at_least (has_current l (r j)) m six, at_least (has_old l (r j)) m six)))
    where
      at_least : (f : ℕ → Bool) (m : ℕ) → m < 6 → ones (f m) ≤ count_below 6 f
      at_least f m six = by_test (f m) (λ t. rw t (count_positive 6 f m six t)) (λ t. rw t (omega arith))

  -- the numbers of the chip with one stripe more
  pub chip_more : (c j : ℕ) → names_below l r c (j + 1) ≡ names_below l r c j + names_on l r j c
  chip_more c j = rw (add-one, chip_sum l r c (suc j), chip_sum l r c j) (sum_more j (λ i. names_on l r i c))

  module _ (sound : (j : ℕ) → j < S → RecordSound l (r j)) where
    -- all numbers, chip by chip
    names_sum : names_in l r S ≡ sum_below (N + 1) (λ c. names_below l r c S)
    names_sum =
        sum_cong S (λ j. record_names l (r j)) (λ j. sum_below (N + 1) (names_on l r j)) (λ j h. record_sum j (sound j h))
        ∙ sum_swap S (N + 1) (names_on l r)
        ∙ sum_cong (N + 1) (λ c. sum_below S (λ j. names_on l r j c)) (λ c. names_below l r c S) (λ c _. sym (chip_sum l r c S))

    -- the numbers kept are those of all chips but the lost one
    kept_sum : (lost : ℕ) → names_kept l r lost ≡ sum_below (N + 1) (but lost (λ c. names_below l r c S))
    unfolding names_kept
    kept_sum lost =
        let names : ℕ → ℕ = λ c. names_below l r c S in
        by_order N lost
        (λ h. rw (lt-leb lost N h, names_sum) (sym (sum_but_none (N + 1) lost names (omega arith))))
        (λ h. rw (le-leb lost N h, names_sum) (omega (arith, sum_but (N + 1) lost names (omega arith))))

    -- on one chip: no more are found than there are, and as many where all are rightly stamped
    found_le : (y : ℕ → ℕ → Page) (lost c : ℕ) → c < N + 1 → found_on l r y lost c ≤ but lost (λ c. names_below l r c S) c
    found_le y lost c h = by_test (eqb c lost) (λ t. rw t (omega arith)) (λ t. rw t (stamps_few l w r (y c) c h sound))

    found_stamps : (y : ℕ → ℕ → Page) (lost c : ℕ) → c < N + 1
        → eqb (found_on l r y lost c) (but lost (λ c. names_below l r c S) c) ≡ stamped_or_lost l r y lost c
    found_stamps y lost c h = by_test (eqb c lost) (λ t. rw t) (λ t. rw t (stamps_counted l w r (y c) c h sound))

    -- and so on all of them
    pub total_stamps : (y : ℕ → ℕ → Page) (lost : ℕ) → eqb (sum_below (N + 1) (found_on l r y lost)) (names_kept l r lost) ≡ all_below (N + 1) (stamped_or_lost l r y lost)
    total_stamps y lost =
        let kept = but lost (λ c. names_below l r c S) in
        rw (kept_sum lost, sum_same (N + 1) (found_on l r y lost) kept (found_le y lost))
        (all_cong (N + 1) (λ c. eqb (found_on l r y lost c) (kept c)) (stamped_or_lost l r y lost) (found_stamps y lost))
