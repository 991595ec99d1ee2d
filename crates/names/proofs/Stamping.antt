-- Whether a record names a page can be told from the page's stamp, and all named pages are rightly stamped exactly where as many
-- pages are found by their stamps as the records have numbers.
use Prim.Native.Nat.{ℕ, zero, suc, ◌+◌, ◌≤◌, ◌<◌}
use native.Mathlib.Nat.{le_refl}
use native.Mathlib.Omega.{arith}
use mathlib.Core.Path.{◌≡◌, refl, sym, ◌∙◌}
use mathlib.Core.Logic.{◌≢◌}
use mathlib.Core.Bool.{Bool, true, false, not, ◌&&◌, ◌||◌, and-true, and-false, and-or_distrib_left, or-false}
use mathlib.Core.List.{[], ◌∷◌}
use lib.Dec.{eqb, ltb}
use borrow.Author.Tests.{eq-eqb, ne_eqb, eqb-true, lt-ltb, le-ltb, ltb-true}
use Rattle.ranges.specs.Look.{all_below, count_below}
use Rattle.ranges.proofs.Looks.{by_test, by_same, by_three, all_at, all_true}
use Rattle.ranges.proofs.Tests.{and_both, both_and, chain_all, differ, or_by, unless_equal}
use Rattle.ranges.proofs.Counts.{count_start, count_cong, count_implies, count_zero}
use Rattle.layout.specs.Layout.{Layout, none, is_none, pages}
use Rattle.layout.specs.Page.{Page}
use Rattle.layout.specs.Record.{Record}
use Rattle.layout.proofs.Limits.{Within}
use Rattle.layout.proofs.Pages.{page_number_lem}
use Rattle.rules.specs.Names.{main_number, side_number, kind_on, member_byte, names, named}
use Rattle.rules.specs.Sound.{stamped_page, stamped_number, stamped_stripe}
use Rattle.rules.proofs.Soundness.Statements.{Numbered, RecordSound, sound_member}
use Rattle.rules.proofs.Stores.Names.{by_chip, by_name, main_member, side_member, main_parity, side_parity, named_by, name_named}
use Rattle.names.specs.Stamps.{by_stamp, names_below}
use Rattle.ranges.proofs.Tallies.{same_tests, ones, count_more, count_or, count_at, count_full}

-- what is none or stamped is stamped where it is not none
or_found : (a b : Bool) → a || b ≡ true → not a && b ≡ not a
or_found true b e = refl
or_found false b e = e

-- ---- the numbers of a sound record on one chip

module _ (l : Layout) (w : Within l) (r : Record) (f : RecordSound l r) (c j : ℕ) (chip : c < l.N + 1) where
  -- the main number is none or a page's
  main_numbered : Numbered l (main_number l c j r)
  main_numbered =
      by_chip l c j chip
      (λ e. rw (e, main_parity l j r) f.parity)
      (λ m h e. rw (e, main_member l j m r) (sound_member l w r f m h).current)

  -- and so is the side number
  side_numbered : Numbered l (side_number l c j r)
  side_numbered =
      by_chip l c j chip
      (λ e. rw (e, side_parity l j r) (λ d. absurd (d refl)))
      (λ m h e. rw (e, side_member l j m r) (sound_member l w r f m h).old)

  -- the main number is not the side number where that is a page's
  numbers_apart : side_number l c j r ≢ none l → main_number l c j r ≢ side_number l c j r
  numbers_apart =
      by_chip l c j chip
      (λ e. rw (e, side_parity l j r) (λ d. absurd (d refl)))
      (λ m h e. rw (e, side_member l j m r, main_member l j m r) (λ d.
      let s = sound_member l w r f m h in
      (s.current_under_bit_lem (s.old_under_bit_lem d)).1))

module _ (l : Layout) (w : Within l) (r : ℕ → Record) (x : ℕ → Page) (c : ℕ) where
  open l use {N, S}

  -- the numbers of stripe j on this chip
  abbrev main : ℕ → ℕ
  main j = main_number l c j (r j)

  abbrev side : ℕ → ℕ
  side j = side_number l c j (r j)

  -- ---- one page

  -- the record of stripe j names page p, which has the stamp of that stripe
  abbrev by_stamp_of : ℕ → ℕ → Bool
  by_stamp_of j p = stamped_page l x c j p && names l r c p j

  -- page p has the stamp of a stripe below n, and that stripe's record names it
  abbrev by_stamp_below : ℕ → ℕ → Bool
  by_stamp_below n p = ltb (x p).stripe n && by_stamp_of (x p).stripe p

  -- a page that is stamped by stripe j is found by its own stamp among the stripes below n, where j is
  stamp_below : (n j p : ℕ) → j < n → by_stamp_of j p ≡ true → by_stamp_below n p ≡ true
  stamp_below n j p h t =
      let stamp = (and_both (stamped_page l x c j p) (names l r c p j) t).0 in
      let tests = eqb (x p).kind (kind_on l c j) ∷ eqb (x p).member (member_byte l c j) ∷ [] in
      let e = eqb-true (x p).stripe j (chain_all (eqb (x p).stripe j) tests stamp).0 in
      rw (e, lt-ltb j n h) (rw e at t)

  -- a rightly stamped stripe has stamped each page that its record names
  stripe_stamped : (p j : ℕ) → p ≢ none l → stamped_stripe l r x c j ≡ true → names l r c p j ≡ true → stamped_page l x c j p ≡ true
  unfolding stamped_stripe
  stripe_stamped p j d e t =
      let (m, s) = and_both (stamped_number l x c j (main j)) (stamped_number l x c j (side j)) e in
      by_name l r c p j t
      (λ q. unless_equal p (none l) (stamped_page l x c j p) (rw q at m) d)
      (λ q. unless_equal p (none l) (stamped_page l x c j p) (rw q at s) d)

  -- where every named page is rightly stamped, the stamp tells whether a page is named
  pub named_by_stamp : all_below S (stamped_stripe l r x c) ≡ true → (p : ℕ) → p < pages l → named l r c p ≡ by_stamp l r x c p
  unfolding by_stamp
  named_by_stamp all p low = same_tests (named l r c p) (by_stamp l r x c p)
      (λ t.
      let (j, h, n) = named_by l r c p t in
      let stamp = stripe_stamped p j (page_number_lem l w p low) (all_at S (stamped_stripe l r x c) all j h) n in
      stamp_below S j p h (both_and stamp n))
      (λ t.
      let j = (x p).stripe in
      let (h, s) = and_both (ltb j S) (by_stamp_of j p) t in
      name_named l r c p j (ltb-true j S h) (and_both (stamped_page l x c j p) (names l r c p j) s).1)

  -- of one stripe more, the pages that it stamps are found too
  by_stamp_more : (n p : ℕ) → by_stamp_below (suc n) p ≡ by_stamp_below n p || by_stamp_of n p
  by_stamp_more n p = let s = (x p).stripe in by_three s n
      (λ h. rw (lt-ltb s (suc n) (omega arith), lt-ltb s n h, ne_eqb s n (omega arith), or-false))
      (λ e. rw (e, lt-ltb n (suc n) (omega arith), le-ltb n n (omega arith)))
      (λ h. rw (le-ltb s (suc n) (omega arith), le-ltb s n (omega arith), ne_eqb s n (omega arith)))

  -- and they were not before
  by_stamp_apart : (n p : ℕ) → by_stamp_below n p ≡ true → by_stamp_of n p ≡ false
  by_stamp_apart n p t =
      let s = (x p).stripe in
      let low = ltb-true s n (and_both (ltb s n) (by_stamp_of s p) t).0 in
      rw (ne_eqb s n (omega arith))

  -- ---- one number of each stripe

  -- number q is a page's, and that page has the stamp of stripe j
  abbrev found : ℕ → ℕ → Bool
  found j q = not (is_none l q) && stamped_page l x c j q

  -- it is a page's then
  found_some_lem : (j q : ℕ) → found j q ≡ true → q ≢ none l
  found_some_lem j q t = differ q (none l) (and_both (not (is_none l q)) (stamped_page l x c j q) t).0

  -- page p has the stamp and number q exactly where it is that of the number, which is found
  found_at : (j p q : ℕ) → p < pages l → stamped_page l x c j p && eqb q p ≡ eqb q p && found j q
  found_at j p q low = by_same q p
      (λ e. rw (e, eq-eqb p p refl, ne_eqb p (none l) (page_number_lem l w p low), and-true))
      (λ d. rw (ne_eqb q p d, and-false))

  module _ (q : ℕ → ℕ) where
    -- number q j of stripe j is there, and is found
    abbrev some : ℕ → Bool
    some j = not (is_none l (q j))

    abbrev found_some : ℕ → Bool
    found_some j = found j (q j)

    -- what is found is there
    found_there : (j : ℕ) → j < S → found_some j ≡ true → some j ≡ true
    found_there j h t = (and_both (some j) (stamped_page l x c j (q j)) t).0

    -- so no more are found than there are
    found_few : count_below S found_some ≤ count_below S some
    found_few = count_implies S found_some some found_there

    -- as many where all are rightly stamped
    all_found : ((j : ℕ) → j < S → stamped_number l x c j (q j) ≡ true) → count_below S found_some ≡ count_below S some
    all_found h = count_cong S found_some some (λ j low. or_found (is_none l (q j)) (stamped_page l x c j (q j)) (h j low))

    -- and only there
    found_all : count_below S some ≤ count_below S found_some → (j : ℕ) → j < S → stamped_number l x c j (q j) ≡ true
    found_all few j low = or_by (is_none l (q j)) (stamped_page l x c j (q j)) (λ f.
        let t = count_full S found_some some found_there few j low (rw f) in
        (and_both (some j) (stamped_page l x c j (q j)) t).1)

  -- ---- all numbers

  module _ (chip : c < N + 1) (sound : (j : ℕ) → j < S → RecordSound l (r j)) where
    -- page p is that of a number of stripe j that is found
    abbrev at_main : ℕ → ℕ → Bool
    at_main j p = eqb (main j) p && found j (main j)

    abbrev at_side : ℕ → ℕ → Bool
    at_side j p = eqb (side j) p && found j (side j)

    -- a page is stamped by stripe j where it is one of these two
    by_stamp_at : (j p : ℕ) → p < pages l → by_stamp_of j p ≡ at_main j p || at_side j p
    unfolding names
    by_stamp_at j p low = rw (and-or_distrib_left, found_at j p (main j) low, found_at j p (side j) low)

    -- and it is not both
    at_apart : (j p : ℕ) → j < S → at_main j p ≡ true → at_side j p ≡ false
    at_apart j p h t =
        by_test (at_side j p)
        (λ t'.
        let (a, _) = and_both (eqb (main j) p) (found j (main j)) t in
        let (b, f) = and_both (eqb (side j) p) (found j (side j)) t' in
        let e = eqb-true (main j) p a ∙ sym (eqb-true (side j) p b) in
        absurd (numbers_apart l w (r j) (sound j h) c j chip (found_some_lem j (side j) f) e))
        (λ f. f)

    -- so stripe j stamps as many pages as numbers of it are found
    stripe_count : (j : ℕ) → j < S → count_below (pages l) (by_stamp_of j) ≡ ones (found j (main j)) + ones (found j (side j))
    stripe_count j h =
        rw (
          count_or (pages l) (by_stamp_of j) (at_main j) (at_side j) (by_stamp_at j) (λ p _. at_apart j p h),
          count_at (pages l) (main j) (found j (main j)) (λ t. main_numbered l w (r j) (sound j h) c j chip (found_some_lem j (main j) t)),
          count_at (pages l) (side j) (found j (side j)) (λ t. side_numbered l w (r j) (sound j h) c j chip (found_some_lem j (side j) t)),
        )

    -- and so do the stripes below n together
    stamps_count : (n : ℕ) → n ≤ S → count_below (pages l) (by_stamp_below n) ≡ count_below n (found_some main) + count_below n (found_some side)
    stamps_count zero h =
        let start = count_zero (pages l) (by_stamp_below 0) (λ p _. rw (le-ltb (x p).stripe 0 (omega arith))) in
        omega (arith, count_start (found_some main), count_start (found_some side))
    stamps_count (suc n) h =
        let ih = stamps_count n (omega arith) in
        let more = count_or (pages l) (by_stamp_below (suc n)) (by_stamp_below n) (by_stamp_of n) (λ p _. by_stamp_more n p) (λ p _. by_stamp_apart n p) in
        omega (arith, stripe_count n h, count_more n (found_some main), count_more n (found_some side))

    -- no more pages are found by their stamps than there are numbers
    pub stamps_few : count_below (pages l) (by_stamp l r x c) ≤ names_below l r c S
    unfolding by_stamp names_below
    stamps_few = omega (arith, stamps_count S (le_refl S), found_few main, found_few side)

    -- as many pages are found by their stamps as there are numbers exactly where every named page is rightly stamped
    pub stamps_counted : eqb (count_below (pages l) (by_stamp l r x c)) (names_below l r c S) ≡ all_below S (stamped_stripe l r x c)
    unfolding by_stamp names_below stamped_stripe
    stamps_counted =
        let count = count_below (pages l) (by_stamp l r x c) in
        let sum = stamps_count S (le_refl S) in
        same_tests (eqb count (names_below l r c S)) (all_below S (stamped_stripe l r x c))
        (λ t.
        let e = sym sum ∙ eqb-true count (names_below l r c S) t in
        let a = found_few main in
        let b = found_few side in
        all_true S (stamped_stripe l r x c) (λ j h. both_and (found_all main (omega arith) j h) (found_all side (omega arith) j h)))
        (λ t.
        let stamped : (j : ℕ) → j < S → (stamped_number l x c j (main j) ≡ true) × (stamped_number l x c j (side j) ≡ true) =
        λ j h. and_both (stamped_number l x c j (main j)) (stamped_number l x c j (side j)) (all_at S (stamped_stripe l r x c) t j h) in
        eq-eqb count (names_below l r c S) (rw (all_found main (λ j h. (stamped j h).0), all_found side (λ j h. (stamped j h).1)) at sum))
