-- What the stores of a write and of a commit are fed with, by page numbers: no chip is lost, so each page is read as it stands.
use Prim.Native.Nat.{ℕ, ◌+◌, ◌<◌}
use native.Mathlib.Nat.{zero-add, add-zero}
use native.Mathlib.Omega.{arith}
use mathlib.Core.Path.{◌≡◌, refl, sym, ap, ◌∙◌}
use mathlib.Core.Bool.{Bool, true, false, not, cond, ◌&&◌}
use mathlib.Core.List.{List, []}
use borrow.Author.Tests.{eq-eqb, ne_eqb, not-true, not-false}
use Rattle.octets.specs.Xor.{◌⊕◌}
use Rattle.octets.proofs.Xors.{xor_below_cong}
use Rattle.ranges.specs.Look.{count_below}
use Rattle.ranges.proofs.Looks.{by_test}
use Rattle.ranges.proofs.Sums.{sum_cong, count_sum}
use Rattle.ranges.proofs.Tallies.{ones}
use Rattle.layout.specs.Layout.{Layout, none, no_chip, is_none}
use Rattle.layout.specs.Rotation.{parity_chip, member_chip}
use Rattle.layout.specs.Page.{Page}
use Rattle.layout.specs.Record.{Record, bit, has_slot}
use Rattle.layout.proofs.Limits.{Within}
use Rattle.layout.proofs.Rotations.{parity_chip_fits, member_chip_fits}
use Rattle.rules.specs.declared.Role.{Role}
use Rattle.rules.specs.declared.Role.TheVariants.{Current, Old, Parity}
use Rattle.rules.specs.Fetch.{Fetched, Feed, itself, members_feed, gathered, chip_in, number_in, fetch_role, feed_role}
use Rattle.rules.specs.Costs.{set_bits, most_in_partial}
use Rattle.rules.specs.Parity.{new_parity}
use Rattle.rules.specs.Partial.{new_partial}
use Rattle.rules.proofs.Data.Contents.{member_bytes, bytes_none}

module _ (l : Layout) where
  open l use {N}

  -- a page that has a number is one read
  unfoldable pub reads_at : ℕ → ℕ
  reads_at p = cond (is_none l p) 0 1

  -- member m has a page in f
  abbrev pub is_page : (ℕ → ℕ) → ℕ → Bool
  is_page f m = not (is_none l (f m))

  -- the pages read for the XOR of those in f
  unfoldable pub gathered_reads : (ℕ → ℕ) → ℕ
  gathered_reads f = count_below N (is_page f)

  itself_reads : (y : ℕ → ℕ → Page) (c p : ℕ) → (itself l y c p).reads ≡ reads_at p
  unfolding itself reads_at
  itself_reads y c p = by_test (is_none l p) (λ t. rw t) (λ t. rw t)

  -- "pages not in the bitmap"
  unfoldable pub current_outside : Record → ℕ → ℕ
  current_outside r m = cond (bit r m) (none l) (r.current m)

  -- "old pages of the bitmap"
  unfoldable pub old_inside : Record → ℕ → ℕ
  old_inside r m = cond (bit r m) (r.old m) (none l)

  -- the new parity, with the pages y of each chip and the slots z, and the pages read for it
  unfoldable pub parity_bytes : (ℕ → ℕ → Page) → (ℕ → List ℕ) → ℕ → Record → List ℕ
  parity_bytes y z j r =
      z r.slot
      ⊕ cond (most_in_partial l.N (set_bits l r))
      (gathered l y j (current_outside r)).bytes
      ((itself l y (parity_chip l j) r.parity).bytes ⊕ (gathered l y j (old_inside r)).bytes)

  unfoldable pub parity_reads : Record → ℕ
  parity_reads r =
      cond (most_in_partial l.N (set_bits l r))
      (gathered_reads (current_outside r))
      (reads_at r.parity + gathered_reads (old_inside r))

  -- the same of the new partial parity
  unfoldable pub partial_bytes : (ℕ → ℕ → Page) → (ℕ → List ℕ) → ℕ → ℕ → List ℕ → Record → List ℕ
  partial_bytes y z j m xs r =
      cond (has_slot r)
      (cond (bit r m)
      (z r.slot ⊕ (itself l y (member_chip l j m) (r.current m)).bytes ⊕ xs)
      (z r.slot ⊕ xs))
      xs

  unfoldable pub partial_reads : ℕ → Record → ℕ
  partial_reads m r = cond (has_slot r && bit r m) (reads_at (r.current m)) 0

  reads_none : reads_at (none l) ≡ 0
  unfolding reads_at
  reads_none = rw (eq-eqb (none l) (none l) refl)

  -- a page that is read counts as one
  reads_ones : (f : ℕ → ℕ) (m : ℕ) → reads_at (f m) ≡ ones (is_page f m)
  unfolding reads_at
  reads_ones f m = by_test (is_none l (f m)) (λ t. rw t) (λ t. rw t)

  module _ (w : Within l) (y : ℕ → ℕ → Page) (z : ℕ → List ℕ) (j : ℕ) (r : Record) where
    -- a page in its role, where no chip is lost
    abbrev page : Role → Feed
    page role = feed_role l y z j r role

    pub page_there : (role : Role) → chip_in l j role < N + 1
        → fetch_role l y z j r no_chip role ≡ itself l y (chip_in l j role) (number_in l r role)
    unfolding fetch_role
    page_there role fits = rw (ne_eqb (chip_in l j role) no_chip (omega (arith, w.members_high)))

    -- the members that are chosen have a page in f, and the others have none
    module _ (chosen : ℕ → Bool) (role : ℕ → Role) (f : ℕ → ℕ)
        (here : (m : ℕ) → m < N → chosen m ≡ true → (chip_in l j (role m) ≡ member_chip l j m) × (number_in l r (role m) ≡ f m))
        (elsewhere : (m : ℕ) → m < N → chosen m ≡ false → f m ≡ none l) where
      member_page : (m : ℕ) → m < N → chosen m ≡ true → fetch_role l y z j r no_chip (role m) ≡ itself l y (member_chip l j m) (f m)
      member_page m low t =
          let (chip, number) = here m low t in
          page_there (role m) (rw chip (member_chip_fits l j m low)) ∙ rw (chip, number)

      member_bytes_lem : (m : ℕ) → m < N → cond (chosen m) (page (role m)).bytes [] ≡ (itself l y (member_chip l j m) (f m)).bytes
      member_bytes_lem m low =
          by_test (chosen m)
          (λ t. rw t (ap (λ (x : Fetched). x.bytes) (member_page m low t)))
          (λ t. rw (t, elsewhere m low t) (sym (bytes_none l y (member_chip l j m))))

      member_reads : (m : ℕ) → m < N → cond (chosen m) (page (role m)).reads 0 ≡ ones (is_page f m)
      member_reads m low =
          by_test (chosen m)
          (λ t. rw t (ap (λ (x : Fetched). x.reads) (member_page m low t) ∙ itself_reads y (member_chip l j m) (f m) ∙ reads_ones f m))
          (λ t. rw t (sym reads_none ∙ ap reads_at (sym (elsewhere m low t)) ∙ reads_ones f m))

      members_are : members_feed l chosen (λ m. page (role m)) ≡ record { bytes = (gathered l y j f).bytes; reads = gathered_reads f }
      unfolding members_feed gathered gathered_reads
      members_are =
          rw (
            xor_below_cong N (λ m. cond (chosen m) (page (role m)).bytes []) (member_bytes l y j f) member_bytes_lem,
            sum_cong N (λ m. cond (chosen m) (page (role m)).reads 0) (λ m. ones (is_page f m)) member_reads,
            count_sum N (is_page f),
          )

    currents_are : members_feed l (λ m. not (bit r m)) (λ m. page (Current m)) ≡ record { bytes = (gathered l y j (current_outside r)).bytes; reads = gathered_reads (current_outside r) }
    unfolding current_outside
    currents_are =
        members_are (λ m. not (bit r m)) (λ m. Current m) (current_outside r)
        (λ m low t. (refl, rw (not-true (bit r m) t)))
        (λ m low t. rw (not-false (bit r m) t))

    olds_are : members_feed l (bit r) (λ m. page (Old m)) ≡ record { bytes = (gathered l y j (old_inside r)).bytes; reads = gathered_reads (old_inside r) }
    unfolding old_inside
    olds_are = members_are (bit r) (λ m. Old m) (old_inside r) (λ m low t. (refl, rw t)) (λ m low t. rw t)

    -- the new parity
    pub parity_fed : new_parity l page (z r.slot) r ≡ record { bytes = parity_bytes y z j r; reads = parity_reads r }
    unfolding new_parity parity_bytes parity_reads
    parity_fed =
        by_test (most_in_partial l.N (set_bits l r))
        (λ t. rw (t, currents_are, zero-add))
        (λ t. rw (t, olds_are, page_there Parity (parity_chip_fits l j), itself_reads y (parity_chip l j) r.parity, zero-add))

    -- the new partial parity
    pub partial_fed : (m : ℕ) → m < N → (xs : List ℕ) → new_partial l page (z r.slot) m xs r ≡ record { bytes = partial_bytes y z j m xs r; reads = partial_reads m r }
    unfolding new_partial partial_bytes partial_reads
    partial_fed m low xs =
        by_test (has_slot r)
        (λ s. by_test (bit r m) (λ t. rw (s, t, page_there (Current m) (member_chip_fits l j m low), itself_reads y (member_chip l j m) (r.current m), zero-add, add-zero)) (λ t. rw (s, t)))
        (λ s. rw s)
