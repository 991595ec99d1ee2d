-- "Cost is N − p or p + 1": no commit reads more pages than its cost.
use Prim.Native.Nat.{ℕ, ◌≤◌}
use native.Mathlib.Omega.{arith}
use mathlib.Core.Path.{◌≡◌, refl}
use mathlib.Core.Bool.{true, false}
use borrow.Author.Tests.{eq-eqb}
use Rattle.ranges.proofs.Looks.{by_test, both}
use Rattle.ranges.proofs.Counts.{count_apart, count_implies}
use Rattle.layout.specs.Layout.{Layout, none, is_none}
use Rattle.layout.specs.Record.{Record, bit}
use Rattle.rules.specs.Costs.{set_bits, most_in_partial, cost_of}
use Rattle.rules.proofs.Data.Feeds.{reads_at, is_page, gathered_reads, current_outside, old_inside, parity_reads}

module _ (l : Layout) where
  open l use {N}

  -- a page number of none is no read
  reads_one : (p : ℕ) → reads_at l p ≤ 1
  unfolding reads_at
  reads_one p = by_test (is_none l p) (λ t. rw t (omega arith)) (λ t. rw t (omega arith))

  -- of a set member no current page is read, and of a clear one no old page
  no_current : (r : Record) (m : ℕ) → is_page l (current_outside l r) m ≡ true → bit r m ≡ false
  unfolding current_outside
  no_current r m e = by_test (bit r m) (λ t. both false (rw (t, eq-eqb (none l) (none l) refl) at e) refl) (λ t. t)

  no_old : (r : Record) (m : ℕ) → is_page l (old_inside l r) m ≡ true → bit r m ≡ true
  unfolding old_inside
  no_old r m e = by_test (bit r m) (λ t. t) (λ t. both false (rw (t, eq-eqb (none l) (none l) refl) at e) refl)

  pub commit_reads : (r : Record) → parity_reads l r ≤ cost_of l.N (set_bits l r)
  unfolding parity_reads cost_of gathered_reads set_bits
  commit_reads r =
      by_test (most_in_partial l.N (set_bits l r))
      (λ t. rw t (omega (arith, count_apart N (is_page l (current_outside l r)) (bit r) (λ m h. no_current r m))))
      (λ t. rw t (omega (arith, reads_one r.parity, count_implies N (is_page l (old_inside l r)) (bit r) (λ m h. no_old r m))))
