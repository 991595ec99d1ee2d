-- The counts of a list are totals over it.
use Prim.Native.Nat.{ℕ, ◌+◌, ◌<◌}
use native.Mathlib.Nat.{le_of_lt}
use native.Mathlib.Omega.{arith}
use mathlib.Core.Path.{◌≡◌, ap, ◌∙◌}
use mathlib.Core.List.{List, [], ◌∷◌}
use lib.ListN.{length}
use lib.Seq.{length-take-le}
use Rattle.steps.specs.declared.Counts.{Counts}
use Rattle.steps.specs.Steps.{Step, made, programs_of, erases_of, counted, counted_all}

-- what f makes of each step, added up
unfoldable pub total : (Step → ℕ) → List Step → ℕ
total f [] = 0
total f (x ∷ xs) = f x + total f xs

abbrev pub step_reads : Step → ℕ
step_reads x = x.reads

abbrev pub step_programs : Step → ℕ
step_programs x = programs_of x.store

abbrev pub step_erases : Step → ℕ
step_erases x = erases_of x.store

-- each count by itself, from any counts on
reads_from : (xs : List Step) (n : Counts) → (counted_all xs n).reads ≡ n.reads + total step_reads xs
unfolding counted_all counted total
reads_from [] n = omega arith
reads_from (x ∷ xs) n = omega (arith, reads_from xs (counted x n))

programs_from : (xs : List Step) (n : Counts) → (counted_all xs n).programs ≡ n.programs + total step_programs xs
unfolding counted_all counted total
programs_from [] n = omega arith
programs_from (x ∷ xs) n = omega (arith, programs_from xs (counted x n))

erases_from : (xs : List Step) (n : Counts) → (counted_all xs n).erases ≡ n.erases + total step_erases xs
unfolding counted_all counted total
erases_from [] n = omega arith
erases_from (x ∷ xs) n = omega (arith, erases_from xs (counted x n))

stores_from : (xs : List Step) (n : Counts) → (counted_all xs n).stores ≡ n.stores + length xs
unfolding counted_all counted
stores_from [] n = omega arith
stores_from (x ∷ xs) n = omega (arith, stores_from xs (counted x n))

-- the counts n, and "pages read (data or parity), pages programmed, blocks erased, stores" added up over a list
abbrev pub with_totals : Counts → List Step → Counts
with_totals n xs =
    record {
      reads = n.reads + total step_reads xs;
      programs = n.programs + total step_programs xs;
      erases = n.erases + total step_erases xs;
      stores = n.stores + length xs;
    }

pub counts_are : (xs : List Step) (n : Counts) → counted_all xs n ≡ with_totals n xs
counts_are xs n = λ i. record {
  reads = reads_from xs n i;
  programs = programs_from xs n i;
  erases = erases_from xs n i;
  stores = stores_from xs n i;
}

-- a cut makes as many stores as the allowance
pub cut_stores : (a : ℕ) (xs : List Step) (n : Counts) → a < length xs → (counted_all (made a xs) n).stores ≡ n.stores + a
cut_stores a xs n h = stores_from (made a xs) n ∙ ap (λ k. n.stores + k) (length-take-le a xs (le_of_lt h))
