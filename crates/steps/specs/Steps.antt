-- Document 01, "The calls, store by store": a call's list of stores, the store allowance, the counts.
use Rattle.std.specs.Prelude.{ℕ, zero, suc, ◌+◌, Bool, List, [], ◌∷◌, ◌++◌, length, take, ltb}
use Rattle.layout.specs.Layout.{Layout}
use Rattle.layout.specs.Images.{Images}
use Rattle.steps.specs.Store.{Store, program, erase, slot, stripe, collection, apply}
use Rattle.steps.specs.declared.Counts.{Counts}

-- a store of a list, and the pages read for it
pub record Step : Type 0 where
  pub reads : ℕ
  pub store : Store

-- a store for which no page is read
abbrev pub plain : Store → Step
plain x = record { reads = 0; store = x }

module _ (l : Layout) where
  -- the images after the stores of a list
  unfoldable pub apply_all : List Step → Images → Images
  apply_all [] s = s
  apply_all (x ∷ xs) s = apply_all xs (apply l x.store s)

  -- "each worked out from the images as they then stand": xs, and then what f makes of the images after xs
  unfoldable pub and_then : List Step → (Images → List Step) → Images → List Step
  and_then xs f s = xs ++ f (apply_all xs s)

-- "If the list is longer than the allowance it stops there": the stores that are made
abbrev pub made : ℕ → List Step → List Step
made allowance xs = take allowance xs

-- "and answers cut", "otherwise done"; "Cut is given in no other case."
abbrev pub is_cut : ℕ → List Step → Bool
is_cut allowance xs = ltb allowance (length xs)

-- "Counts: pages read (data or parity), pages programmed, blocks erased, stores."
abbrev pub no_counts : Counts
no_counts = record { reads = 0; programs = 0; erases = 0; stores = 0 }

-- those of a call that has read so many pages, and stored nothing
abbrev pub reading : ℕ → Counts
reading n = record { reads = n; programs = 0; erases = 0; stores = 0 }

-- "pages programmed"
abbrev pub programs_of : Store → ℕ
programs_of (program c p x) = 1
programs_of (erase c b) = 0
programs_of (slot i xs) = 0
programs_of (stripe j r) = 0
programs_of (collection co) = 0

-- "blocks erased"
abbrev pub erases_of : Store → ℕ
erases_of (program c p x) = 0
erases_of (erase c b) = 1
erases_of (slot i xs) = 0
erases_of (stripe j r) = 0
erases_of (collection co) = 0

-- "A read for a store that a cut leaves unmade isn't counted": reads are counted with their store
unfoldable pub counted : Step → Counts → Counts
counted x n =
    record {
      reads = n.reads + x.reads;
      programs = n.programs + programs_of x.store;
      erases = n.erases + erases_of x.store;
      stores = n.stores + 1;
    }

-- the counts n, and those of a list
unfoldable pub counted_all : List Step → Counts → Counts
counted_all [] n = n
counted_all (x ∷ xs) n = counted_all xs (counted x n)

-- the lists f 0, f 1, .. below n, end to end
unfoldable pub steps_below : ℕ → (ℕ → List Step) → List Step
steps_below zero f = []
steps_below (suc n) f = steps_below n f ++ f n

-- the same, where each list is worked out from the images after those before it
unfoldable pub then_below : Layout → ℕ → (ℕ → Images → List Step) → Images → List Step
then_below l zero f s = []
then_below l (suc n) f s = and_then l (then_below l n f s) (f n) s
