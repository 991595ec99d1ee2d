-- Many stores alike: as many are made, and counted, as the allowance holds.
use Prim.Native.Nat.{ℕ, zero, suc, ◌+◌, ◌-◌, ◌*◌, ◌/◌, ◌%◌, ◌≤◌, ◌<◌, min}
use native.Mathlib.Nat.{mul-add-div_right, div-eq_of_lt, mul-add-mod_self_right, mod-eq_of_lt, add-zero, add-suc, mul-one, mul-le-mul, le_refl, le_of_lt, min-zero, min-eq_left, min-eq_right, sub-add-min_cancel, suc-mul, zero-mul}
use native.Mathlib.Numerals.{add-one}
use native.Mathlib.Omega.{arith}
use mathlib.Core.Path.{◌≡◌, refl, ap}
use mathlib.Core.List.{List, [], ◌∷◌, ◌++◌, append_assoc, append-nil}
use lib.ListN.{length, length-append}
use lib.Seq.{take-nil, take_all, take-append-le}
use lib.Dec.{ltb}
use borrow.Author.Tests.{ltb-true}
use Rattle.ranges.proofs.Looks.{by_order, by_test}
use Rattle.ranges.proofs.Tests.{or_else}
use Rattle.layout.specs.Layout.{Layout}
use Rattle.layout.specs.Images.{Images}
use Rattle.steps.specs.Store.{Store}
use Rattle.steps.specs.Steps.{Step, plain, made, programs_of, erases_of, counted, counted_all, apply_all, steps_below}
use Rattle.steps.specs.Allowance.{after, applied, counting_all, Sane, Ran}
use Rattle.steps.specs.declared.Counts.{Counts}
use Rattle.steps.specs.declared.Progress.{Progress}
use Rattle.steps.proofs.Allowances.{count_append}
use Rattle.steps.proofs.Lengths.{below_cong}

-- ---- lists below a number

-- the lists from m on follow those below m
below_add : (m n : ℕ) (f : ℕ → List Step) → steps_below (m + n) f ≡ steps_below m f ++ steps_below n (λ i. f (m + i))
unfolding steps_below
below_add m zero f = rw (add-zero, append-nil)
below_add m (suc n) f = rw (add-suc, below_add m n f, append_assoc)

-- n lists below each of m are m * n lists below one another
pub below_below : (m n : ℕ) (f : ℕ → ℕ → List Step) → 0 < n → steps_below m (λ c. steps_below n (f c)) ≡ steps_below (m * n) (λ i. f (i / n) (i % n))
unfolding steps_below
below_below zero n f some = rw zero-mul
below_below (suc m) n f some =
    let f' : ℕ → List Step = λ i. f (i / n) (i % n) in
    rw (suc-mul, below_add (m * n) n f', below_below m n f some)
    (ap (λ (xs : List Step). steps_below (m * n) f' ++ xs)
    (below_cong n (f m) (λ i. f' (m * n + i)) (λ i low. rw (mul-add-div_right some m i, div-eq_of_lt low, add-zero, mul-add-mod_self_right m n i, mod-eq_of_lt low))))

-- ---- numbers

-- at most one each
pub one_each : (m erases : ℕ) → erases ≤ 1 → m * erases ≤ m
one_each m erases few = rw mul-one at (mul-le-mul (le_refl m) few)

-- what is left behind the lesser of two
pub left_over : (a n : ℕ) → a - min a n ≡ a - n
left_over a n = omega (arith, sub-add-min_cancel a n)

-- ---- stores, one in each list

-- the store x i as a list
abbrev pub one : (ℕ → Store) → ℕ → List Step
one x i = plain (x i) ∷ []

module _ (x : ℕ → Store) where
  length_each : (n : ℕ) → length (steps_below n (one x)) ≡ n
  unfolding steps_below
  length_each zero = refl
  length_each (suc n) = rw (length-append, length_each n, add-one)

  -- the first of them
  made_each : (a n : ℕ) → made a (steps_below n (one x)) ≡ steps_below (min a n) (one x)
  unfolding steps_below
  made_each a zero = rw (min-zero, take-nil {A = Step} a)
  made_each a (suc n) = by_order a (suc n)
      (λ h.
      let k : a ≤ n = omega arith in
      let low : a ≤ length (steps_below n (one x)) = rw (length_each n) k in
      rw (take-append-le a (steps_below n (one x)) (one x n) low, made_each a n, min-eq_left k, min-eq_left (le_of_lt h)))
      (λ h. rw (min-eq_right h) (take_all a (steps_below (suc n) (one x)) (rw (length_each (suc n)) h)))

  module _ (erases : ℕ) (no_programs : (i : ℕ) → programs_of (x i) ≡ 0) (each_erases : (i : ℕ) → erases_of (x i) ≡ erases) where
    counts_each : (n : ℕ) (c : Counts)
        → counted_all (steps_below n (one x)) c
        ≡ record { reads = c.reads; programs = c.programs; erases = c.erases + n * erases; stores = c.stores + n }
    unfolding steps_below counted_all counted
    counts_each zero c = simp (zero-mul, add-zero)
    counts_each (suc n) c =
        let erased : c.erases + n * erases + erases ≡ c.erases + suc n * erases = rw suc-mul (omega arith) in
        let stored : c.stores + n + 1 ≡ c.stores + suc n = omega arith in
        rw (count_append (steps_below n (one x)) (one x n) c, counts_each n c, no_programs n, each_erases n)
        λ i. record { reads = add-zero c.reads i; programs = add-zero c.programs i; erases = erased i; stores = stored i }

    -- the images are those after the stores that are made
    pub ran_each : (l : Layout) (p : Progress) (n : ℕ) (s t : Images) → Sane p → erases ≤ 1
        → t ≡ apply_all l (steps_below (min p.left n) (one x)) s → Ran l p (steps_below n (one x)) (counting_all p n erases) s t
    unfolding after applied
    ran_each l p n s t h few e = record {
      progress = rw (made_each p.left n, counts_each (min p.left n) p.counts, length_each n);
      images = rw (made_each p.left n) e;
      sane =
          let m = min p.left n in
          let rest = sub-add-min_cancel p.left n in
          let each = one_each m erases few in
          record {
            reads = omega (arith, h.reads);
            programs = omega (arith, h.programs);
            erases = omega (arith, h.erases);
            stores = omega (arith, h.stores);
            spent = λ c. by_test p.cut
                (λ k. omega (arith, h.spent k))
                (λ k. omega (arith, ltb-true p.left n (or_else p.cut (ltb p.left n) c k)));
          };
    }
