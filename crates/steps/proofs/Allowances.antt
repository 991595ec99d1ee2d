-- Laws of a call under way: lists of steps end to end, a list worked out from the images, a call that is cut stands still.
use Prim.Native.Nat.{ℕ, zero, suc, ◌+◌, ◌-◌, ◌≤◌, ◌<◌}
use native.Mathlib.Nat.{sub-zero, zero-sub, sub-eq-zero_of_le, add-sub_of_le, le_of_lt}
use native.Mathlib.Numerals.{add-one}
use native.Mathlib.Omega.{arith}
use mathlib.Core.Path.{◌≡◌, refl, sym, ap, ◌∙◌}
use mathlib.Core.Bool.{Bool, true, false, ◌||◌, or-true, or-false}
use mathlib.Core.List.{List, [], ◌∷◌, ◌++◌, append-nil}
use lib.ListN.{length, take, length-append}
use lib.Seq.{take_all, take-nil, take-append-le, take-append-add}
use lib.Dec.{ltb}
use borrow.Author.Tests.{lt-ltb, le-ltb}
use Rattle.ranges.proofs.Looks.{at_last, by_order, by_test, both}
use Rattle.ranges.proofs.Tests.{or_right}
use Rattle.layout.specs.Layout.{Layout}
use Rattle.layout.specs.Images.{Images}
use Rattle.steps.specs.Store.{Store, program, erase, slot, stripe, collection, apply}
use Rattle.steps.specs.Steps.{Step, programs_of, erases_of, counted, counted_all, and_then, steps_below, then_below, apply_all}
use Rattle.steps.specs.declared.Counts.{Counts}
use Rattle.steps.specs.declared.Progress.{Progress}
use Rattle.steps.specs.Allowance.{most_reads, after, applied, Sane, Ran}
use Rattle.steps.proofs.Runs.{apply_append}

-- the progress after one store for which so many pages were read, programmed and erased
abbrev pub counting : Progress → ℕ → ℕ → ℕ → Progress
counting p reads programs erases =
    record {
      counts =
          record {
            reads = p.counts.reads + reads;
            programs = p.counts.programs + programs;
            erases = p.counts.erases + erases;
            stores = p.counts.stores + 1;
          };
      left = p.left - 1;
      cut = p.cut;
    }

-- the progress of a call that is cut
abbrev pub stopped : Progress → Progress
stopped p = record { counts = p.counts; left = p.left; cut = true }

-- so many elements of two lists end to end: what the first leaves comes from the second
take_append : (n : ℕ) (xs ys : List Step) → take n (xs ++ ys) ≡ take n xs ++ take (n - length xs) ys
take_append n xs ys = by_order n (length xs)
    (λ h. let k : n ≤ length xs = le_of_lt h in rw (take-append-le, sub-eq-zero_of_le k, append-nil))
    (λ h. rw (take_all n xs h) (ap (λ (i : ℕ). take i (xs ++ ys)) (sym (add-sub_of_le h)) ∙ take-append-add xs ys (n - length xs)))

-- counts of two lists end to end
pub count_append : (xs ys : List Step) (n : Counts) → counted_all (xs ++ ys) n ≡ counted_all ys (counted_all xs n)
unfolding counted_all
count_append [] ys n = refl
count_append (x ∷ xs) ys n = count_append xs ys (counted x n)

-- two lists end to end are longer than n where one of them is longer than what is left for it
cut_append : (c : Bool) (n a b : ℕ) → c || ltb n (a + b) ≡ c || ltb n a || ltb (n - a) b
cut_append true n a b = refl
cut_append false n a b = by_order n a
    (λ h. rw (lt-ltb n a h, lt-ltb n (a + b) (omega arith)))
    (λ h. rw (le-ltb n a h) (by_order n (a + b)
    (λ k. rw (lt-ltb n (a + b) k, lt-ltb (n - a) b (omega arith)))
    (λ k. rw (le-ltb n (a + b) k, le-ltb (n - a) b (omega arith)))))

-- the progress after two lists end to end
after_append : (p : Progress) (xs ys : List Step) → after p (xs ++ ys) ≡ after (after p xs) ys
unfolding after
after_append p xs ys =
    let n = p.left in
    let left : n - length (xs ++ ys) ≡ n - length xs - length ys = rw length-append (omega arith) in
    rw (left, take_append n xs ys, count_append (take n xs) (take (n - length xs) ys) p.counts, length-append, cut_append p.cut n (length xs) (length ys))

-- with nothing left, what is cut or has a store due is cut, and nothing else changes
after_spent : (p : Progress) (xs : List Step) → p.left ≡ 0 → p.cut || ltb p.left (length xs) ≡ true → after p xs ≡ stopped p
unfolding after counted_all
after_spent p xs e t = rw (t, e, zero-sub)

-- a store counts at most one program, and one erase
at_most_one : (x : Store) → (programs_of x ≤ 1) × (erases_of x ≤ 1)
at_most_one (program c p x) = omega arith
at_most_one (erase c b) = omega arith
at_most_one (slot i xs) = omega arith
at_most_one (stripe j r) = omega arith
at_most_one (collection co) = omega arith

module _ (l : Layout) where
  -- one store with nothing left: the call is cut, and nothing changes
  pub ran_stop : (p : Progress) (x : Step) (s : Images) → Sane p → p.left ≡ 0 → Ran l p (x ∷ []) (stopped p) s s
  unfolding applied apply_all
  ran_stop p x s h e = record {
    progress = sym (after_spent p (x ∷ []) e (or_right p.cut (lt-ltb p.left 1 (omega arith))));
    images = rw e;
    sane = record { reads = h.reads; programs = h.programs; erases = h.erases; stores = h.stores; spent = λ _. e };
  }

  -- one store that is made
  pub ran_one : (p : Progress) (x : Step) (s t : Images) → Sane p → 0 < p.left → x.reads ≤ most_reads → t ≡ apply l x.store s
      → Ran l p (x ∷ []) (counting p x.reads (programs_of x.store) (erases_of x.store)) s t
  unfolding after counted_all counted applied apply_all
  ran_one p x s t h left reads e =
      let all = take_all p.left (x ∷ []) left in
      record {
        progress = rw (all, le-ltb p.left 1 left, or-false);
        images = rw all e;
        sane = record {
          reads = omega arith;
          programs = omega (arith, at_most_one x.store);
          erases = omega (arith, at_most_one x.store);
          stores = omega arith;
          spent = λ c. omega (arith, h.spent c);
        };
      }

  -- no store
  pub ran_none : (p : Progress) (s : Images) → Sane p → Ran l p [] p s s
  unfolding after counted_all applied apply_all
  ran_none p s h = record {
    progress = rw (take-nil {A = Step} p.left, le-ltb p.left 0 (omega arith), or-false, sub-zero);
    images = rw (take-nil {A = Step} p.left);
    sane = h;
  }

  -- the images after two lists end to end
  applied_append : (p : Progress) (xs ys : List Step) (s : Images) → applied l p (xs ++ ys) s ≡ applied l (after p xs) ys (applied l p xs s)
  unfolding applied after
  applied_append p xs ys s =
      rw (take_append p.left xs ys) (apply_append l (take p.left xs) (take (p.left - length xs) ys) s)

  -- lists end to end
  pub ran_append : (p q r : Progress) (xs ys : List Step) (s t u : Images) → Ran l p xs q s t → Ran l q ys r t u → Ran l p (xs ++ ys) r s u
  ran_append p q r xs ys s t u first second = record {
    progress = cc (after_append p xs ys);
    images = cc (applied_append p xs ys s);
    sane = second.sane;
  }

  -- a list ends where it is cut, with nothing left, or with all of it made
  by_end {ℓ} : {P : Type ℓ} (p q : Progress) (xs : List Step) (s t : Images) → Ran l p xs q s t
      → (q.left ≡ 0 → q.cut ≡ true → P) → (t ≡ apply_all l xs s → P) → P
  unfolding after applied
  by_end p q xs s t h cut whole = by_order p.left (length xs)
      (λ less. cut
      (rw h.progress (sub-eq-zero_of_le (le_of_lt less)))
      (rw (h.progress, lt-ltb p.left (length xs) less) (or-true p.cut)))
      (λ rest. whole (rw (take_all p.left xs rest) at h.images))

  -- a call that is cut makes no store of any list
  ran_still : (p q : Progress) (xs ys : List Step) (s t : Images) → p.left ≡ 0 → p.cut ≡ true → Ran l p xs q s t → Ran l p ys q s t
  unfolding applied apply_all
  ran_still p q xs ys s t e c h = record {
    progress = h.progress ∙ after_spent p xs e (rw c) ∙ sym (after_spent p ys e (rw c));
    images = rw e (rw e at h.images);
    sane = h.sane;
  }

  -- a list that is worked out from the images after another; where the first is cut, the second makes no store, whatever it is
  pub ran_then : (p q r : Progress) (xs : List Step) (f : Images → List Step) (s t u : Images) → Ran l p xs q s t → Ran l q (f t) r t u
      → Ran l p (and_then l xs f s) r s u
  unfolding and_then
  ran_then p q r xs f s t u first second = by_end p q xs s t first
      (λ e c. ran_append p q r xs (f (apply_all l xs s)) s t u first (ran_still q r (f t) (f (apply_all l xs s)) t u e c second))
      (λ e. ran_append p q r xs (f (apply_all l xs s)) s t u first (rw (← e) second))

  -- where the first is cut, that is all
  pub ran_then_cut : (p q : Progress) (xs : List Step) (f : Images → List Step) (s t : Images) → Ran l p xs q s t → q.cut ≡ true → Ran l p (and_then l xs f s) q s t
  ran_then_cut p q xs f s t first c =
      ran_then p q q xs f s t t first (ran_still q q [] (f t) t t (first.sane.spent c) c (ran_none q t first.sane))

  -- lists below n, one more
  pub ran_below : (p q r : Progress) (f : ℕ → List Step) (n : ℕ) (s t u : Images) → Ran l p (steps_below n f) q s t → Ran l q (f n) r t u
      → Ran l p (steps_below (n + 1) f) r s u
  unfolding steps_below
  ran_below p q r f n s t u first second = rw add-one (ran_append p q r (steps_below n f) (f n) s t u first second)

  -- the same, each worked out from the images after those before it
  pub ran_then_below : (p q r : Progress) (f : ℕ → Images → List Step) (n : ℕ) (s t u : Images) → Ran l p (then_below l n f s) q s t → Ran l q (f n t) r t u
      → Ran l p (then_below l (n + 1) f s) r s u
  unfolding then_below
  ran_then_below p q r f n s t u first second = rw add-one (ran_then p q r (then_below l n f s) (f n) s t u first second)

  -- what is not cut is the whole list
  pub ran_whole : (p q : Progress) (xs : List Step) (s t : Images) → Ran l p xs q s t → q.cut ≡ false → t ≡ apply_all l xs s
  ran_whole p q xs s t h e = by_end p q xs s t h (λ _ c. both q.cut c e) (λ w. w)

  -- what is not cut was not cut before
  pub ran_going : (p q : Progress) (xs : List Step) (s t : Images) → Ran l p xs q s t → q.cut ≡ false → p.cut ≡ false
  unfolding after
  ran_going p q xs s t h e = by_test p.cut (λ c. both q.cut (rw (h.progress, c)) e) (λ c. c)

  -- what is cut makes no store of a longer list
  pub ran_longer : (p q : Progress) (xs ys : List Step) (s t : Images) → Ran l p xs q s t → q.cut ≡ true → Ran l p (xs ++ ys) q s t
  ran_longer p q xs ys s t h c =
      ran_append p q q xs ys s t t h (ran_still q q [] ys t t (h.sane.spent c) c (ran_none q t h.sane))

  -- nor of more lists
  pub ran_below_cut : (p q : Progress) (f : ℕ → List Step) (i n : ℕ) (s t : Images) → i ≤ n → q.cut ≡ true → Ran l p (steps_below i f) q s t
      → Ran l p (steps_below n f) q s t
  unfolding steps_below
  ran_below_cut p q f i zero s t low c h = let e : i ≡ 0 = omega arith in rw e at h
  ran_below_cut p q f i (suc n) s t low c h = at_last i (suc n) (omega arith)
      (λ less. ran_longer p q (steps_below n f) (f n) s t (ran_below_cut p q f i n s t (omega arith) c h) c)
      (λ e. rw e at h)

  -- what is cut in the first lists makes no store of the lists after them
  pub ran_cut : (p q : Progress) (f : ℕ → Images → List Step) (i n : ℕ) (s t : Images) → i ≤ n → q.cut ≡ true → Ran l p (then_below l i f s) q s t
      → Ran l p (then_below l n f s) q s t
  unfolding then_below
  ran_cut p q f i zero s t low c h = let e : i ≡ 0 = omega arith in rw e at h
  ran_cut p q f i (suc n) s t low c h = at_last i (suc n) (omega arith)
      (λ less.
      ran_then p q q (then_below l n f s) (f n) s t t (ran_cut p q f i n s t (omega arith) c h)
      (ran_still q q [] (f n t) t t (h.sane.spent c) c (ran_none q t h.sane)))
      (λ e. rw e at h)
