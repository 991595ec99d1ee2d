-- Cuts: what holds after every prefix of a list of stores.
use Prim.Native.Nat.{ℕ, zero, suc, ◌<◌}
use native.Mathlib.Nat.{le_refl, le_step, lt-suc_self, not-suc-le-zero, le_of_suc-le-suc}
use mathlib.Core.Path.{◌≡◌, refl, sym}
use mathlib.Core.List.{List, [], ◌∷◌, ◌++◌, append_assoc}
use lib.ListN.{length}
use lib.Seq.{take_all}
use Rattle.ranges.proofs.Looks.{by_order}
use Rattle.layout.specs.Layout.{Layout}
use Rattle.layout.specs.Images.{Images}
use Rattle.steps.specs.Store.{apply}
use Rattle.steps.specs.Steps.{Step, made, apply_all, and_then, steps_below, then_below}
use Rattle.steps.proofs.Runs.{apply_append}

-- the last step of xs passes L
abbrev pub EndsIn : (Step → Type 0) → List Step → Type 0
EndsIn L xs = (ys : List Step) × (x : Step) × L x × (xs ≡ ys ++ (x ∷ []))

ends_append : (L : Step → Type 0) (xs ys : List Step) → EndsIn L ys → EndsIn L (xs ++ ys)
ends_append L xs ys (zs, x, is, e) = (xs ++ zs, x, is, rw e (sym (append_assoc xs zs (x ∷ []))))

module _ (l : Layout) where
  -- P holds after every prefix of xs
  abbrev pub Every : (Images → Type 0) → List Step → Images → Type 0
  Every P xs s = (a : ℕ) → P (apply_all l (made a xs) s)

  module _ (P : Images → Type 0) where
    pub every_nil : (s : Images) → P s → Every P [] s
    unfolding apply_all
    every_nil s h zero = h
    every_nil s h (suc a) = h

    every_cons : (x : Step) (xs : List Step) (s : Images) → P s → Every P xs (apply l x.store s) → Every P (x ∷ xs) s
    unfolding apply_all
    every_cons x xs s h rest zero = h
    every_cons x xs s h rest (suc a) = rest a

    every_append : (xs ys : List Step) (s : Images) → Every P xs s → Every P ys (apply_all l xs s) → Every P (xs ++ ys) s
    unfolding apply_all
    every_append [] ys s first second a = second a
    every_append (x ∷ xs) ys s first second zero = first zero
    every_append (x ∷ xs) ys s first second (suc a) =
        every_append xs ys (apply l x.store s) (λ i. first (suc i)) second a

    pub every_whole : (xs : List Step) (s : Images) → Every P xs s → P (apply_all l xs s)
    every_whole xs s h = rw (take_all (length xs) xs (le_refl (length xs))) at (h (length xs))

  -- R holds between the images before xs and those after each of its prefixes, and Q after all of it
  pub record Leads (R : Images → Images → Type 0) (Q : Images → Type 0) (xs : List Step) (s : Images) : Type 0 where
    pub along : Every (R s) xs s
    pub ends : Q (apply_all l xs s)

  -- one relation R that reaches further step by step
  module _ (R : Images → Images → Type 0) (trans : (s t u : Images) → R s t → R t u → R s u) where
    pub leads_nil : (Q : Images → Type 0) (s : Images) → R s s → Q s → Leads R Q [] s
    unfolding apply_all
    leads_nil Q s same q = record { along = every_nil (R s) s same; ends = q }

    pub leads_cons : (Q : Images → Type 0) (x : Step) (xs : List Step) (s : Images) → R s s → R s (apply l x.store s)
        → Leads R Q xs (apply l x.store s) → Leads R Q (x ∷ xs) s
    unfolding apply_all
    leads_cons Q x xs s same step rest = record {
      along = every_cons (R s) x xs s same (λ a. trans s (apply l x.store s) (apply_all l (made a xs) (apply l x.store s)) step (rest.along a));
      ends = rest.ends;
    }

    pub leads_one : (Q : Images → Type 0) (x : Step) (s : Images) → R s s → R s (apply l x.store s) → Q (apply l x.store s) → Leads R Q (x ∷ []) s
    unfolding apply_all
    leads_one Q x s same step q = record {
      along = every_cons (R s) x [] s same (every_nil (R s) (apply l x.store s) step);
      ends = q;
    }

    pub leads_append : (Q O : Images → Type 0) (xs ys : List Step) (s : Images) → Leads R Q xs s
        → (R s (apply_all l xs s) → Q (apply_all l xs s) → Leads R O ys (apply_all l xs s)) → Leads R O (xs ++ ys) s
    leads_append Q O xs ys s first next =
        let t = apply_all l xs s in
        let reached = every_whole (R s) xs s first.along in
        let second = next reached first.ends in
        record {
          along = every_append (R s) xs ys s first.along (λ a. trans s t (apply_all l (made a ys) t) reached (second.along a));
          ends = rw (apply_append l xs ys s) second.ends;
        }

    pub leads_then : (Q O : Images → Type 0) (xs : List Step) (f : Images → List Step) (s : Images) → Leads R Q xs s
        → ((t : Images) → R s t → Q t → Leads R O (f t) t) → Leads R O (and_then l xs f s) s
    unfolding and_then
    leads_then Q O xs f s first next = leads_append Q O xs (f (apply_all l xs s)) s first (next (apply_all l xs s))

    -- Q i holds before part i, and each part leads from one to the next
    pub leads_below : (Q : ℕ → Images → Type 0) (n : ℕ) (f : ℕ → List Step) (s : Images) → R s s → Q 0 s
        → ((i : ℕ) → i < n → (t : Images) → R s t → Q i t → Leads R (Q (suc i)) (f i) t) → Leads R (Q n) (steps_below n f) s
    unfolding steps_below
    leads_below Q zero f s same start next = leads_nil (Q 0) s same start
    leads_below Q (suc n) f s same start next =
        leads_append (Q n) (Q (suc n)) (steps_below n f) (f n) s
        (leads_below Q n f s same start (λ i h. next i (le_step h)))
        (next n (lt-suc_self n) (apply_all l (steps_below n f) s))

    pub leads_then_below : (Q : ℕ → Images → Type 0) (n : ℕ) (f : ℕ → Images → List Step) (s : Images) → R s s → Q 0 s
        → ((i : ℕ) → i < n → (t : Images) → R s t → Q i t → Leads R (Q (suc i)) (f i t) t) → Leads R (Q n) (then_below l n f s) s
    unfolding then_below
    leads_then_below Q zero f s same start next = leads_nil (Q 0) s same start
    leads_then_below Q (suc n) f s same start next =
        leads_then (Q n) (Q (suc n)) (then_below l n f s) (f n) s
        (leads_then_below Q n f s same start (λ i h. next i (le_step h)))
        (next n (lt-suc_self n))

  -- a weaker relation, and a weaker end
  pub leads_weaken : (R T : Images → Images → Type 0) (Q O : Images → Type 0) (xs : List Step) (s : Images) → ((t : Images) → R s t → T s t)
      → ((t : Images) → R s t → Q t → O t) → Leads R Q xs s → Leads T O xs s
  leads_weaken R T Q O xs s less end h = record {
    along = λ a. less (apply_all l (made a xs) s) (h.along a);
    ends = end (apply_all l xs s) (every_whole (R s) xs s h.along) h.ends;
  }

  -- P holds after every cut of xs, which is a prefix that is not all of it
  abbrev pub Cuts : (Images → Type 0) → List Step → Images → Type 0
  Cuts P xs s = (a : ℕ) → a < length xs → P (apply_all l (made a xs) s)

  cuts_append : (P : Images → Type 0) (xs ys : List Step) (s : Images) → Every P xs s → Cuts P ys (apply_all l xs s) → Cuts P (xs ++ ys) s
  unfolding apply_all
  cuts_append P [] ys s first second a h = second a h
  cuts_append P (x ∷ xs) ys s first second zero h = first zero
  cuts_append P (x ∷ xs) ys s first second (suc a) h =
      cuts_append P xs ys (apply l x.store s) (λ i. first (suc i)) second a (le_of_suc-le-suc h)

  cuts_two : (P : Images → Type 0) (x y : Step) (s : Images) → P s → P (apply l x.store s) → Cuts P (x ∷ y ∷ []) s
  unfolding apply_all
  cuts_two P x y s h k zero less = h
  cuts_two P x y s h k (suc zero) less = k
  cuts_two P x y s h k (suc (suc a)) less = absurd (not-suc-le-zero (le_of_suc-le-suc (le_of_suc-le-suc less)))

  -- R holds between the images before xs and those after each cut of it, and F after all of it; its last step passes L
  pub record Closes (R F : Images → Images → Type 0) (L : Step → Type 0) (xs : List Step) (s : Images) : Type 0 where
    pub cut : Cuts (R s) xs s
    pub whole : F s (apply_all l xs s)
    pub last : EndsIn L xs

  module _ (R F : Images → Images → Type 0) (L : Step → Type 0) where
    pub closes_two : (x y : Step) (s : Images) → R s s → R s (apply l x.store s) → F s (apply l y.store (apply l x.store s)) → L y → Closes R F L (x ∷ y ∷ []) s
    unfolding apply_all
    closes_two x y s same step whole is_last = record { cut = cuts_two (R s) x y s same step; whole = whole; last = (x ∷ [], y, is_last, refl) }

    module _ (trans : (s t u : Images) → R s t → R t u → R s u) (closing : (s t u : Images) → R s t → F t u → F s u) where
      closes_append : (Q : Images → Type 0) (xs ys : List Step) (s : Images) → Leads R Q xs s
          → (R s (apply_all l xs s) → Q (apply_all l xs s) → Closes R F L ys (apply_all l xs s)) → Closes R F L (xs ++ ys) s
      closes_append Q xs ys s first next =
          let t = apply_all l xs s in
          let reached = every_whole (R s) xs s first.along in
          let second = next reached first.ends in
          record {
            cut = cuts_append (R s) xs ys s first.along (λ a h. trans s t (apply_all l (made a ys) t) reached (second.cut a h));
            whole = rw (apply_append l xs ys s) (closing s t (apply_all l ys t) reached second.whole);
            last = ends_append L xs ys second.last;
          }

      pub closes_then : (Q : Images → Type 0) (xs : List Step) (f : Images → List Step) (s : Images) → Leads R Q xs s
          → ((t : Images) → R s t → Q t → Closes R F L (f t) t) → Closes R F L (and_then l xs f s) s
      unfolding and_then
      closes_then Q xs f s first next = closes_append Q xs (f (apply_all l xs s)) s first (next (apply_all l xs s))

  -- where F is more than R, what closes also leads
  pub closes_leads : (R F : Images → Images → Type 0) (L : Step → Type 0) (Q : Images → Type 0) (xs : List Step) (s : Images) → Closes R F L xs s
      → ((t : Images) → F s t → R s t) → ((t : Images) → F s t → Q t) → Leads R Q xs s
  closes_leads R F L Q xs s h less end = record {
    along = λ a.
        by_order a (length xs)
        (h.cut a)
        (λ long. rw (take_all a xs long) (less (apply_all l xs s) h.whole));
    ends = end (apply_all l xs s) h.whole;
  }

  pub closes_weaken : (R T F : Images → Images → Type 0) (L : Step → Type 0) (xs : List Step) (s : Images) → ((t : Images) → R s t → T s t)
      → Closes R F L xs s → Closes T F L xs s
  closes_weaken R T F L xs s less h = record { cut = λ a below. less (apply_all l (made a xs) s) (h.cut a below); whole = h.whole; last = h.last }
