-- The least so far, with one number more.
use Prim.Native.Nat.{ℕ, ◌+◌, ◌<◌, ◌≤◌}
use native.Mathlib.Numerals.{add-one}
use native.Mathlib.Omega.{arith}
use mathlib.Core.Path.{◌≡◌, refl, sym, ap, ◌∙◌}
use mathlib.Core.Bool.{Bool, true, false}
use Rattle.std.specs.Prelude.{Option, Some, None}
use Rattle.ranges.specs.declared.Least.{Least}
use Rattle.ranges.specs.Look.{least_below, least_of, least_so_far, found_in}
use Rattle.ranges.proofs.Looks.{by_found, both, least_start, least_skips, least_here, least_better, least_keeps}

-- none before the first
pub least_none : (f : ℕ → Bool) (m : ℕ → ℕ) → None ≡ least_so_far f m 0
unfolding least_so_far
least_none f m = rw (least_start f m)

-- what was found
found_of : (m : ℕ → ℕ) (x : Option ℕ) → found_in (least_of m x) ≡ x
found_of m (Some i) = refl
found_of m None = refl

pub found_least : (f : ℕ → Bool) (m : ℕ → ℕ) (n : ℕ) {l : Option Least} → l ≡ least_so_far f m n → found_in l ≡ least_below n f m
unfolding least_so_far
found_least f m n h = rw h (found_of m (least_below n f m))

-- the measure of what was found, and another number
abbrev measure_in : ℕ → Option Least → ℕ
measure_in other (Some x) = x.measure
measure_in other None = other

abbrev is_one : Option Least → Bool
is_one (Some x) = true
is_one None = false

module _ (f : ℕ → Bool) (m : ℕ → ℕ) (n : ℕ) {l : Option Least} (h : l ≡ least_so_far f m n) where
  -- n does not pass
  pub least_passed : f n ≡ false → l ≡ least_so_far f m (n + 1)
  unfolding least_so_far
  least_passed t = rw (h, add-one, least_skips n f m t)

  -- n passes, with measure k
  module _ {k : ℕ} (t : f n ≡ true) (e : k ≡ m n) where
    -- one was found, whose measure is not more
    pub least_stays : (best : Least) → l ≡ Some best → best.measure ≤ k → l ≡ least_so_far f m (n + 1)
    unfolding least_so_far
    least_stays best is s = by_found (least_below n f m)
        (λ i q.
        let same : best.measure ≡ m i = ap (measure_in k) (sym is ∙ h ∙ ap (least_of m) q) in
        rw (add-one, least_keeps n f m i t q (omega arith)) (h ∙ rw q))
        (λ q. both false (sym (ap is_one (sym is ∙ h ∙ ap (least_of m) q))) refl)

    -- or none was, or its measure is more
    pub least_taken : ((best : Least) → l ≡ Some best → k < best.measure) → Some (record { at = n; measure = k }) ≡ least_so_far f m (n + 1)
    unfolding least_so_far
    least_taken s = by_found (least_below n f m)
        (λ i q.
        let more : k < m i = s (record { at = i; measure = m i }) (h ∙ ap (least_of m) q) in
        rw (add-one, least_better n f m i t q (omega arith), e))
        (λ q. rw (add-one, least_here n f m t q, e))

    -- its measure is more
    pub least_beaten : (best : Least) → l ≡ Some best → k < best.measure → Some (record { at = n; measure = k }) ≡ least_so_far f m (n + 1)
    least_beaten best is s = least_taken (λ other e. let same : best.measure ≡ other.measure = ap (measure_in k) (sym is ∙ e) in omega arith)

    -- none was found
    pub least_first : l ≡ None → Some (record { at = n; measure = k }) ≡ least_so_far f m (n + 1)
    least_first none = least_taken (λ best is. both false (ap is_one (sym none ∙ is)) refl)
