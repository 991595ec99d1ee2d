-- The ways to look through the numbers below a bound. Every check and every choice of document 01 is one of these; sums are for pages
-- read and for what code counts.
-- Each recursion takes the last number at its end, as an ascending loop does.
use Rattle.std.specs.Prelude.{ℕ, zero, suc, ◌+◌, Bool, true, false, cond, ◌&&◌, ◌||◌, ltb, Option, Some, None}
use Rattle.ranges.specs.declared.Least.{Least}

-- every number below n passes f
unfoldable pub all_below : ℕ → (ℕ → Bool) → Bool
all_below zero f = true
all_below (suc n) f = all_below n f && f n

-- some number below n passes f
unfoldable pub some_below : ℕ → (ℕ → Bool) → Bool
some_below zero f = false
some_below (suc n) f = some_below n f || f n

-- how many numbers below n pass f
unfoldable pub count_below : ℕ → (ℕ → Bool) → ℕ
count_below zero f = zero
count_below (suc n) f = cond (f n) (suc (count_below n f)) (count_below n f)

-- the first answer that is one
abbrev pub or_else : Option ℕ → Option ℕ → Option ℕ
or_else (Some i) next = Some i
or_else None next = next

-- what f makes of the number found, or else the other
unfoldable pub when_found : {A : Type 0} → Option ℕ → (ℕ → A) → A → A
when_found (Some i) f other = f i
when_found None f other = other

-- the lowest number below n that passes f
unfoldable pub first_below : ℕ → (ℕ → Bool) → Option ℕ
first_below zero f = None
first_below (suc n) f = or_else (first_below n f) (cond (f n) (Some n) None)

-- the highest number below n that passes f
unfoldable pub last_below : ℕ → (ℕ → Bool) → Option ℕ
last_below zero f = None
last_below (suc n) f = cond (f n) (Some n) (last_below n f)

-- of the best so far and n: n where it is strictly better, so that the lowest stands on ties
abbrev pub better : (ℕ → ℕ) → Option ℕ → ℕ → Option ℕ
better measure (Some i) n = cond (ltb (measure n) (measure i)) (Some n) (Some i)
better measure None n = Some n

-- of the numbers below n that pass f, the one of least measure, lowest on ties
unfoldable pub least_below : ℕ → (ℕ → Bool) → (ℕ → ℕ) → Option ℕ
least_below zero f measure = None
least_below (suc n) f measure = cond (f n) (better measure (least_below n f measure) n) (least_below n f measure)

-- what was found with its measure
abbrev pub least_of : (ℕ → ℕ) → Option ℕ → Option Least
least_of measure (Some i) = Some (record { at = i; measure = measure i })
least_of measure None = None

-- of the numbers below n
unfoldable pub least_so_far : (ℕ → Bool) → (ℕ → ℕ) → ℕ → Option Least
least_so_far f measure n = least_of measure (least_below n f measure)

-- and back
abbrev pub found_in : Option Least → Option ℕ
found_in (Some x) = Some x.at
found_in None = None

-- the sum of f 0, f 1, .. below n
unfoldable pub sum_below : ℕ → (ℕ → ℕ) → ℕ
sum_below zero f = 0
sum_below (suc n) f = sum_below n f + f n
