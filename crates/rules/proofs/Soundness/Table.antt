-- The rows of a call: what it means that they pass, and rows behind other rows.
use Prim.Native.Nat.{ℕ}
use mathlib.Core.Path.{◌≡◌, refl, sym, ap}
use mathlib.Core.Bool.{Bool, true, false, not, ◌&&◌}
use mathlib.Core.List.{List, [], ◌∷◌, ◌++◌}
use lib.Dec.{eqb}
use borrow.Author.Tests.{eq-eqb}
use Rattle.ranges.proofs.Looks.{both}
use Rattle.ranges.proofs.Tests.{and_right}
use Rattle.rules.specs.declared.Refusal.{Refusal}
use Rattle.rules.specs.Refusals.{Check, Row, refusal_number, checked}
use Rattle.std.specs.Prelude.{Ok, Err}

-- the cases of a check
pub by_check {ℓ} : {P : Type ℓ} (k : Check) → (k ≡ Ok tt → P) → ((r : Refusal) → k ≡ Err r → P) → P
by_check (Ok tt) passed failed = passed refl
by_check (Err r) passed failed = failed r refl

abbrev passes : Check → Bool
passes (Ok tt) = true
passes (Err r) = false

pub not_passed {ℓ} : {P : Type ℓ} (r : Refusal) → ◌≡◌ {A = Check} (Err r) (Ok tt) → P
not_passed r e = both false (ap passes e) refl

-- the test of each row passes
abbrev pub AllPass : List Row → Type 0
AllPass [] = Unit
AllPass ((test, r) ∷ rows) = (test ≡ true) × AllPass rows

pub rows_passed : (rows : List Row) → checked rows ≡ Ok tt → AllPass rows
rows_passed [] e = tt
rows_passed ((true, r) ∷ rows) e = (refl, rows_passed rows e)
rows_passed ((false, r) ∷ rows) e = not_passed r e

pub rows_pass : (rows : List Row) → AllPass rows → checked rows ≡ Ok tt
rows_pass [] h = refl
rows_pass ((test, r) ∷ rows) h = rw h.0 (rows_pass rows h.1)

-- rows below other rows count where those above have passed
pub below_passed : (above below : List Row) → checked above ≡ Ok tt → checked (above ++ below) ≡ checked below
below_passed [] below e = refl
below_passed ((true, r) ∷ above) below e = below_passed above below e
below_passed ((false, r) ∷ above) below e = not_passed r e

pub below_failed : (above below : List Row) (n : Refusal) → checked above ≡ Err n → checked (above ++ below) ≡ Err n
below_failed [] below n e = not_passed n (sym e)
below_failed ((true, r) ∷ above) below n e = below_failed above below n e
below_failed ((false, r) ∷ above) below n e = e

-- no row has the refusal of this number
abbrev pub lacks : ℕ → List Row → Bool
lacks n [] = true
lacks n ((test, r) ∷ rows) = not (eqb (refusal_number r) n) && lacks n rows

abbrev failed_with : Check → ℕ
failed_with (Ok tt) = 0
failed_with (Err r) = refusal_number r

-- so it comes from the rows below
pub from_below : (above below : List Row) (n : Refusal) → lacks (refusal_number n) above ≡ true → checked (above ++ below) ≡ Err n
    → (checked above ≡ Ok tt) × (checked below ≡ Err n)
from_below [] below n h e = (refl, e)
from_below ((true, r) ∷ above) below n h e = from_below above below n (and_right (not (eqb (refusal_number r) (refusal_number n))) (lacks (refusal_number n) above) h) e
from_below ((false, r) ∷ above) below n h e =
    both false (rw (eq-eqb (refusal_number r) (refusal_number n) (ap failed_with e)) at h) refl

-- and where all pass, both do
pub both_passed : (above below : List Row) → checked (above ++ below) ≡ Ok tt → (checked above ≡ Ok tt) × (checked below ≡ Ok tt)
both_passed above below e = by_check (checked above)
    (λ h. (h, rw (below_passed above below h) at e))
    (λ r h. not_passed r (rw (below_failed above below r h) at e))
