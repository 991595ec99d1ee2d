-- Document 02, 1, "Tickets inside the pages": a ticket added and found, at the geometry of the bench program.
use Rattle.std.specs.Prelude.{Result, Option, Some, None}
use Rattle.rules.specs.declared.Refusal.{Refusal}
use Prim.Native.Nat.{ℕ}
use mathlib.Core.Path.{◌≡◌, refl}
use mathlib.Core.List.{List, [], ◌∷◌, ◌++◌}
use Rattle.octets.specs.Number.{digits}
use Rattle.ranges.proofs.Tests.{same_rows}
use Rattle.rules.specs.declared.Weight.{Weight}
use Rattle.rules.specs.declared.Finding.{Finding}
use Rattle.rules.specs.Calls.{Outcome, find_status_of, find_counts_of, find_standing_of, find_origin_of, add_call, find_call}
use Rattle.rules.proofs.Examples.Compute.{computes}
use Rattle.rules.proofs.Examples.Rows.{bench, formatted, shown_counts, shown_write}

-- "kind .., a zero byte, bag (2 bytes), lot (4), gross grams (4), tare grams (4)"
abbrev pub weighing : ℕ → ℕ → ℕ → ℕ → List ℕ
weighing bag lot gross tare = 1 ∷ 0 ∷ (digits 2 bag ++ (digits 4 lot ++ (digits 4 gross ++ digits 4 tare)))

abbrev shown_standing : Option Weight → List ℕ
shown_standing (Some x) = x.gross ∷ x.tare ∷ []
shown_standing None = []

-- the status of a question, its counts, gross and tare if there is a weight, and how its page was got
abbrev pub shown_find : Result Finding Refusal → List ℕ
shown_find x = find_status_of x ∷ (shown_counts (find_counts_of x) ++ (shown_standing (find_standing_of x) ++ (find_origin_of x ∷ [])))

-- bag 1 of lot 7, added with this allowance to a store as a format leaves it, and the question for it
pub asked : ℕ → List (List ℕ)
asked allowance =
    let o : Outcome = add_call bench formatted 255 (weighing 1 7 60140 140) allowance in
    shown_write o ∷ shown_find (find_call bench o.images 255 7 1) ∷ []

-- the addition is a first write, of three stores
pub added_found : asked 3 ≡ (0 ∷ 0 ∷ 1 ∷ 0 ∷ []) ∷ (0 ∷ 1 ∷ 0 ∷ 0 ∷ 60140 ∷ 140 ∷ 1 ∷ []) ∷ []
unfolding computes asked
added_found = same_rows _ _ refl

-- cut, it leaves no ticket
pub cut_not_found : asked 2 ≡ (255 ∷ 0 ∷ 1 ∷ 0 ∷ []) ∷ (0 ∷ 0 ∷ 0 ∷ 0 ∷ 0 ∷ []) ∷ []
unfolding computes asked
cut_not_found = same_rows _ _ refl
