-- Document 02, 2, "How was this page got": a weight that is found with its chip lost, and a question that gives none, at the geometry of the
-- bench program, where a page has one ticket.
use Prim.Native.Nat.{ℕ, zero, suc}
use mathlib.Core.Path.{◌≡◌, refl}
use mathlib.Core.List.{List, [], ◌∷◌, ◌++◌}
use Rattle.ranges.proofs.Tests.{same_rows}
use Rattle.octets.specs.Number.{digits}
use Rattle.rules.specs.declared.Origin.{Origin}
use Rattle.rules.specs.declared.Origin.TheVariants.{Direct, Partial, Full}
use Rattle.rules.specs.Origins.{origin_number}
use Rattle.rules.specs.Log.{log_origin}
use Rattle.rules.specs.Calls.{Outcome, add_call, find_call}
use Rattle.rules.proofs.Examples.Compute.{computes}
use Rattle.rules.proofs.Examples.Rows.{bench, formatted, filled}
use Rattle.rules.proofs.Examples.Tickets.{weighing, shown_find}

-- bag 1 of lot 7 is added, to page 0 on chip 0; then, with that chip lost, the question for a bag, in a row with status, counts, gross and
-- tare, and origin
pub told : ℕ → List (List ℕ)
told bag =
    let o : Outcome = add_call bench formatted 255 (weighing 1 7 60140 140) 3 in
    shown_find (find_call bench o.images 0 7 bag) ∷ []

-- its page is rebuilt through the partial parity, which is the page itself
pub given_told : told 1 ≡ (0 ∷ 0 ∷ 0 ∷ 0 ∷ 60140 ∷ 140 ∷ 2 ∷ []) ∷ []
unfolding computes told
given_told = same_rows _ _ refl

-- another bag is not there: the last among page 0, rebuilt, and page 1, where the log ends and which was never written
pub none_told : told 2 ≡ (0 ∷ 0 ∷ 0 ∷ 0 ∷ 2 ∷ []) ∷ []
unfolding computes told
none_told = same_rows _ _ refl

-- a log of three tickets: the weights of bags 1 and 2 of lot 7, and the withdrawal of bag 2; its end in page 3
pub pages : ℕ → List ℕ
pages zero = weighing 1 7 60140 140
pages (suc zero) = weighing 2 7 59870 140
pages (suc (suc zero)) = 2 ∷ 0 ∷ (digits 2 2 ++ (digits 4 7 ++ digits 8 0))
pages (suc (suc (suc i))) = filled 0

-- page 1 and the page with the log's end were rebuilt through the partial parity, the pages behind the end through the full one
pub got : ℕ → Origin
got zero = Direct
got (suc zero) = Partial
got (suc (suc zero)) = Direct
got (suc (suc (suc zero))) = Partial
got (suc (suc (suc (suc i)))) = Full

-- how the questions for bags 1, 2 and 3 were got
pub numbers : List ℕ
numbers =
    origin_number (log_origin bench pages got 7 1)
    ∷ origin_number (log_origin bench pages got 7 2)
    ∷ origin_number (log_origin bench pages got 7 3)
    ∷ []

-- bag 1 is given, and carries its page's; of bag 2, withdrawn, and of bag 3, which is not there, the last of pages 0 to 3
pub numbers_told : numbers ≡ 1 ∷ 2 ∷ 2 ∷ []
unfolding computes pages got numbers
numbers_told = refl
