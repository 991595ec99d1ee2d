-- "All numbers in images are little-endian."
use Rattle.std.specs.Prelude.{ℕ, zero, suc, ◌+◌, ◌*◌, ◌/◌, ◌%◌, List, [], ◌∷◌}

-- the number that the bytes hold
unfoldable pub number : List ℕ → ℕ
number [] = 0
number (b ∷ bs) = b + 256 * number bs

-- x in k bytes
unfoldable pub digits : ℕ → ℕ → List ℕ
digits zero x = []
digits (suc k) x = x % 256 ∷ digits k (x / 256)
