-- The first units of an image, all alike.
use Rattle.std.specs.Prelude.{ℕ, zero, suc, List}
use Rattle.octets.specs.Units.{unit_put}

-- xs with ys as each of its first n units of u bytes
unfoldable pub first_units : ℕ → ℕ → List ℕ → List ℕ → List ℕ
first_units u zero ys xs = xs
first_units u (suc n) ys xs = unit_put u n ys (first_units u n ys xs)
