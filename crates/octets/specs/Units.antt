-- A byte list as an array of units of one size.
use Rattle.std.specs.Prelude.{ℕ, ◌*◌, List, ◌++◌, take, drop}

-- the k bytes at offset a
unfoldable pub part : ℕ → ℕ → List ℕ → List ℕ
part a k xs = take k (drop a xs)

-- xs with ys in place of the k bytes at offset a, in the shape in which a lent part of a slice comes back
unfoldable pub put : ℕ → ℕ → List ℕ → List ℕ → List ℕ
put a k ys xs = take a xs ++ (ys ++ drop k (drop a xs))

-- unit i of xs, where a unit is u bytes
unfoldable pub unit : ℕ → ℕ → List ℕ → List ℕ
unit u i xs = part (i * u) u xs

-- xs with ys as its unit i
unfoldable pub unit_put : ℕ → ℕ → List ℕ → List ℕ → List ℕ
unit_put u i ys xs = put (i * u) u ys xs
