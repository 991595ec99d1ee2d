-- A function with one value replaced.
use Rattle.std.specs.Prelude.{ℕ, cond, eqb}

-- f, but x at i
unfoldable pub at : {A : Type 0} → ℕ → A → (ℕ → A) → ℕ → A
at i x f k = cond (eqb k i) x (f k)
