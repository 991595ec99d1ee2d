-- Worked examples: a function held against a table of arguments and values.
use Rattle.std.specs.Prelude.{◌≡◌, List, [], ◌∷◌}

-- at each row (x, y) of the table, f x is y
abbrev pub Rows : {A B : Type 0} → (A → B) → List (A × B) → Type 0
Rows f [] = Unit
Rows f ((x, y) ∷ rows) = (f x ≡ y) × Rows f rows
