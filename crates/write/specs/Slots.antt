-- The free slot after a commit.
use Rattle.std.specs.Prelude.{ℕ, cond, ltb, Option, Some, None}

-- the lower of the free slot that was found, if any, and slot t
abbrev pub lower_of : Option ℕ → ℕ → Option ℕ
lower_of (Some i) t = cond (ltb i t) (Some i) (Some t)
lower_of None t = Some t
