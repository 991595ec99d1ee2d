-- Document 01: the cost of a commit, and the stripe of least cost.
use Rattle.std.specs.Prelude.{ℕ, ◌+◌, ◌-◌, ◌/◌, Bool, cond, leb, Option}
use Rattle.ranges.specs.Look.{count_below, least_below}
use Rattle.layout.specs.Layout.{Layout}
use Rattle.layout.specs.Record.{Record, bit, slotted}

-- "if p is at least ceil(N / 2)"
abbrev pub most_in_partial : ℕ → ℕ → Bool
most_in_partial N p = leb ((N + 1) / 2) p

-- "Cost is N − p or p + 1."
unfoldable pub cost_of : ℕ → ℕ → ℕ
cost_of N p = cond (most_in_partial N p) (N - p) (p + 1)

module _ (l : Layout) where
  open l use {N, S}

  -- "p set bits"
  unfoldable pub set_bits : Record → ℕ
  set_bits r = count_below N (bit r)

  -- the cost of the stripe j
  abbrev pub record_cost : (ℕ → Record) → ℕ → ℕ
  record_cost r j = cost_of N (set_bits (r j))

  -- "the stripe of least cost, lowest number on ties"
  unfoldable pub cheapest : (ℕ → Record) → Option ℕ
  cheapest r = least_below S (slotted r) (record_cost r)
