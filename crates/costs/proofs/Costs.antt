-- The cost of a stripe, from what the code reads of its record.
use Prim.Native.Nat.{ℕ}
use mathlib.Core.Path.{◌≡◌, sym, ap, ◌∙◌}
use Rattle.layout.specs.Layout.{Layout}
use Rattle.layout.specs.Record.{Record}
use Rattle.rules.specs.Costs.{set_bits, cost_of, record_cost}

-- from its bitmap, and the number of bits in that
pub cost_is : (l : Layout) (r : ℕ → Record) (j : ℕ) {bitmap bits cost : ℕ} → bitmap ≡ (r j).bitmap
    → ((e : Record) → e.bitmap ≡ bitmap → bits ≡ set_bits l e) → cost ≡ cost_of l.N bits → cost ≡ record_cost l r j
cost_is l r j b counted c = c ∙ ap (cost_of l.N) (counted (r j) (sym b))
