-- Document 01: where the pages of a stripe stand.
use Rattle.std.specs.Prelude.{ℕ, ◌+◌, ◌-◌, ◌/◌, ◌%◌, cond, ltb}
use Rattle.layout.specs.Layout.{Layout}

module _ (l : Layout) where
  open l use {N}

  -- "Logical page i is member i mod N"
  abbrev pub member_of : ℕ → ℕ
  member_of i = i % N

  -- "of stripe j = floor(i / N)"
  abbrev pub stripe_of : ℕ → ℕ
  stripe_of i = i / N

  -- "Parity of stripe j is on chip N − (j mod (N + 1))."
  unfoldable pub parity_chip : ℕ → ℕ
  parity_chip j = N - j % (N + 1)

  -- "Member m is on chip m if m is less than that, else on chip m + 1."
  unfoldable pub member_chip : ℕ → ℕ → ℕ
  member_chip j m = cond (ltb m (parity_chip j)) m (m + 1)

  -- the member of stripe j that is on chip c, where that is not the parity's
  unfoldable pub member_on : ℕ → ℕ → ℕ
  member_on j c = cond (ltb c (parity_chip j)) c (c - 1)
