-- The parity and the members of a stripe stand on the N + 1 chips, one on each.
use Prim.Native.Nat.{ℕ, ◌+◌, ◌-◌, ◌≤◌, ◌<◌, ◌*◌}
use native.Mathlib.Decide.{dec_lt}
use native.Mathlib.Omega.{arith}
use native.Mathlib.Nat.{div-lt_iff_lt-mul, mul_comm, mod-lt}
use mathlib.Core.Path.{◌≡◌, sym, ap, ◌∙◌}
use mathlib.Core.Logic.{◌≢◌}
use borrow.Author.Tests.{lt-ltb, le-ltb}
use Rattle.layout.specs.Layout.{Layout}
use Rattle.layout.specs.Rotation.{parity_chip, member_chip, member_on, member_of, stripe_of}
use Rattle.layout.proofs.Limits.{Within}

module _ (l : Layout) (j : ℕ) where
  open l use {N}

  pub parity_chip_fits : parity_chip l j < N + 1
  unfolding parity_chip
  parity_chip_fits = omega arith

  -- the two cases of a member's chip, and of a chip's member
  low_chip : (m : ℕ) → m < parity_chip l j → member_chip l j m ≡ m
  unfolding member_chip
  low_chip m h = rw (lt-ltb m (parity_chip l j) h)

  high_chip : (m : ℕ) → parity_chip l j ≤ m → member_chip l j m ≡ m + 1
  unfolding member_chip
  high_chip m h = rw (le-ltb m (parity_chip l j) h)

  low_member : (c : ℕ) → c < parity_chip l j → member_on l j c ≡ c
  unfolding member_on
  low_member c h = rw (lt-ltb c (parity_chip l j) h)

  high_member : (c : ℕ) → parity_chip l j ≤ c → member_on l j c ≡ c - 1
  unfolding member_on
  high_member c h = rw (le-ltb c (parity_chip l j) h)

  pub member_chip_fits : (m : ℕ) → m < N → member_chip l j m < N + 1
  member_chip_fits m h = elim (dec_lt m (parity_chip l j)) [
    | yes b ↦ rw (low_chip m b) (omega arith)
    | no b ↦ rw (high_chip m (omega arith)) (omega arith)
  ]

  pub member_chip_other : (m : ℕ) → member_chip l j m ≢ parity_chip l j
  member_chip_other m = elim (dec_lt m (parity_chip l j)) [
    | yes b ↦ rw (low_chip m b) (omega arith)
    | no b ↦ rw (high_chip m (omega arith)) (omega arith)
  ]

  pub member_of_chip : (m : ℕ) → member_on l j (member_chip l j m) ≡ m
  member_of_chip m = elim (dec_lt m (parity_chip l j)) [
    | yes b ↦ rw (low_chip m b) (low_member m b)
    | no b ↦ rw (high_chip m (omega arith), high_member (m + 1) (omega arith)) (omega arith)
  ]

  pub chip_of_member : (c : ℕ) → c ≢ parity_chip l j → member_chip l j (member_on l j c) ≡ c
  chip_of_member c d = elim (dec_lt c (parity_chip l j)) [
    | yes b ↦ rw (low_member c b) (low_chip c b)
    | no b ↦ rw (high_member c (omega arith), high_chip (c - 1) (omega (arith, d))) (omega (arith, d))
  ]

  pub member_on_fits : (c : ℕ) → c < N + 1 → c ≢ parity_chip l j → member_on l j c < N
  member_on_fits c h d = elim (dec_lt c (parity_chip l j)) [
    | yes b ↦ rw (low_member c b) (omega (arith, parity_chip_fits))
    | no b ↦ rw (high_member c (omega arith)) (omega (arith, d))
  ]

  -- two members are on two chips, and two chips have two members
  pub other_member_chip : (m k : ℕ) → k ≢ m → member_chip l j k ≢ member_chip l j m
  other_member_chip m k d e = d (sym (member_of_chip k) ∙ ap (member_on l j) e ∙ member_of_chip m)

  pub other_chip_member : (c c' : ℕ) → c ≢ parity_chip l j → c' ≢ parity_chip l j → c' ≢ c → member_on l j c' ≢ member_on l j c
  other_chip_member c c' h h' d e = d (sym (chip_of_member c' h') ∙ ap (member_chip l j) e ∙ chip_of_member c h)

module _ (l : Layout) (w : Within l) where
  open l use {N, S}

  -- the stripe, the member and the chip of a logical page
  members : 0 < N
  members = omega (arith, w.members_low)

  pub stripe_fits : (i : ℕ) → i < N * S → stripe_of l i < S
  stripe_fits i page = (div-lt_iff_lt-mul members).1 (rw mul_comm at page)

  pub member_fits : (i : ℕ) → member_of l i < N
  member_fits i = mod-lt i members

  pub page_chip_fits : (i : ℕ) → member_chip l (stripe_of l i) (member_of l i) < N + 1
  page_chip_fits i = member_chip_fits l (stripe_of l i) (member_of l i) (member_fits i)
