-- What the fields of a record tell: its bits, its slot, and its six members.
use Prim.Native.Nat.{ℕ, ◌≤◌}
use mathlib.Core.Path.{◌≡◌, refl, ap}
use mathlib.Core.Bool.{false, not}
use mathlib.Core.List.{List}
use lib.Dec.{eqb}
use borrow.Author.Tests.{le-ltb}
use Rattle.layout.specs.Layout.{Layout, none}
use Rattle.layout.specs.Record.{Record, bit, no_slot, has_slot, six_from, record_of, record_at}
use Rattle.layout.proofs.Bits.{bit_test, test_zero}

-- a bitmap of 0 has no bit
pub bits_of_none : (r : Record) → r.bitmap ≡ 0 → (m : ℕ) → bit r m ≡ false
bits_of_none r e m = rw (bit_test r m, e) (test_zero m)

-- the bits are those of the bitmap, and the slot tells whether there is one
pub same_bit : (r r' : Record) → r'.bitmap ≡ r.bitmap → (m : ℕ) → bit r' m ≡ bit r m
unfolding bit
same_bit r r' e m = rw e

pub same_slotted : (r r' : Record) → r'.slot ≡ r.slot → has_slot r' ≡ has_slot r
same_slotted r r' e = ap (λ (i : ℕ). not (eqb i no_slot)) e

module _ (l : Layout) where
  -- a record has no numbers beyond the six members
  abbrev pub SixMembers : Record → Type 0
  SixMembers r = (m : ℕ) → 6 ≤ m → (r.current m ≡ none l) × (r.old m ≡ none l)

  -- so it is with one that is decoded
  pub six_members : (records : List ℕ) (j : ℕ) → SixMembers (record_at l records j)
  unfolding record_at record_of six_from
  six_members records j m h = rw (le-ltb m 6 h) (refl, refl)
