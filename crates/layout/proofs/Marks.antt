-- A table of the slots that records have, as a pass over them fills it.
use Prim.Native.Nat.{ℕ, ◌+◌, ◌<◌}
use native.Mathlib.Numerals.{add-one}
use native.Mathlib.Omega.{arith}
use mathlib.Core.Path.{◌≡◌, refl, sym}
use mathlib.Core.Bool.{Bool, true, false, or-true, or-false}
use mathlib.Core.List.{List}
use lib.ListN.{length, get_or, set, replicate, length-set, get_or-replicate}
use lib.Seq.{get_or-set_same, get_or-set_other}
use borrow.Author.Tests.{eq-eqb, ne_eqb}
use Rattle.ranges.specs.Look.{some_below}
use Rattle.ranges.proofs.Looks.{by_same}
use Rattle.layout.specs.Record.{Record, no_slot, slot_of}

-- the table says of every slot whether some record below j has it
pub record Marks (r : ℕ → Record) (j : ℕ) (table : List Bool) : Type 0 where
  pub long : length table ≡ 256
  pub told : (i : ℕ) → i < no_slot → get_or table i false ≡ some_below j (slot_of r i)

-- before the first record no slot is marked
pub marks_none : {r : ℕ → Record} → Marks r 0 (replicate 256 false)
unfolding some_below
marks_none = record { long = refl; told = λ i h. get_or-replicate 256 i false false (omega arith) }

module _ {r : ℕ → Record} {j : ℕ} {table : List Bool} (m : Marks r j table) where
  -- the slot of record j is marked
  pub marks_more : {slot : ℕ} → slot ≡ (r j).slot → Marks r (j + 1) (set table slot true)
  unfolding some_below
  marks_more {slot} s = record {
    long = rw length-set m.long;
    told = λ i h. by_same i slot
        (λ q. rw (add-one, q, get_or-set_same table slot true false (omega (arith, m.long)), eq-eqb (r j).slot slot (sym s), or-true))
        (λ d. rw (add-one, get_or-set_other table slot i true false d, ← s, ne_eqb slot i (λ q. d (sym q)), or-false) (m.told i h));
  }

  -- record j has none
  pub marks_skip : (r j).slot ≡ no_slot → Marks r (j + 1) table
  unfolding some_below
  marks_skip s = record {
    long = m.long;
    told = λ i h. rw (add-one, s, ne_eqb no_slot i (omega arith), or-false) (m.told i h);
  }
