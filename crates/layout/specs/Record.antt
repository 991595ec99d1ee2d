-- Document 01, "Records": the record of a stripe.
use Rattle.std.specs.Prelude.{ℕ, zero, suc, ◌+◌, ◌-◌, ◌*◌, ◌/◌, ◌%◌, ◌^◌, Bool, not, cond, List, [], ◌∷◌, ◌++◌, get_or, ltb, eqb}
use Rattle.octets.specs.Number.{number, digits}
use Rattle.octets.specs.Units.{part, unit}
use Rattle.layout.specs.Layout.{Layout, none, record_bytes}

-- "Record j is for stripe j: six current page numbers, six old ones, the parity page number, bitmap byte, slot byte, four of 0."
pub record Record : Type 0 where
  pub current : ℕ → ℕ
  pub old : ℕ → ℕ
  pub parity : ℕ
  pub bitmap : ℕ
  pub slot : ℕ
  -- the last bytes, as one number
  pub rest : ℕ

-- "bit m: member m is in the partial parity"
unfoldable pub bit : Record → ℕ → Bool
bit r m = eqb (r.bitmap / 2 ^ m % 2) 1

-- "slot byte (255 for none)"
abbrev pub no_slot : ℕ
no_slot = 255

-- the record has a slot
abbrev pub has_slot : Record → Bool
has_slot r = not (eqb r.slot no_slot)

-- of the records r, that of stripe j
abbrev pub slotted : (ℕ → Record) → ℕ → Bool
slotted r j = has_slot (r j)

-- it has slot i
abbrev pub slot_of : (ℕ → Record) → ℕ → ℕ → Bool
slot_of r i j = eqb (r j).slot i

-- the numbers f 0, f 1, .. below n, in d bytes each
unfoldable pub row : ℕ → (ℕ → ℕ) → ℕ → List ℕ
row d f zero = []
row d f (suc n) = row d f n ++ digits d (f n)

module _ (l : Layout) where
  open l use {S, D}

  -- the bytes after the slot: "four of 0"
  abbrev pub rest_bytes : ℕ
  rest_bytes = 3 * D - 2

  -- number m of the six that begin with number `from` of the record; beyond the six there is none
  unfoldable pub six_from : ℕ → List ℕ → ℕ → ℕ
  six_from from xs m = cond (ltb m 6) (number (part ((from + m) * D) D xs)) (none l)

  -- the record that 32 bytes hold
  unfoldable pub record_of : List ℕ → Record
  record_of xs =
      record {
        current = six_from 0 xs;
        old = six_from 6 xs;
        parity = number (part (12 * D) D xs);
        bitmap = get_or xs (13 * D) 0;
        slot = get_or xs (13 * D + 1) 0;
        rest = number (part (13 * D + 2) rest_bytes xs);
      }

  -- the bytes of a record that is stored
  unfoldable pub bytes_of_record : Record → List ℕ
  bytes_of_record r =
      row D r.current 6
      ++ (row D r.old 6 ++ (digits D r.parity ++ (r.bitmap ∷ r.slot ∷ digits rest_bytes r.rest)))

  -- "The empty record is twenty-six bytes of 255, a 0, a 255 and four of 0."
  unfoldable pub empty_record : Record
  empty_record =
      record { current = λ m. none l; old = λ m. none l; parity = none l; bitmap = 0; slot = no_slot; rest = 0 }

  -- the record of stripe j; beyond the S stripes, that of no bytes
  unfoldable pub record_at : List ℕ → ℕ → Record
  record_at records j = record_of (cond (ltb j S) (unit (record_bytes l) j records) [])
