-- Document 02, 2, "How was this page got": "one of four things". A fetch tells it (`Fetch`, `Read`).
use Rattle.std.specs.Prelude.{ℕ, zero, suc, Bool, cond, leb, eqb}
use Rattle.rules.specs.declared.Origin.{Origin}
use Rattle.rules.specs.declared.Origin.TheVariants.{Unwritten, Direct, Partial, Full}

-- "never written, read directly, rebuilt through the partial parity, rebuilt through the full parity": by whether the page was written,
-- whether its chip is the lost one, and whether it is in the partial parity
abbrev pub origin_by : Bool → Bool → Bool → Origin
origin_by written lost inside = cond written (cond lost (cond inside Partial Full) Direct) Unwritten

-- "0, 1, 2 or 3 in that order"
abbrev pub origin_number : Origin → ℕ
origin_number Unwritten = 0
origin_number Direct = 1
origin_number Partial = 2
origin_number Full = 3

-- and back
abbrev pub origin_numbered : ℕ → Origin
origin_numbered n = cond (eqb n 0) Unwritten (cond (eqb n 1) Direct (cond (eqb n 2) Partial Full))

-- of two, the one of the greater number
abbrev pub greater : Origin → Origin → Origin
greater a b = cond (leb (origin_number a) (origin_number b)) b a

-- "the last in that order among" f 0, f 1, .. below n
unfoldable pub greatest_origin : ℕ → (ℕ → Origin) → Origin
greatest_origin zero f = Unwritten
greatest_origin (suc n) f = greater (greatest_origin n f) (f n)
