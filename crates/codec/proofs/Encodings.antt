-- A record in the bytes of the image: its six current and six old numbers, and the fields behind them.
use Prim.Native.Nat.{ℕ, zero, suc, ◌+◌, ◌*◌, ◌≤◌, ◌<◌}
use native.Mathlib.Nat.{add-zero, mod-eq_of_lt}
use native.Mathlib.Decide.{dec_lt}
use native.Mathlib.Omega.{arith}
use mathlib.Core.Path.{◌≡◌, refl, sym, ◌∙◌, fun_ext}
use mathlib.Core.List.{List, [], ◌∷◌}
use lib.ListN.{length, get_or, set, take, drop}
use lib.Seq.{drop-drop, get_or-set_same, get_or-set_other}
use borrow.Author.Tests.{lt-ltb, le-ltb}
use Rattle.octets.specs.Number.{number, digits}
use Rattle.octets.specs.Units.{part, unit}
use Rattle.ranges.specs.Update.{at}
use Rattle.ranges.proofs.Looks.{by_same}
use Rattle.octets.proofs.Units.{part_unit, get_or_unit}
use Rattle.ranges.proofs.Updates.{at_unique}
use Rattle.layout.specs.declared.Geometry.{Geometry}
use Rattle.layout.specs.Layout.{Layout, layout_of}
use Rattle.layout.specs.Record.{Record, row, six_from, record_of, bytes_of_record, record_at}
use Rattle.layout.specs.Collection.{bytes_of_collection}
use Rattle.codec.specs.declared.StripeRecord.{StripeRecord}
use Rattle.codec.specs.declared.CollectionRecord.{CollectionRecord}
use Rattle.codec.specs.declared.Spare.{Spare}
use Rattle.codec.specs.Views.{six_of, record_from, ended, collection_from, spare_from, six_at, SmallRecord, SmallSpare}
use Rattle.codec.proofs.Fills.{laid, joined, laid_whole}

-- ---- six numbers

-- what holds of each of six numbers in its place, and of 0 beyond them
six_each : (P : ℕ → ℕ → Type 0) (a b c d e f : ℕ) → P 0 a → P 1 b → P 2 c → P 3 d → P 4 e → P 5 f → ((m : ℕ) → 6 ≤ m → P m 0)
    → (m : ℕ) → P m (get_or (a ∷ b ∷ c ∷ d ∷ e ∷ f ∷ []) m 0)
six_each P a b c d e f p q r s t u z zero = p
six_each P a b c d e f p q r s t u z (suc zero) = q
six_each P a b c d e f p q r s t u z (suc (suc zero)) = r
six_each P a b c d e f p q r s t u z (suc (suc (suc zero))) = s
six_each P a b c d e f p q r s t u z (suc (suc (suc (suc zero)))) = t
six_each P a b c d e f p q r s t u z (suc (suc (suc (suc (suc zero))))) = u
six_each P a b c d e f p q r s t u z (suc (suc (suc (suc (suc (suc m)))))) = z (suc (suc (suc (suc (suc (suc m)))))) (omega arith)

-- all below n
pub six_below : (n : ℕ) {a b c d e f : ℕ} → a < n → b < n → c < n → d < n → e < n → f < n
    → (m : ℕ) → get_or (a ∷ b ∷ c ∷ d ∷ e ∷ f ∷ []) m 0 < n
six_below n {a} {b} {c} {d} {e} {f} p q r s t u = six_each (λ m x. x < n) a b c d e f p q r s t u (λ m h. omega arith)

-- each that of g
pub six_is : (g : ℕ → ℕ) {a b c d e f : ℕ} → a ≡ g 0 → b ≡ g 1 → c ≡ g 2 → d ≡ g 3 → e ≡ g 4 → f ≡ g 5
    → (m : ℕ) → m < 6 → get_or (a ∷ b ∷ c ∷ d ∷ e ∷ f ∷ []) m 0 ≡ g m
six_is g {a} {b} {c} {d} {e} {f} p q r s t u =
    six_each (λ m x. m < 6 → x ≡ g m) a b c d e f (λ h. p) (λ h. q) (λ h. r) (λ h. s) (λ h. t) (λ h. u) (λ m high h. omega arith)

-- number m of the six at offset a
pub six_number : (a : ℕ) (xs : List ℕ) (m : ℕ) → m < 6 → get_or (six_at a xs) m 0 ≡ number (part (a + 2 * m) 2 xs)
six_number a xs = six_is (λ m. number (part (a + 2 * m) 2 xs)) (rw add-zero) refl refl refl refl refl

-- the six of record j that begin with its number `from`
six_of_record : (g : Geometry) (j from : ℕ) (xs : List ℕ) → from ≤ 6
    → six_of (layout_of g) (six_at (j * 32 + from * 2) xs) ≡ six_from (layout_of g) from (unit 32 j xs)
unfolding six_of six_from
six_of_record g j from xs h = fun_ext λ m. elim (dec_lt m 6) [
  | yes b ↦
      let e : j * 32 + from * 2 + 2 * m ≡ j * 32 + (from + m) * 2 = omega arith in
      rw (lt-ltb m 6 b, six_number (j * 32 + from * 2) xs m b, part_unit 32 j ((from + m) * 2) 2 xs (omega arith), e)
  | no b ↦ rw (le-ltb m 6 (omega arith))
]

-- ---- a record

-- the number of four bytes is that of the first two and that of the last two
number_halves : (xs : List ℕ) → number (take 4 xs) ≡ number (take 2 xs) + 65536 * number (take 2 (drop 2 xs))
unfolding number
number_halves [] = refl
number_halves (x ∷ []) = omega arith
number_halves (x ∷ y ∷ xs) = omega arith

pub number_four : (a : ℕ) (xs : List ℕ) → number (part a 4 xs) ≡ number (part a 2 xs) + 65536 * number (part (a + 2) 2 xs)
unfolding part
number_four a xs = rw (number_halves (drop a xs), drop-drop)

-- the record at offset a, as the code reads it
abbrev pub record_in : List ℕ → ℕ → StripeRecord
record_in xs a =
    record {
      current = six_at a xs;
      old = six_at (a + 12) xs;
      parity = number (part (a + 24) 2 xs);
      bitmap = get_or xs (a + 26) 0;
      slot = get_or xs (a + 27) 0;
    }

-- the bytes at the offset of record j hold it
pub record_in_lem : (g : Geometry) (xs : List ℕ) (j : ℕ) → j < g.s → record_from (layout_of g) (record_in xs (j * 32)) ≡ ended (record_at (layout_of g) xs j)
unfolding record_from ended record_at record_of
record_in_lem g xs j h =
    let current = six_of_record g j 0 xs (omega arith) in
    let old = six_of_record g j 6 xs (omega arith) in
    let parity = part_unit 32 j 24 2 xs (omega arith) in
    let bitmap = get_or_unit 32 j 26 0 xs (omega arith) in
    let slot = get_or_unit 32 j 27 0 xs (omega arith) in
    rw (lt-ltb j g.s h, ← current, ← old, parity, bitmap, slot, add-zero)

-- so do the four behind them
pub rest_in : (g : Geometry) (xs : List ℕ) (j : ℕ) → j < g.s → (record_at (layout_of g) xs j).rest ≡ number (part (j * 32 + 28) 4 xs)
unfolding record_at record_of
rest_in g xs j h = rw (lt-ltb j g.s h, part_unit 32 j 28 4 xs (omega arith))

-- a record that ends in zeros
pub ended_same : {r : Record} → r.rest ≡ 0 → ended r ≡ r
unfolding ended
ended_same {r} e = λ i. record {
  current = r.current;
  old = r.old;
  parity = r.parity;
  bitmap = r.bitmap;
  slot = r.slot;
  rest = sym e i;
}

-- number m of six
pub six_in : (l : Layout) (xs : List ℕ) (m : ℕ) → m < 6 → six_of l xs m ≡ get_or xs m 0
unfolding six_of
six_in l xs m h = rw (lt-ltb m 6 h)

-- six numbers with one replaced
pub six_set : (l : Layout) (xs : List ℕ) (m v : ℕ) → length xs ≡ 6 → m < 6 → six_of l (set xs m v) ≡ at m v (six_of l xs)
unfolding six_of
six_set l xs m v e h =
    at_unique m v (six_of l xs) (six_of l (set xs m v))
    (rw (lt-ltb m 6 h, get_or-set_same xs m v 0 (omega arith)))
    (λ k d. rw (get_or-set_other xs m k v 0 d))

-- small numbers with one replaced stay small
pub set_small : (xs : List ℕ) (m v : ℕ) → m < length xs → ((k : ℕ) → get_or xs k 0 < 65536) → v < 65536 → (k : ℕ) → get_or (set xs m v) k 0 < 65536
set_small xs m v inside small h k =
    by_same k m (λ e. rw (e, get_or-set_same xs m v 0 inside) h) (λ d. rw (get_or-set_other xs m k v 0 d) (small k))

-- ---- parts put one behind the other

-- those of a spare
pub spare_laid : (t : Spare) (d : List ℕ) → length d ≡ 8 → SmallSpare t
    → laid 0 (digits 1 t.kind ∷ digits 1 t.member ∷ digits 2 t.stripe ∷ digits 2 t.copied ∷ digits 2 65535 ∷ []) d ≡ spare_from t
unfolding joined digits
spare_laid t d long s =
    laid_whole (digits 1 t.kind ∷ digits 1 t.member ∷ digits 2 t.stripe ∷ digits 2 t.copied ∷ digits 2 65535 ∷ []) d long
    ∙ (rw (mod-eq_of_lt s.kind, mod-eq_of_lt s.member))

-- those of a collection record
pub collection_laid : (g : Geometry) (co : CollectionRecord) (d : List ℕ) → length d ≡ 32 → co.phase < 256 → co.chip < 256
    → laid 0 (digits 1 co.phase ∷ digits 1 co.chip ∷ digits 2 co.victim ∷ digits 2 co.destination ∷ digits 26 0 ∷ []) d
    ≡ bytes_of_collection (layout_of g) (collection_from co)
unfolding bytes_of_collection joined digits
collection_laid g co d long phase chip =
    laid_whole (digits 1 co.phase ∷ digits 1 co.chip ∷ digits 2 co.victim ∷ digits 2 co.destination ∷ digits 26 0 ∷ []) d long
    ∙ (rw (mod-eq_of_lt phase, mod-eq_of_lt chip))

-- those of a record
pub record_laid : (g : Geometry) (e : StripeRecord) (d : List ℕ) → length d ≡ 32 → SmallRecord e
    → laid 0
    (row 2 (λ (m : ℕ). get_or e.current m 0) 6 ∷ row 2 (λ (m : ℕ). get_or e.old m 0) 6 ∷ digits 2 e.parity ∷ digits 1 e.bitmap ∷ digits 1 e.slot
    ∷ digits 4 0 ∷ []) d
    ≡ bytes_of_record (layout_of g) (record_from (layout_of g) e)
unfolding bytes_of_record record_from six_of row joined digits
record_laid g e d long s =
    laid_whole
    (row 2 (λ (m : ℕ). get_or e.current m 0) 6 ∷ row 2 (λ (m : ℕ). get_or e.old m 0) 6 ∷ digits 2 e.parity ∷ digits 1 e.bitmap ∷ digits 1 e.slot
    ∷ digits 4 0 ∷ []) d long
    ∙ (rw (mod-eq_of_lt s.bitmap, mod-eq_of_lt s.slot))
