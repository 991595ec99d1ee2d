-- How many page numbers a record has.
use Prim.Native.Nat.{ℕ, ◌+◌, ◌≤◌}
use native.Mathlib.Numerals.{add-one}
use native.Mathlib.Omega.{arith}
use mathlib.Core.Path.{◌≡◌}
use mathlib.Core.Bool.{Bool, not}
use mathlib.Core.List.{List}
use lib.ListN.{get_or}
use lib.Dec.{eqb}
use borrow.Author.Tests.{lt-ltb}
use Rattle.ranges.specs.Look.{count_below}
use Rattle.ranges.proofs.Counts.{count_start, count_cong, count_le}
use Rattle.layout.specs.declared.Geometry.{Geometry}
use Rattle.layout.specs.Layout.{layout_of, none}
use Rattle.codec.specs.declared.StripeRecord.{StripeRecord}
use Rattle.codec.specs.Views.{record_from, six_of}
use Rattle.names.specs.Stamps.{has_current, has_old, record_names}
use Rattle.ranges.proofs.Looks.{by_test}
use Rattle.ranges.proofs.Tallies.{ones, count_more}

-- number m of a list is a page
abbrev pub given : List ℕ → ℕ → Bool
given xs m = not (eqb (get_or xs m 0) 65535)

-- how many pages the members below m have
abbrev pub names_to : StripeRecord → ℕ → ℕ
names_to e m = count_below m (given e.current) + count_below m (given e.old)

-- none before the first
pub names_none : (e : StripeRecord) → 0 ≡ names_to e 0
names_none e = omega (arith, count_start (given e.current), count_start (given e.old))

-- with one member more
pub names_member : (e : StripeRecord) (m : ℕ) → names_to e (m + 1) ≡ names_to e m + ones (given e.current m) + ones (given e.old m)
names_member e m = rw add-one (omega (arith, count_more m (given e.current), count_more m (given e.old)))

-- at most two for each
pub names_most : (e : StripeRecord) (m : ℕ) → names_to e m ≤ m + m
names_most e m = omega (arith, count_le m (given e.current), count_le m (given e.old))

-- with the parity page, these are the names of the record
pub names_all : (g : Geometry) (e : StripeRecord)
    → names_to e 6 + ones (not (eqb e.parity 65535)) ≡ record_names (layout_of g) (record_from (layout_of g) e)
unfolding record_names record_from six_of none
names_all g e =
    let r = record_from (layout_of g) e in
    let currents = count_cong 6 (given e.current) (has_current (layout_of g) r) (λ m h. rw (lt-ltb m 6 h)) in
    let olds = count_cong 6 (given e.old) (has_old (layout_of g) r) (λ m h. rw (lt-ltb m 6 h)) in
    by_test (eqb e.parity 65535) (λ t. rw (currents, olds, t)) (λ t. rw (currents, olds, t))
