-- What the record of a stripe says of its pages on one chip, and what the code makes of it.
use Prim.Native.Nat.{ℕ, ◌+◌, ◌-◌, ◌≤◌, ◌<◌}
use native.Mathlib.Omega.{arith}
use mathlib.Core.Path.{◌≡◌, refl, ap}
use mathlib.Core.Logic.{◌≢◌}
use mathlib.Core.Bool.{false, ◌&&◌, ◌||◌}
use lib.Dec.{eqb}
use borrow.Author.Tests.{lt-ltb, le-ltb, eq-eqb, ne_eqb}
use Rattle.layout.specs.Layout.{Layout, none}
use Rattle.layout.specs.Rotation.{parity_chip, member_on}
use Rattle.layout.specs.Page.{Page}
use Rattle.layout.specs.Record.{Record}
use Rattle.rules.specs.Names.{main_number, side_number, kind_on, member_byte, names}
use Rattle.codec.specs.declared.Spare.{Spare}
use Rattle.codec.specs.Scan.{number_of}
use Rattle.codec.specs.Views.{spare_of}
use Rattle.names.specs.declared.StripePages.{StripePages}
use Rattle.names.specs.Stamps.{pages_on, by_stamp}

module _ (l : Layout) (j : ℕ) (r : Record) where
  -- on the chip of the parity
  pub parity_pages : (c : ℕ) → c ≡ parity_chip l j → record { main = number_of r 12; side = none l; kind = 80; member = 0 } ≡ pages_on l c j r
  unfolding pages_on main_number side_number kind_on member_byte number_of
  parity_pages c e = rw (eq-eqb c (parity_chip l j) e)

  -- and on that of member m
  pub member_pages : (c m : ℕ) → c ≢ parity_chip l j → m ≡ member_on l j c → m < 6
      → record { main = number_of r m; side = number_of r (6 + m); kind = 68; member = m } ≡ pages_on l c j r
  unfolding pages_on main_number side_number kind_on member_byte number_of
  member_pages c m d e six =
      let old : 6 + m - 6 ≡ m = omega arith in
      rw (ne_eqb c (parity_chip l j) d, ← e, lt-ltb m 6 six, le-ltb (6 + m) 6 (omega arith), lt-ltb (6 + m) 12 (omega arith), old)

-- ---- the test of a stamp as the code makes it, of the spare bytes t of page p

module _ (l : Layout) (r : ℕ → Record) (x : ℕ → Page) (c p : ℕ) (t : Spare) (spare : spare_of (x p) ≡ t) where
  open l use {S}

  -- a stamp of no stripe
  pub stamp_beyond : S ≤ t.stripe → by_stamp l r x c p ≡ false
  unfolding by_stamp
  stamp_beyond h = rw (ap (λ (y : Spare). y.stripe) spare, le-ltb t.stripe S h)

  -- that of a stripe, with what its record says of the chip
  pub stamp_test : (e : StripePages) → t.stripe < S → e ≡ pages_on l c t.stripe (r t.stripe)
      → eqb t.kind e.kind && eqb t.member e.member && (eqb e.main p || eqb e.side p) ≡ by_stamp l r x c p
  unfolding by_stamp pages_on names
  stamp_test e h q = rw (
    q,
    ap (λ (y : Spare). y.stripe) spare,
    ap (λ (y : Spare). y.kind) spare,
    ap (λ (y : Spare). y.member) spare,
    lt-ltb t.stripe S h,
    eq-eqb t.stripe t.stripe refl,
  )
