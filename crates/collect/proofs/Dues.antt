-- Whether a page is due, as the code tests it.
use Prim.Native.Nat.{ℕ, ◌+◌, ◌*◌, ◌≤◌, ◌<◌}
use native.Mathlib.Omega.{arith}
use mathlib.Core.Path.{◌≡◌, refl}
use mathlib.Core.Bool.{true, false, and-true, and-false}
use lib.Dec.{leb, ltb}
use borrow.Author.Tests.{ltb-true, leb-true, lt-ltb, le-leb}
use Rattle.std.specs.Prelude.{Some, None}
use Rattle.octets.proofs.Units.{apart}
use Rattle.ranges.proofs.Looks.{by_test}
use Rattle.ranges.proofs.Tests.{and_both}
use Rattle.layout.specs.declared.Geometry.{Geometry}
use Rattle.layout.specs.Layout.{Layout, layout_of, limits, none, pages, page_in, in_block}
use Rattle.layout.specs.Page.{Page}
use Rattle.layout.specs.Record.{Record}
use Rattle.layout.specs.Collection.{Collection}
use Rattle.layout.proofs.Limits.{within}
use Rattle.rules.specs.Names.{named}
use Rattle.rules.specs.Open.{due}
use Rattle.spares.specs.Phases.{twin_place}
use Rattle.spares.proofs.Twins.{twin_there, twin_nowhere}

-- a page number is small
pub pages_small : (g : Geometry) → limits (layout_of g) ≡ true → pages (layout_of g) ≤ 65535
unfolding none
pages_small g limited = (within (layout_of g) limited).pages_numbered

-- and so is where a block ends
pub block_small : (g : Geometry) → limits (layout_of g) ≡ true → {b : ℕ} → b < g.b → b * g.k + g.k < 65536
block_small g limited {b} low = omega (arith, apart g.k b g.b low, pages_small g limited)

-- with the spare of page q: c is the collection's chip, and v its victim
module _ (l : Layout) (co : Collection) (x : ℕ → Page) (r : ℕ → Record) (q : ℕ) {c v : ℕ} (chip : c ≡ co.chip) (victim : v ≡ co.victim) where
  open l use {K}

  -- page q is not due where it is the twin of no place of the victim
  pub not_due : twin_place l r x c v q ≡ None → false ≡ due l co x r q
  unfolding due
  not_due e = by_test (in_block l v (x q).copied)
      (λ t.
      let (low, high) = and_both (leb (v * K) (x q).copied) (ltb (x q).copied (v * K + K)) t in
      rw (← chip, twin_nowhere l r x c v q e (leb-true (v * K) (x q).copied low) (ltb-true (x q).copied (v * K + K) high), and-false) refl)
      (λ f. rw (← victim, f) refl)

  -- else where that place is named
  pub due_where_named : (m : ℕ) → twin_place l r x c v q ≡ Some m → named l r c (page_in l v m) ≡ due l co x r q
  unfolding due
  due_where_named m e =
      let (low, from, is) = twin_there l r x c v q m e in
      rw (← chip, ← victim, from, is, le-leb (v * K) (page_in l v m) (omega arith), lt-ltb (page_in l v m) (v * K + K) (omega (arith, low)), and-true) refl
