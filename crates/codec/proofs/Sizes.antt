-- The tests of a geometry in the order of the code, and bounds of the products that the code forms.
use Prim.Native.Nat.{◌+◌, ◌-◌, ◌*◌, ◌%◌, ◌^◌, ◌≤◌, ◌<◌}
use native.Mathlib.Nat.{mul-le-mul, one-mul, mod-eq_of_lt, pow-le-pow_right}
use native.Mathlib.Omega.{arith}
use mathlib.Core.Path.{◌≡◌}
use mathlib.Core.Bool.{Bool, true, false}
use mathlib.Core.List.{List, [], ◌∷◌}
use lib.Dec.{leb, eqb}
use borrow.Author.Tests.{leb-true}
use Rattle.ranges.proofs.Tests.{chain, chain_all}
use Rattle.layout.specs.declared.Geometry.{Geometry}
use Rattle.layout.specs.Layout.{layout_of, limits, none}
use Rattle.layout.proofs.Limits.{within}

module _ (g : Geometry) where
  -- those after the first of the tests that form no product
  abbrev size_tests : List Bool
  size_tests =
      leb g.n 6 ∷ leb 16 g.w ∷ leb g.w 4096 ∷ eqb (g.w % 16) 0 ∷ leb 2 g.k ∷ leb g.k 128 ∷ leb 2 g.b
      ∷ leb g.b 1024 ∷ []

  -- the tests that form no product
  abbrev pub sizes : Bool
  sizes = chain (leb 2 g.n) size_tests

  -- those after the first of the tests that then follow
  abbrev count_tests : List Bool
  count_tests = leb 1 g.s ∷ leb g.s 65535 ∷ leb 1 g.m ∷ leb g.m 254 ∷ []

  -- the tests that then follow
  abbrev pub counts : Bool
  counts = chain (leb (g.b * g.k) 65535) count_tests

  -- where the first tests fail, so do the limits
  pub sizes_fail : sizes ≡ false → false ≡ limits (layout_of g)
  unfolding limits none
  sizes_fail e = rw e

  -- where the others fail too
  pub counts_fail : sizes ≡ true → counts ≡ false → false ≡ limits (layout_of g)
  unfolding limits none
  counts_fail e f = rw (e, f)

  -- where both pass, the limits are what is left
  pub counts_pass : sizes ≡ true → counts ≡ true → leb (g.s + g.m + 1) ((g.b - 1) * g.k) ≡ limits (layout_of g)
  unfolding limits none
  counts_pass e f = rw (e, f)

  -- bounds of the products
  pub record Small : Type 0 where
    pub blocks : 2 ≤ g.b
    pub pages : g.b * g.k ≤ 131072
    pub others : (g.b - 1) * g.k ≤ 130944

  -- the first tests give them
  pub small : sizes ≡ true → Small
  small e =
      let h = chain_all (leb 2 g.n) size_tests e in
      let places : g.k ≤ 128 = omega (arith, leb-true) in
      let blocks : g.b ≤ 1024 = omega (arith, leb-true) in
      let others : g.b - 1 ≤ 1023 = omega arith in
      record { blocks = omega (arith, leb-true); pages = mul-le-mul blocks places; others = mul-le-mul others places }

  -- the others bound the sum
  pub few : counts ≡ true → g.s + g.m ≤ 65789
  few e = let h = chain_all (leb (g.b * g.k) 65535) count_tests e in omega (arith, leb-true)

  -- bounds of the lengths, and of what leads to them
  pub record Bounded : Type 0 where
    pub members : g.n ≤ 6
    pub bytes : g.w ≤ 4096
    pub stripes : g.s ≤ 65535
    pub partials : g.m ≤ 254
    pub pages : g.b * g.k ≤ 65535
    pub all_pages : (g.n + 1) * (g.b * g.k) ≤ 458745
    pub chips : (g.n + 1) * (g.b * g.k) * (g.w + 8) ≤ 1882689480
    pub slots : (g.m + 1) * g.w ≤ 1044480
    -- 1 << N
    pub bitmaps : 1 * 2 ^ g.n % 18446744073709551616 ≡ 2 ^ g.n

  -- the limits give them
  pub bounded : limits (layout_of g) ≡ true → Bounded
  unfolding none
  bounded e =
      let w = within (layout_of g) e in
      let members : g.n + 1 ≤ 7 = omega arith in
      let bytes : g.w + 8 ≤ 4104 = omega arith in
      let partials : g.m + 1 ≤ 255 = omega arith in
      let pages : (g.n + 1) * (g.b * g.k) ≤ 458745 = mul-le-mul members w.pages_numbered in
      let two : 0 < 2 = omega arith in
      record {
        members = w.members_high;
        bytes = w.bytes_high;
        stripes = w.stripes_high;
        partials = w.partials_high;
        pages = w.pages_numbered;
        all_pages = pages;
        chips = mul-le-mul pages bytes;
        slots = mul-le-mul partials w.bytes_high;
        bitmaps = rw one-mul (mod-eq_of_lt (omega (arith, pow-le-pow_right two w.members_high)));
      }
