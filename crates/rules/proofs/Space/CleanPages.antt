-- In sound images at rest a chip has a place exactly where it has more than K clean pages.
use Prim.Native.Nat.{ℕ, zero, suc, ◌+◌, ◌*◌, ◌≤◌, ◌<◌}
use native.Mathlib.Nat.{add-zero, add-suc, zero-mul, suc-mul}
use native.Mathlib.Decide.{ℕ_discrete}
use native.Mathlib.Omega.{arith}
use mathlib.Core.Path.{◌≡◌, sym}
use mathlib.Core.Bool.{Bool, true, false}
use borrow.Author.Tests.{eq-eqb, ne_eqb, not-true}
use Rattle.std.specs.Prelude.{Some, None}
use Rattle.ranges.specs.Look.{count_below, sum_below}
use Rattle.ranges.proofs.Looks.{by_found, all_at}
use Rattle.ranges.proofs.Counts.{count_le, count_start, count_all, count_positive, count_zero}
use Rattle.ranges.proofs.Tallies.{count_more}
use Rattle.ranges.proofs.Sums.{sum_start, sum_more, sum_at, sum_beyond, but, sum_but}
use Rattle.layout.specs.Layout.{Layout, pages}
use Rattle.layout.specs.Page.{Page, clean}
use Rattle.layout.specs.Record.{Record}
use Rattle.layout.specs.Collection.{Collection}
use Rattle.layout.proofs.Limits.{Within}
use Rattle.rules.specs.Blocks.{clean_in, used_in, full_block}
use Rattle.rules.specs.Sound.{collecting}
use Rattle.rules.specs.Place.{place_of}
use Rattle.rules.proofs.Soundness.Statements.{ChipSound}
use Rattle.rules.proofs.Space.Places.{clean_at, all_full}
use Rattle.rules.proofs.Space.Room.{place_at}

-- a count over a stretch and the one behind it
count_plus : (a k : ℕ) (f : ℕ → Bool) → count_below (a + k) f ≡ count_below a f + count_below k (λ i. f (a + i))
count_plus a zero f = rw add-zero (omega (arith, count_start (λ i. f (a + i))))
count_plus a (suc k) f = rw add-suc (omega (arith, count_more (a + k) f, count_more k (λ i. f (a + i)), count_plus a k f))

module _ (l : Layout) (x : ℕ → Page) where
  open l use {K, B}

  abbrev clean_page : ℕ → Bool
  clean_page p = clean (x p)

  -- the clean pages of a chip
  abbrev pub clean_pages : ℕ
  clean_pages = count_below (pages l) clean_page

  -- those of block b
  abbrev in_block : ℕ → ℕ
  in_block b = count_below K (clean_in l x b)

  -- are summed up block by block
  by_blocks : (n : ℕ) → count_below (n * K) clean_page ≡ sum_below n in_block
  by_blocks zero = rw zero-mul (omega (arith, count_start clean_page, sum_start in_block))
  by_blocks (suc n) = rw suc-mul (omega (arith, count_plus (n * K) K clean_page, sum_more n in_block, by_blocks n))

module _ (l : Layout) (w : Within l) (r : ℕ → Record) (x : ℕ → Page) (c : ℕ) (co : Collection) (f : ChipSound l r x c co) (still : collecting co c ≡ false) where
  open l use {K, B}

  pub place_counted : (p : ℕ) → place_of l x ≡ Some p → K < clean_pages l x
  place_counted p e =
      let o = place_at l w r x c co f still p e in
      let b = o.block in
      let d = o.spare.block in
      let here = count_positive K (clean_in l x b) o.place o.fillable.place o.fillable.is_clean in
      let whole = count_all K (clean_in l x d) (λ i h. clean_at l x d i o.spare.is_clean h) in
      let rest = sum_at B (but d (in_block l x)) b o.fillable.block in
      let same : but d (in_block l x) b ≡ in_block l x b = rw (ne_eqb b d (λ q. o.spare.other (sym q))) in
      omega (arith, by_blocks l x B, sum_but B d (in_block l x) o.spare.fits)

  full_used : (d : ℕ) → full_block l x d ≡ true → (i : ℕ) → i < K → clean_in l x d i ≡ false
  unfolding full_block
  full_used d t i h = not-true (clean_in l x d i) (all_at K (used_in l x d) t i h)

  -- where there is no place, only the spare block has clean pages
  no_more : place_of l x ≡ None → clean_pages l x ≤ K
  no_more e =
      let (b, fits, t) = f.spare still in
      let none_else : (d : ℕ) → 0 ≤ d → d < B → but b (in_block l x) d ≡ 0 = λ d _ h. elim (ℕ_discrete d b) [
        | yes q ↦ rw (eq-eqb d b q)
        | no q ↦ rw (ne_eqb d b q) (count_zero K (clean_in l x d) (full_used d (all_full l x b d fits h q t e)))
      ] in
      omega (arith, by_blocks l x B, sum_but B b (in_block l x) fits, sum_beyond 0 B (but b (in_block l x)) (omega arith) none_else, sum_start (but b (in_block l x)), count_le K (clean_in l x b))

  pub counted_place : K < clean_pages l x → (p : ℕ) × (place_of l x ≡ Some p)
  counted_place more = by_found (place_of l x) (λ p e. (p, e)) (λ e. absurd (omega (arith, no_more e)))
