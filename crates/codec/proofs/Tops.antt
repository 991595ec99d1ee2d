-- The tops: pages for each of the n members, and 0 behind them.
use Prim.Native.Nat.{ℕ, ◌-◌, ◌≤◌, ◌<◌}
use native.Mathlib.Omega.{arith}
use mathlib.Core.Path.{◌≡◌}
use mathlib.Core.Bool.{cond}
use mathlib.Core.List.{List, ◌++◌}
use lib.Dec.{ltb}
use lib.ListN.{length, get_or, take, drop, replicate, get_or-replicate, get_or-append, length-append, length-replicate}
use lib.Seq.{length-take-le, get_or-append_right}
use borrow.Author.Tests.{lt-ltb, le-ltb}
use Rattle.std.proofs.lemmas.List.{drop-replicate}
use Rattle.ranges.proofs.Looks.{by_order}
use Rattle.codec.specs.Scan.{Ranges}

-- a number of k, of which the first n are v and the others 0
split_at : (k n v m : ℕ) → n ≤ k → m < k → get_or (replicate n v ++ replicate (k - n) 0) m 0 ≡ cond (ltb m n) v 0
split_at k n v m h low =
    let long : length (replicate n v) ≡ n = length-replicate n v in
    by_order m n
    (λ b. rw (lt-ltb m n b, get_or-append (replicate n v) (replicate (k - n) 0) 0 m (omega arith)) (get_or-replicate n m v 0 b))
    (λ b.
    rw (le-ltb m n b, get_or-append_right (replicate n v) (replicate (k - n) 0) m 0 (omega arith), long)
    (get_or-replicate (k - n) (m - n) 0 0 (omega arith)))

-- so the tops are where the first n of eight zeros are filled
pub tops_filled : {n pages : ℕ} {xs : List ℕ} → n ≤ 8 → xs ≡ replicate (length (take n (replicate {A = ℕ} 8 0))) pages
    → Ranges n pages (xs ++ drop n (replicate 8 0))
tops_filled {n} {pages} {xs} h e =
    let first : xs ≡ replicate n pages = rw (length-take-le n (replicate {A = ℕ} 8 0) h) at e in
    rw (first, drop-replicate {X = ℕ} n 8 0) (record {
      long = simp (length-append, length-replicate) (omega arith);
      is = λ m low. split_at 8 n pages m h low;
    })
