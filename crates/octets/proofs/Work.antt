-- A work page of zeros of which the front is lent.
use Prim.Native.Nat.{ℕ, ◌-◌, ◌≤◌}
use native.Mathlib.Nat.{sub-zero}
use native.Mathlib.Omega.{arith}
use mathlib.Core.Path.{◌≡◌, ap, ◌∙◌}
use mathlib.Core.List.{List, ◌++◌}
use lib.ListN.{length, take, drop, replicate, length-append, length-replicate}
use lib.Seq.{take_at}
use Rattle.octets.specs.Units.{part}
use Rattle.octets.proofs.Units.{part_replicate}

-- its first bytes are zeros
pub front_zeros : (w n : ℕ) → w ≤ n → take {A = ℕ} (w - 0) (replicate n 0) ≡ replicate w 0
unfolding part
front_zeros w n h = rw sub-zero (part_replicate 0 w n 0 (omega arith))

pub front_long : (w n : ℕ) → w ≤ n → length (take {A = ℕ} (w - 0) (replicate n 0)) ≡ w
front_long w n h = ap length (front_zeros w n h) ∙ length-replicate w 0

-- where ys comes back as its first w bytes, they are ys
pub front_back : (w n : ℕ) → w ≤ n → {ys xs : List ℕ} → length ys ≡ length (take {A = ℕ} (w - 0) (replicate n 0))
    → xs ≡ ys ++ drop (w - 0) (replicate n 0) → (w ≤ length xs) × (take (w - 0) xs ≡ ys)
front_back w n h {ys} same e =
    let long : length ys ≡ w = same ∙ front_long w n h in
    rw (e, sub-zero) (rw length-append (omega arith), take_at ys (drop w (replicate n 0)) w long)
