-- Parts of an image that are filled: a number byte by byte, numbers one behind the other, units that are all alike.
use Prim.Native.Nat.{ℕ, zero, suc, ◌+◌, ◌*◌, ◌/◌, ◌%◌, ◌^◌, ◌≤◌, ◌<◌}
use native.Mathlib.Nat.{div-one, div-div-eq-div-mul, pow-suc, pow-succ', suc-mul, zero-mul, le_of_suc-le-suc, not-suc-le-zero}
use native.Mathlib.Numerals.{add-one}
use native.Mathlib.Omega.{arith}
use mathlib.Core.Path.{◌≡◌, refl, ap, ◌∙◌}
use mathlib.Core.List.{List, [], ◌∷◌, ◌++◌, append_assoc, append-nil}
use lib.ListN.{length, take, drop, get_or, set, replicate, take-append-drop, length-append, length-replicate, replicate-append-replicate, drop_of_length-le}
use lib.Seq.{take_at, drop_at, drop-drop, length-take-le}
use Rattle.octets.specs.Number.{digits}
use Rattle.octets.specs.Units.{put, unit_put}
use Rattle.octets.proofs.Lists.{Stored, stored_none, stored_more}
use Rattle.octets.proofs.Numbers.{length_digits}
use Rattle.octets.proofs.Units.{length_put}
use Rattle.layout.specs.Record.{row}
use Rattle.layout.proofs.Codec.{length_row}
use Rattle.codec.specs.Firsts.{first_units}

-- ---- a number, byte by byte

get_or_digits : (k x i : ℕ) → i < k → get_or (digits k x) i 0 ≡ x / 256 ^ i % 256
unfolding digits
get_or_digits zero x i h = absurd (not-suc-le-zero h)
get_or_digits (suc k) x zero h = rw div-one
get_or_digits (suc k) x (suc i) h =
    rw (get_or_digits k (x / 256) i (le_of_suc-le-suc h), div-div-eq-div-mul x 256 (256 ^ i), pow-succ' 256 i)

-- of the number x, i bytes are stored in d, and this is left of it
pub record Digits (x : ℕ) (d : List ℕ) (i rest : ℕ) (ys : List ℕ) : Type 0 where
  pub stored : Stored (digits (length d) x) d i ys
  pub left : rest ≡ x / 256 ^ i

pub digits_none : (x : ℕ) (d : List ℕ) → Digits x d 0 x d
digits_none x d = record { stored = stored_none (length_digits (length d) x); left = rw div-one }

pub digits_more : {x : ℕ} {d : List ℕ} {i rest : ℕ} {ys : List ℕ} → Digits x d i rest ys → i < length d
    → Digits x d (i + 1) (rest / 256) (set ys i (rest % 256))
digits_more {x} {d} {i} h low = record {
  stored = stored_more h.stored low (rw (h.left, get_or_digits (length d) x i low));
  left = rw (h.left, div-div-eq-div-mul x (256 ^ i) 256, add-one, pow-suc 256 i);
}

-- ---- numbers, one behind the other

-- what is put right behind another part is put with it
pub put_next : (a j k : ℕ) (ys zs d : List ℕ) → a ≤ length d → length ys ≡ j → put (a + j) k zs (put a j ys d) ≡ put a (j + k) (ys ++ zs) d
unfolding put
put_next a j k ys zs d h e =
    let p = take a d ++ ys in
    let q = drop j (drop a d) in
    let long : length p ≡ a + j = rw (length-append, length-take-le a d h, e) in
    rw (
      ← append_assoc (take a d) ys q,
      take_at p q (a + j) long,
      drop_at p q (a + j) long,
      drop-drop k j (drop a d),
      append_assoc (take a d) ys (zs ++ drop (j + k) (drop a d)),
      append_assoc ys zs (drop (j + k) (drop a d)),
    )

-- parts put one behind the other, from offset a on
unfoldable pub laid : ℕ → List (List ℕ) → List ℕ → List ℕ
laid a [] d = d
laid a (ys ∷ rest) d = laid (a + length ys) rest (put a (length ys) ys d)

unfoldable pub joined : List (List ℕ) → List ℕ
joined [] = []
joined (ys ∷ rest) = ys ++ joined rest

-- they are put in one piece
laid_joined : (a : ℕ) (parts : List (List ℕ)) (d : List ℕ) → a + length (joined parts) ≤ length d
    → laid a parts d ≡ put a (length (joined parts)) (joined parts) d
unfolding laid joined put
laid_joined a [] d h = rw take-append-drop
laid_joined a (ys ∷ rest) d h =
    let long = length-append ys (joined rest) in
    let fits : a + length ys + length (joined rest) ≤ length (put a (length ys) ys d) = rw (length_put a (length ys) ys d (omega arith) refl) (omega arith) in
    laid_joined (a + length ys) rest (put a (length ys) ys d) fits
    ∙ put_next a (length ys) (length (joined rest)) ys (joined rest) d (omega arith) refl
    ∙ (rw long)

-- and where they are as long as the whole, they are all of it
pub laid_whole : (parts : List (List ℕ)) (d : List ℕ) → length d ≡ length (joined parts) → laid 0 parts d ≡ joined parts
unfolding put
laid_whole parts d e =
    let rest : length d ≤ length (joined parts) = omega arith in
    laid_joined 0 parts d (omega arith) ∙ (rw (drop_of_length-le d rest, append-nil))

-- from offset a of d on stand the first m of the numbers f, of k bytes each
pub record Numbers (a k : ℕ) (f : ℕ → ℕ) (d : List ℕ) (m : ℕ) (ys : List ℕ) : Type 0 where
  pub same : length ys ≡ length d
  pub so_far : ys ≡ put a (m * k) (row k f m) d

pub numbers_none : (a k : ℕ) (f : ℕ → ℕ) (d : List ℕ) → Numbers a k f d 0 d
unfolding row put
numbers_none a k f d = record { same = refl; so_far = rw (zero-mul, take-append-drop) }

pub numbers_more : {a k : ℕ} {f : ℕ → ℕ} {d : List ℕ} {m : ℕ} {ys zs : List ℕ} → Numbers a k f d m ys → a + m * k + k ≤ length d
    → zs ≡ put (a + m * k) k (digits k (f m)) ys → Numbers a k f d (m + 1) zs
unfolding row
numbers_more {a} {k} {f} {d} {m} {ys} h fits e = record {
  same = ap length e ∙ length_put (a + m * k) k (digits k (f m)) ys (omega (arith, h.same)) (length_digits k (f m)) ∙ h.same;
  so_far = rw (e, h.so_far, put_next a (m * k) k (row k f m) (digits k (f m)) d (omega arith) (length_row k f m), add-one, suc-mul);
}

-- ---- units that are all alike

-- the first j of at most n units of xs are ys
pub record Firsts (u n : ℕ) (ys xs : List ℕ) (j : ℕ) (zs : List ℕ) : Type 0 where
  pub within : j ≤ n
  pub same : length zs ≡ length xs
  pub so_far : zs ≡ first_units u j ys xs

pub firsts_none : (u n : ℕ) (ys xs : List ℕ) → Firsts u n ys xs 0 xs
unfolding first_units
firsts_none u n ys xs = record { within = omega arith; same = refl; so_far = refl }

pub firsts_more : {u n : ℕ} {ys xs : List ℕ} {j : ℕ} {zs zs' : List ℕ} → Firsts u n ys xs j zs → j < n → length ys ≡ u → j * u + u ≤ length zs
    → zs' ≡ unit_put u j ys zs → Firsts u n ys xs (j + 1) zs'
unfolding first_units unit_put
firsts_more {u} {n} {ys} {xs} {j} {zs} h low long fits e = record {
  within = omega arith;
  same = ap length e ∙ length_put (j * u) u ys zs fits long ∙ h.same;
  so_far = rw (e, h.so_far, add-one);
}

-- units of one value are filled in one piece
pub firsts_alike : (u n v : ℕ) (xs : List ℕ) → put 0 (n * u) (replicate (n * u) v) xs ≡ first_units u n (replicate u v) xs
unfolding first_units put unit_put
firsts_alike u zero v xs = rw zero-mul
firsts_alike u (suc n) v xs =
    rw (
      ← firsts_alike u n v xs,
      take_at (replicate (n * u) v) (drop (n * u) xs) (n * u) (length-replicate (n * u) v),
      drop_at (replicate (n * u) v) (drop (n * u) xs) (n * u) (length-replicate (n * u) v),
      suc-mul,
      drop-drop u (n * u) xs,
      ← append_assoc (replicate (n * u) v) (replicate u v) (drop (n * u + u) xs),
      replicate-append-replicate (n * u) u v,
    )
