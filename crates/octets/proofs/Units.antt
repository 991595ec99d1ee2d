-- Laws of parts and units of a byte list: what a put leaves, and where it leaves it.
-- The list laws stand at plain offsets. Those of units cite them, for a list that is n units of u bytes long.
use Prim.Native.Nat.{ℕ, zero, suc, ◌+◌, ◌-◌, ◌*◌, ◌≤◌, ◌<◌, ◌/◌, ◌%◌}
use native.Mathlib.Nat.{zero-add, suc-add, add-zero, suc-mul, add-mul, mul_assoc, mul-le-mul_right}
use native.Mathlib.Omega.{arith}
use native.Mathlib.Decide.{dec_lt}
use mathlib.Core.Path.{◌≡◌, sym, ap, ◌∙◌}
use mathlib.Core.Logic.{◌≢◌}
use mathlib.Core.List.{List, [], ◌∷◌, ◌++◌}
use lib.ListN.{length, take, drop, get_or, replicate, length-append, length-take, length-drop, length-replicate, drop_of_length-le, replicate-append-replicate}
use lib.Seq.{length-take-le, take_all, take-nil, take-append-le, take-append_seam, drop-append-le, drop-append-add, take-take, drop-drop, get_or-take, get_or-drop}
use lib.Arith.{digits_div, digits_mod}
use Rattle.octets.specs.Units.{part, put, unit, unit_put}

-- products: one unit less and one more; unit i ends where a later one starts or before, and a list of n units holds unit i, and the k units from a on
pub one_less : (b k : ℕ) → 1 ≤ b → (b - 1) * k + k ≡ b * k
one_less b k h = let e : suc (b - 1) ≡ b = omega arith in sym (suc-mul (b - 1) k) ∙ ap (λ (n : ℕ). n * k) e

pub apart : (u i j : ℕ) → i < j → i * u + u ≤ j * u
apart u i j h = rw suc-mul at (mul-le-mul_right u h)

pub unit_fits : (n u i : ℕ) (xs : List ℕ) → length xs ≡ n * u → i < n → i * u + u ≤ length xs
unit_fits n u i xs e h = rw e (apart u i n h)

pub units_fit : (n u a k : ℕ) (xs : List ℕ) → length xs ≡ n * u → a + k ≤ n → a * u + k * u ≤ length xs
units_fit n u a k xs e h = rw (e, ← add-mul) (mul-le-mul_right u h)

-- an index of two digits tells both
pub same_index : (n c p c' p' : ℕ) → p < n → p' < n → c * n + p ≡ c' * n + p' → (c ≡ c') × (p ≡ p')
same_index n c p c' p' h h' e = (
  sym (digits_div c h) ∙ ap (λ (i : ℕ). i / n) e ∙ digits_div c' h',
  sym (digits_mod c h) ∙ ap (λ (i : ℕ). i % n) e ∙ digits_mod c' h',
)

-- the length of a part, and a byte of it
pub length_part : (a k : ℕ) (xs : List ℕ) → a + k ≤ length xs → length (part a k xs) ≡ k
unfolding part
length_part a k xs h = simp (length-take, length-drop) (omega arith)

pub part_outside : (a k : ℕ) (xs : List ℕ) → length xs ≤ a → part a k xs ≡ []
unfolding part
part_outside a k xs h = rw drop_of_length-le (take-nil k)

pub get_or_part : (a k : ℕ) (xs : List ℕ) (i d : ℕ) → i < k → get_or (part a k xs) i d ≡ get_or xs (a + i) d
unfolding part
get_or_part a k xs i d h = rw (get_or-take, get_or-drop)

-- a part of two lists one behind the other
pub part_append_left : (a k : ℕ) (xs ys : List ℕ) → a + k ≤ length xs → part a k (xs ++ ys) ≡ part a k xs
unfolding part
part_append_left a k xs ys h =
    let h₁ : a ≤ length xs = omega arith in
    let h₂ : k ≤ length (drop a xs) = rw length-drop (omega arith) in
    rw (drop-append-le, take-append-le)

pub part_append_skip : (a k : ℕ) (xs ys : List ℕ) → part (length xs + a) k (xs ++ ys) ≡ part a k ys
unfolding part
part_append_skip a k xs ys = rw drop-append-add

pub part_append_from : (n a k : ℕ) (xs ys : List ℕ) → length xs ≡ n → part (n + a) k (xs ++ ys) ≡ part a k ys
part_append_from n a k xs ys e = rw (← e) (part_append_skip a k xs ys)

pub part_whole : (k : ℕ) (xs : List ℕ) → length xs ≡ k → part 0 k xs ≡ xs
unfolding part
part_whole k xs e = take_all k xs (omega arith)

pub part_append_first : (xs ys : List ℕ) → part 0 (length xs) (xs ++ ys) ≡ xs
unfolding part
part_append_first xs ys = take-append_seam xs ys

pub part_append_second : (xs ys zs : List ℕ) → part (length xs) (length ys) (xs ++ (ys ++ zs)) ≡ ys
part_append_second xs ys zs = rw (add-zero, part_append_first) at (part_append_skip 0 (length ys) xs (ys ++ zs))

-- a part of a part
drop_take : (a k : ℕ) (xs : List ℕ) → drop a (take (a + k) xs) ≡ take k (drop a xs)
drop_take zero k xs = rw zero-add
drop_take (suc a) k [] = simp take-nil
drop_take (suc a) k (x ∷ xs) = rw suc-add (drop_take a k xs)

pub part_take : (a k n : ℕ) (xs : List ℕ) → a + k ≤ n → part a k (take n xs) ≡ part a k xs
unfolding part
part_take a k n xs h =
    let e : a + (n - a) ≡ n = omega arith in
    let l : k ≤ n - a = omega arith in
    rw (drop_take, take-take) at (ap (λ (m : ℕ). take k (drop a (take m xs))) (sym e))

pub part_drop : (a b l : ℕ) (xs : List ℕ) → part b l (drop a xs) ≡ part (a + b) l xs
unfolding part
part_drop a b l xs = rw drop-drop

pub part_part : (a k b l : ℕ) (xs : List ℕ) → b + l ≤ k → part b l (part a k xs) ≡ part (a + b) l xs
unfolding part
part_part a k b l xs h = part_take b l k (drop a xs) h ∙ part_drop a b l xs

-- a part of equal bytes
pub part_replicate : (a k n v : ℕ) → a + k ≤ n → part a k (replicate n v) ≡ replicate k v
part_replicate a k n v h =
    let e : a + (k + (n - (a + k))) ≡ n = omega arith in
    simp (length-replicate, replicate-append-replicate, e) at (part_append_second (replicate a v) (replicate k v) (replicate (n - (a + k)) v))

-- a put: its length, and the parts inside it, before it and after it
pub length_put : (a k : ℕ) (ys xs : List ℕ) → a + k ≤ length xs → length ys ≡ k → length (put a k ys xs) ≡ length xs
unfolding put
length_put a k ys xs h e = simp (length-append, length-take, length-drop) (omega arith)

pub part_put_inside : (a k b l : ℕ) (ys xs : List ℕ) → a ≤ length xs → length ys ≡ k → b + l ≤ k → part (a + b) l (put a k ys xs) ≡ part b l ys
unfolding put
part_put_inside a k b l ys xs h e i =
    part_append_from a b l (take a xs) (ys ++ drop k (drop a xs)) (length-take-le a xs h) ∙ part_append_left b l ys (drop k (drop a xs)) (omega arith)

pub part_put_same : (a k : ℕ) (ys xs : List ℕ) → a ≤ length xs → length ys ≡ k → part a k (put a k ys xs) ≡ ys
part_put_same a k ys xs h e = rw (add-zero, part_whole) at (part_put_inside a k 0 k ys xs h e (omega arith))

pub part_put_before : (a k b l : ℕ) (ys xs : List ℕ) → a ≤ length xs → b + l ≤ a → part b l (put a k ys xs) ≡ part b l xs
unfolding put
part_put_before a k b l ys xs h i =
    part_append_left b l (take a xs) (ys ++ drop k (drop a xs)) (rw length-take-le i) ∙ part_take b l a xs i

pub part_put_after : (a k b l : ℕ) (ys xs : List ℕ) → a ≤ length xs → length ys ≡ k → a + k ≤ b → part b l (put a k ys xs) ≡ part b l xs
unfolding put
part_put_after a k b l ys xs h e i =
    let m = b - (a + k) in
    let at_b : a + (k + m) ≡ b = omega arith in
    let past_a = part_append_from a (k + m) l (take a xs) (ys ++ drop k (drop a xs)) (length-take-le a xs h) in
    let past_ys = part_append_from k m l ys (drop k (drop a xs)) e in
    rw at_b at (past_a ∙ past_ys ∙ part_drop k m l (drop a xs) ∙ part_drop a (k + m) l xs)

-- a unit: its length, its parts and bytes, and the units outside
pub length_unit : (n u i : ℕ) (xs : List ℕ) → length xs ≡ n * u → i < n → length (unit u i xs) ≡ u
unfolding unit
length_unit n u i xs e h = length_part (i * u) u xs (unit_fits n u i xs e h)

pub part_unit : (u i a k : ℕ) (xs : List ℕ) → a + k ≤ u → part a k (unit u i xs) ≡ part (i * u + a) k xs
unfolding unit
part_unit u i a k xs h = part_part (i * u) u a k xs h

pub get_or_unit : (u i a d : ℕ) (xs : List ℕ) → a < u → get_or (unit u i xs) a d ≡ get_or xs (i * u + a) d
unfolding unit
get_or_unit u i a d xs h = get_or_part (i * u) u xs a d h

-- a unit of u bytes of a unit of n of them
pub unit_unit : (n u c p : ℕ) (xs : List ℕ) → p < n → unit u p (unit (n * u) c xs) ≡ unit u (c * n + p) xs
unfolding unit
unit_unit n u c p xs h =
    rw (part_part (c * (n * u)) (n * u) (p * u) u xs (apart u p n h), add-mul, mul_assoc)

pub unit_unit_outside : (n u c p : ℕ) (xs : List ℕ) → n ≤ p → unit u p (unit (n * u) c xs) ≡ []
unfolding unit part
unit_unit_outside n u c p xs h =
    part_outside (p * u) u (take (n * u) (drop (c * (n * u)) xs)) (rw length-take (omega (arith, mul-le-mul_right u h)))

pub unit_replicate : (n u i v : ℕ) → i < n → unit u i (replicate (n * u) v) ≡ replicate u v
unfolding unit
unit_replicate n u i v h = part_replicate (i * u) u (n * u) v (apart u i n h)

-- a unit put: the length, that unit, the others
pub length_unit_put : (n u i : ℕ) (ys xs : List ℕ) → length xs ≡ n * u → i < n → length ys ≡ u → length (unit_put u i ys xs) ≡ length xs
unfolding unit_put
length_unit_put n u i ys xs e h l = length_put (i * u) u ys xs (unit_fits n u i xs e h) l

pub unit_same : (n u i : ℕ) (ys xs : List ℕ) → length xs ≡ n * u → i < n → length ys ≡ u → unit u i (unit_put u i ys xs) ≡ ys
unfolding unit unit_put
unit_same n u i ys xs e h l = part_put_same (i * u) u ys xs (omega (arith, unit_fits n u i xs e h)) l

pub unit_other : (n u i j : ℕ) (ys xs : List ℕ) → length xs ≡ n * u → i < n → length ys ≡ u → j ≢ i → unit u j (unit_put u i ys xs) ≡ unit u j xs
unfolding unit unit_put
unit_other n u i j ys xs e h l d = elim (dec_lt j i) [
  | yes b ↦ part_put_before (i * u) u (j * u) u ys xs (omega (arith, unit_fits n u i xs e h)) (apart u j i b)
  | no b ↦ part_put_after (i * u) u (j * u) u ys xs (omega (arith, unit_fits n u i xs e h)) l (apart u i j (omega arith))
]

-- a put over the k units from a on
pub length_put_units : (n u a k : ℕ) (ys xs : List ℕ) → length xs ≡ n * u → a + k ≤ n → length ys ≡ k * u → length (put (a * u) (k * u) ys xs) ≡ length xs
length_put_units n u a k ys xs e h = length_put (a * u) (k * u) ys xs (units_fit n u a k xs e h)

pub unit_put_in : (n u a k i : ℕ) (ys xs : List ℕ) → length xs ≡ n * u → a + k ≤ n → length ys ≡ k * u → i < k
    → unit u (a + i) (put (a * u) (k * u) ys xs) ≡ unit u i ys
unfolding unit
unit_put_in n u a k i ys xs e h l r =
    rw add-mul (part_put_inside (a * u) (k * u) (i * u) u ys xs (omega (arith, units_fit n u a k xs e h)) l (apart u i k r))

pub unit_put_before : (n u a k i : ℕ) (ys xs : List ℕ) → length xs ≡ n * u → a + k ≤ n → i < a
    → unit u i (put (a * u) (k * u) ys xs) ≡ unit u i xs
unfolding unit
unit_put_before n u a k i ys xs e h l =
    part_put_before (a * u) (k * u) (i * u) u ys xs (omega (arith, units_fit n u a k xs e h)) (apart u i a l)

pub unit_put_after : (n u a k i : ℕ) (ys xs : List ℕ) → length xs ≡ n * u → a + k ≤ n → length ys ≡ k * u → a + k ≤ i
    → unit u i (put (a * u) (k * u) ys xs) ≡ unit u i xs
unfolding unit
unit_put_after n u a k i ys xs e h l r =
    part_put_after (a * u) (k * u) (i * u) u ys xs (omega (arith, units_fit n u a k xs e h)) l (rw add-mul at (mul-le-mul_right u r))

-- equal bytes put over the k units from a on
pub unit_fill_in : (n u a k i v : ℕ) (xs : List ℕ) → length xs ≡ n * u → a + k ≤ n → a ≤ i → i < a + k
    → unit u i (put (a * u) (k * u) (replicate (k * u) v) xs) ≡ replicate u v
unit_fill_in n u a k i v xs e h l r =
    let at_i : a + (i - a) ≡ i = omega arith in
    let b : i - a < k = omega arith in
    rw (at_i, unit_replicate) at (unit_put_in n u a k (i - a) (replicate (k * u) v) xs e h (length-replicate (k * u) v) b)

pub unit_fill_before : (n u a k i v : ℕ) (xs : List ℕ) → length xs ≡ n * u → a + k ≤ n → i < a
    → unit u i (put (a * u) (k * u) (replicate (k * u) v) xs) ≡ unit u i xs
unit_fill_before n u a k i v xs = unit_put_before n u a k i (replicate (k * u) v) xs

pub unit_fill_after : (n u a k i v : ℕ) (xs : List ℕ) → length xs ≡ n * u → a + k ≤ n → a + k ≤ i
    → unit u i (put (a * u) (k * u) (replicate (k * u) v) xs) ≡ unit u i xs
unit_fill_after n u a k i v xs e h = unit_put_after n u a k i (replicate (k * u) v) xs e h (length-replicate (k * u) v)
