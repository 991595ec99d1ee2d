-- Laws of the XOR of byte lists: with `[]` it is a commutative monoid, whatever the lengths; and of `xor_below`.
use Prim.Native.Nat.{ℕ, zero, suc, ◌/◌, ◌≤◌, ◌<◌, zero-le, max}
use native.Mathlib.Nat.{zero-max, max-zero, suc-max-suc, max-eq_left, not-suc-le-zero, le_of_suc-le-suc}
use native.Mathlib.Omega.{arith}
use mathlib.Core.Path.{◌≡◌, refl, sym, ap, ap₂, ◌∙◌}
use mathlib.Core.Logic.{◌≢◌}
use mathlib.Core.Bool.{Bool, true, false, cond}
use mathlib.Core.List.{List, [], ◌∷◌}
use lib.Arith.{bin_ind}
use lib.Bits.{bit_xor, xor_comm, xor_self, xor_shr, xor_add_and}
use lib.Dec.{eqb}
use lib.ListN.{length, replicate}
use borrow.Author.Tests.{eqb-true, eqb-false, eq-eqb, ne_eqb}
use Rattle.octets.specs.Xor.{◌⊕◌, xor_below}

-- ---- numbers

-- the halves are equal, and `xor_add_and` tells that the parities are
assoc_step : (n : ℕ) → ((b c : ℕ) → bit_xor (bit_xor (n / 2) b) c ≡ bit_xor (n / 2) (bit_xor b c))
    → (b c : ℕ) → bit_xor (bit_xor n b) c ≡ bit_xor n (bit_xor b c)
assoc_step n ih b c =
    let h = rw (← xor_shr n b 1, ← xor_shr (bit_xor n b) c 1, ← xor_shr b c 1, ← xor_shr n (bit_xor b c) 1) at (ih (b / 2) (c / 2)) in
    omega (arith, xor_add_and n b, xor_add_and (bit_xor n b) c, xor_add_and b c, xor_add_and n (bit_xor b c))

pub xor_assoc : (a b c : ℕ) → bit_xor (bit_xor a b) c ≡ bit_xor a (bit_xor b c)
xor_assoc = bin_ind (λ (n : ℕ). (b c : ℕ) → bit_xor (bit_xor n b) c ≡ bit_xor n (bit_xor b c)) (λ b c. refl) assoc_step

-- ---- lists

pub xor_nil_l : (a : List ℕ) → [] ⊕ a ≡ a
unfolding ◌⊕◌
xor_nil_l a = refl

pub xor_nil_r : (a : List ℕ) → a ⊕ [] ≡ a
unfolding ◌⊕◌
xor_nil_r [] = refl
xor_nil_r (x ∷ a) = refl

pub xors_comm : (a b : List ℕ) → a ⊕ b ≡ b ⊕ a
unfolding ◌⊕◌
xors_comm [] b = sym (xor_nil_r b)
xors_comm (x ∷ a) [] = refl
xors_comm (x ∷ a) (y ∷ b) = ap₂ {C = List ℕ} ◌∷◌ (xor_comm x y) (xors_comm a b)

pub xors_assoc : (a b c : List ℕ) → (a ⊕ b) ⊕ c ≡ a ⊕ (b ⊕ c)
unfolding ◌⊕◌
xors_assoc [] b c = refl
xors_assoc (x ∷ a) [] c = refl
xors_assoc (x ∷ a) (y ∷ b) [] = refl
xors_assoc (x ∷ a) (y ∷ b) (z ∷ c) = ap₂ {C = List ℕ} ◌∷◌ (xor_assoc x y z) (xors_assoc a b c)

pub xors_swap : (a b c : List ℕ) → (a ⊕ b) ⊕ c ≡ (a ⊕ c) ⊕ b
xors_swap a b c = rw (xors_assoc a b c, xors_assoc a c b, xors_comm b c)

pub xors_interchange : (a b c d : List ℕ) → (a ⊕ b) ⊕ (c ⊕ d) ≡ (a ⊕ c) ⊕ (b ⊕ d)
xors_interchange a b c d = rw (← xors_assoc (a ⊕ b) c d, xors_swap a b c, xors_assoc (a ⊕ c) b d)

-- ---- lengths

pub length_xors : (a b : List ℕ) → length (a ⊕ b) ≡ max (length a) (length b)
unfolding ◌⊕◌
length_xors [] b = sym (zero-max (length b))
length_xors (x ∷ a) [] = sym (max-zero (length (x ∷ a)))
length_xors (x ∷ a) (y ∷ b) = ap suc (length_xors a b) ∙ sym (suc-max-suc (length a) (length b))

-- so also where the shorter one is `[]`
pub length_xors_left : (a b : List ℕ) → length b ≤ length a → length (a ⊕ b) ≡ length a
length_xors_left a b h = length_xors a b ∙ max-eq_left h

-- ---- a list against itself, and zeros

pub xors_self : (a : List ℕ) → a ⊕ a ≡ replicate (length a) 0
unfolding ◌⊕◌
xors_self [] = refl
xors_self (x ∷ a) = ap₂ {C = List ℕ} ◌∷◌ (xor_self x) (xors_self a)

pub xors_zeros_l : (n : ℕ) (a : List ℕ) → n ≤ length a → replicate n 0 ⊕ a ≡ a
unfolding ◌⊕◌
xors_zeros_l zero a h = refl
xors_zeros_l (suc n) [] h = absurd (not-suc-le-zero h)
xors_zeros_l (suc n) (x ∷ a) h = ap {B = List ℕ} (λ r. x ∷ r) (xors_zeros_l n a (le_of_suc-le-suc h))

pub xors_zeros_r : (n : ℕ) (a : List ℕ) → n ≤ length a → a ⊕ replicate n 0 ≡ a
xors_zeros_r n a h = xors_comm a (replicate n 0) ∙ xors_zeros_l n a h

pub xors_cancel : (a b : List ℕ) → length b ≤ length a → (a ⊕ b) ⊕ b ≡ a
xors_cancel a b h = rw (xors_assoc a b b, xors_self b, xors_zeros_r (length b) a h)

-- a list met twice drops out
pub cancel_rest : (x g b : List ℕ) → x ≡ g ⊕ b → length g ≤ length b → x ⊕ g ≡ b
cancel_rest x g b e h = rw (e, xors_comm g b) (xors_cancel b g h)

pub cancel_inside : (a b c : List ℕ) → length b ≤ length c → a ⊕ b ⊕ b ⊕ c ≡ a ⊕ c
cancel_inside a b c h =
    rw (xors_assoc (a ⊕ b) b c, xors_assoc a b (b ⊕ c), xors_comm b (b ⊕ c), xors_comm b c, xors_cancel c b h)

pub cancel_around : (a b c : List ℕ) → length b ≤ length a → a ⊕ (b ⊕ c ⊕ b) ≡ a ⊕ c
cancel_around a b c h = rw (xors_swap b c b, ← xors_assoc a (b ⊕ b) c, ← xors_assoc a b b, xors_cancel a b h)

-- ---- `xor_below`

pub xor_below_cong : (n : ℕ) (f g : ℕ → List ℕ) → ((i : ℕ) → i < n → f i ≡ g i) → xor_below n f ≡ xor_below n g
unfolding xor_below
xor_below_cong zero f g h = refl
xor_below_cong (suc n) f g h = ap₂ ◌⊕◌ (xor_below_cong n f g (λ i l. h i (omega arith))) (h n (omega arith))

pub xor_below_nil : (n : ℕ) (f : ℕ → List ℕ) → ((i : ℕ) → i < n → f i ≡ []) → xor_below n f ≡ []
unfolding xor_below ◌⊕◌
xor_below_nil zero f h = refl
xor_below_nil (suc n) f h = ap₂ ◌⊕◌ (xor_below_nil n f (λ i l. h i (omega arith))) (h n (omega arith))

pub xor_below_split : (n : ℕ) (f g : ℕ → List ℕ) → xor_below n (λ i. f i ⊕ g i) ≡ xor_below n f ⊕ xor_below n g
unfolding xor_below
xor_below_split zero f g = sym (xor_nil_l [])
xor_below_split (suc n) f g = rw (xor_below_split n f g) (xors_interchange (xor_below n f) (xor_below n g) (f n) (g n))

-- the last term is the one that f lacks, or it is another
one_step : (n i : ℕ) (f g : ℕ → List ℕ) → i < suc n → f i ≡ [] → ((k : ℕ) → k < suc n → k ≢ i → f k ≡ g k)
    → (i < n → xor_below n g ≡ xor_below n f ⊕ g i) → (t : Bool) → eqb n i ≡ t → xor_below n g ⊕ g n ≡ (xor_below n f ⊕ f n) ⊕ g i
one_step n i f g l e h ih true q =
    let p : n ≡ i = eqb-true n i q in
    cc (xor_below_cong n f g (λ k lk. h k (omega arith) (omega arith)), xor_nil_r (xor_below n f))
one_step n i f g l e h ih false q =
    let p : n ≢ i = eqb-false n i q in
    cc (ih (omega arith), h n (omega arith) p, xors_swap (xor_below n f) (g i) (g n))

-- g has one term more than f: the one at i
pub xor_below_one : (n i : ℕ) (f g : ℕ → List ℕ) → i < n → f i ≡ [] → ((k : ℕ) → k < n → k ≢ i → f k ≡ g k)
    → xor_below n g ≡ xor_below n f ⊕ g i
unfolding xor_below
xor_below_one zero i f g l e h = absurd (not-suc-le-zero l)
xor_below_one (suc n) i f g l e h =
    one_step n i f g l e h (λ l'. xor_below_one n i f g l' e (λ k lk. h k (omega arith))) (eqb n i) refl

-- g with nothing at i
unfoldable pub without : ℕ → (ℕ → List ℕ) → ℕ → List ℕ
without i g k = cond (eqb k i) [] (g k)

pub without_same : (i : ℕ) (g : ℕ → List ℕ) → without i g i ≡ []
unfolding without
without_same i g = rw (eq-eqb i i refl)

pub without_other : (i : ℕ) (g : ℕ → List ℕ) (k : ℕ) → k ≢ i → without i g k ≡ g k
unfolding without
without_other i g k h = rw (ne_eqb k i h)

-- one term taken out
pub xor_out : (n i : ℕ) (g : ℕ → List ℕ) → i < n → xor_below n g ≡ g i ⊕ xor_below n (without i g)
xor_out n i g l =
    xor_below_one n i (without i g) g l (without_same i g) (λ k lk. without_other i g k) ∙ xors_comm (xor_below n (without i g)) (g i)

pub length_xor_below : (n w : ℕ) (f : ℕ → List ℕ) → ((i : ℕ) → i < n → length (f i) ≤ w) → length (xor_below n f) ≤ w
unfolding xor_below
length_xor_below zero w f h = zero-le
length_xor_below (suc n) w f h =
    omega (arith, length_xors (xor_below n f) (f n), length_xor_below n w f (λ i l. h i (omega arith)), h n (omega arith))

pub length_xor_below_exact : (n w i : ℕ) (f : ℕ → List ℕ) → ((k : ℕ) → k < n → length (f k) ≤ w) → i < n → length (f i) ≡ w
    → length (xor_below n f) ≡ w
length_xor_below_exact n w i f h l e =
    omega (arith, length_xor_below n w f h, length_xors (f i) (xor_below n (without i f)), ap length (xor_out n i f l))
