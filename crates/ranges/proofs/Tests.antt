-- Laws of tests: a conjunction, a disjunction, a choice, a test that fails; and lists that are equal by a test.
use Prim.Native.Nat.{ℕ}
use mathlib.Core.Path.{◌≡◌, refl, ap₂}
use mathlib.Core.Bool.{Bool, true, false, not, ◌&&◌, ◌||◌, false≢true, cond}
use mathlib.Core.List.{List, [], ◌∷◌}
use mathlib.Core.Logic.{◌≢◌}
use lib.Dec.{eqb}
use borrow.Author.Tests.{eqb-true, eq-eqb, ne_eqb, eqb-false, not-true, not-false}
use Rattle.ranges.proofs.Looks.{both}

pub and_both : (a b : Bool) → a && b ≡ true → (a ≡ true) × (b ≡ true)
and_both true b e = (refl, e)
and_both false b e = absurd (false≢true e)

pub and_left : (a b : Bool) → a && b ≡ true → a ≡ true
and_left a b e = (and_both a b e).0

pub and_right : (a b : Bool) → a && b ≡ true → b ≡ true
and_right a b e = (and_both a b e).1

pub both_and : {a b : Bool} → a ≡ true → b ≡ true → a && b ≡ true
both_and p q = rw (p, q)

-- a && b && .., to the left as the operator nests
abbrev pub chain : Bool → List Bool → Bool
chain a [] = a
chain a (b ∷ bs) = chain (a && b) bs

abbrev pub AllTrue : List Bool → Type 0
AllTrue [] = Unit
AllTrue (b ∷ bs) = (b ≡ true) × AllTrue bs

pub chain_all : (a : Bool) (bs : List Bool) → chain a bs ≡ true → (a ≡ true) × AllTrue bs
chain_all a [] e = (e, tt)
chain_all a (b ∷ bs) e =
    let h = chain_all (a && b) bs e in
    let ab = and_both a b h.0 in
    (ab.0, (ab.1, h.1))

pub all_chain : (a : Bool) (bs : List Bool) → a ≡ true → AllTrue bs → chain a bs ≡ true
all_chain a [] e h = e
all_chain a (b ∷ bs) e h = all_chain (a && b) bs (both_and e h.0) h.1

pub or_right : (a : Bool) {b : Bool} → b ≡ true → a || b ≡ true
or_right true e = refl
or_right false e = e

-- a disjunction as an implication
pub or_else : (a b : Bool) → a || b ≡ true → a ≡ false → b ≡ true
or_else true b e f = both true refl f
or_else false b e f = e

pub or_by : (a b : Bool) → (a ≡ false → b ≡ true) → a || b ≡ true
or_by true b h = refl
or_by false b h = h refl

-- a disjunction that fails
pub neither : (a b : Bool) → a || b ≡ false → (a ≡ false) × (b ≡ false)
neither true b e = both true refl e
neither false b e = (refl, e)

-- whether one of two tests fails
pub one_fails : (a b : Bool) → not a || not b ≡ true → a && b ≡ false
one_fails true b e = not-true b e
one_fails false b e = refl

pub none_fails : (a b : Bool) → not a || not b ≡ false → (a ≡ true) × (b ≡ true)
none_fails a b e = let h = neither (not a) (not b) e in (not-false a h.0, not-false b h.1)

pub under : (a b : Bool) → not a || b ≡ true → a ≡ true → b ≡ true
under a b e t = or_else (not a) b e (rw t)

pub under_by : (a b : Bool) → (a ≡ true → b ≡ true) → not a || b ≡ true
under_by a b h = or_by (not a) b (λ f. h (not-false a f))

pub unless_equal : (a c : ℕ) (b : Bool) → eqb a c || b ≡ true → a ≢ c → b ≡ true
unless_equal a c b e d = or_else (eqb a c) b e (ne_eqb a c d)

pub unless_equal_by : (a c : ℕ) (b : Bool) → (a ≢ c → b ≡ true) → eqb a c || b ≡ true
unless_equal_by a c b h = or_by (eqb a c) b (λ f. h (eqb-false a c f))

-- a choice by its test
pub cond_true : (a b c : Bool) → cond a b c ≡ true → a ≡ true → b ≡ true
cond_true true b c e t = e
cond_true false b c e t = both false t refl

pub cond_false : (a b c : Bool) → cond a b c ≡ true → a ≡ false → c ≡ true
cond_false true b c e f = both true refl f
cond_false false b c e f = e

pub cond_by : (a b c : Bool) → (a ≡ true → b ≡ true) → (a ≡ false → c ≡ true) → cond a b c ≡ true
cond_by true b c yea nay = yea refl
cond_by false b c yea nay = nay refl

pub cond_equal : (n k : ℕ) (b c : Bool) → cond (eqb n k) b c ≡ true → n ≡ k → b ≡ true
cond_equal n k b c e q = cond_true (eqb n k) b c e (eq-eqb n k q)

pub cond_other : (n k : ℕ) (b c : Bool) → cond (eqb n k) b c ≡ true → n ≢ k → c ≡ true
cond_other n k b c e d = cond_false (eqb n k) b c e (ne_eqb n k d)

pub cond_equal_by : (n k : ℕ) (b c : Bool) → (n ≡ k → b ≡ true) → (n ≢ k → c ≡ true) → cond (eqb n k) b c ≡ true
cond_equal_by n k b c same other = cond_by (eqb n k) b c (λ t. same (eqb-true n k t)) (λ f. other (eqb-false n k f))

pub cond_same : (b : Bool) (n : ℕ) → cond b n n ≡ n
cond_same true n = refl
cond_same false n = refl

-- a test that fails
pub false_not : (b : Bool) → b ≡ false → not b ≡ true
false_not b f = rw f

pub differ : (a b : ℕ) → not (eqb a b) ≡ true → a ≢ b
differ a b e = eqb-false a b (not-true (eqb a b) e)

pub differ_by : (a b : ℕ) → a ≢ b → not (eqb a b) ≡ true
differ_by a b d = false_not (eqb a b) (ne_eqb a b d)

-- two lists are equal, by a test of their elements: so a computed row that is wrong fails at once
module _ {A : Type 0} (same : A → A → Bool) where
  abbrev pub same_list : List A → List A → Bool
  same_list [] [] = true
  same_list [] (y ∷ ys) = false
  same_list (x ∷ xs) [] = false
  same_list (x ∷ xs) (y ∷ ys) = same x y && same_list xs ys

  pub same_list_lem : ((x y : A) → same x y ≡ true → x ≡ y) → (xs ys : List A) → same_list xs ys ≡ true → xs ≡ ys
  same_list_lem h [] [] e = refl
  same_list_lem h [] (y ∷ ys) e = absurd (false≢true e)
  same_list_lem h (x ∷ xs) [] e = absurd (false≢true e)
  same_list_lem h (x ∷ xs) (y ∷ ys) e =
      let b = and_both (same x y) (same_list xs ys) e in
      ap₂ {C = List A} (λ a as'. a ∷ as') (h x y b.0) (same_list_lem h xs ys b.1)

pub same_rows : (xs ys : List (List ℕ)) → same_list (same_list eqb) xs ys ≡ true → xs ≡ ys
same_rows = same_list_lem (same_list eqb) (same_list_lem eqb eqb-true)
