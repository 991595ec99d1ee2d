-- XOR of byte lists. The shorter one counts as filled up with zeros, so that the empty list is zeros of any length.
use Rattle.std.specs.Prelude.{ℕ, zero, suc, List, [], ◌∷◌}
use Rattle.std.specs.Int.Bits.{bit_xor}

infixl 40 ◌⊕◌
unfoldable pub ◌⊕◌ : List ℕ → List ℕ → List ℕ
[] ⊕ ys = ys
(x ∷ xs) ⊕ [] = x ∷ xs
(x ∷ xs) ⊕ (y ∷ ys) = bit_xor x y ∷ (xs ⊕ ys)

-- the XOR of f 0, f 1, .. below n
unfoldable pub xor_below : ℕ → (ℕ → List ℕ) → List ℕ
xor_below zero f = []
xor_below (suc n) f = xor_below n f ⊕ f n
