-- A line that is taken for a command is a listed one.
use Prim.Native.Nat.{ℕ, ◌+◌, ◌*◌}
use Prim.Native.Char.{code}
use native.Mathlib.Omega.{arith}
use mathlib.Core.Path.{◌≡◌, refl, sym, ap, ◌∙◌}
use mathlib.Core.Bool.{true, false}
use mathlib.Core.List.{List, [], ◌∷◌}
use lib.ListN.{length, get_or}
use lib.Dec.{eqb}
use borrow.Author.Tests.{eqb-true}
use Rattle.ranges.proofs.Looks.{both, by_test}
use Rattle.ranges.proofs.Tests.{and_both}
use Rattle.commands.specs.declared.Command.{Command}
use Rattle.std.specs.Prelude.{Option, Some, None, is_some, unwrap_or}
use Rattle.commands.specs.declared.Act.TheVariants.{Write}
use Rattle.commands.specs.Lines.{spelled, value, Decimal, line, asks, Gives, w_line, r_line, c_line, x_line}
use Rattle.commands.specs.Parsing.{digit_value, digit_count, numbered, alone, filled, act_alone, command_of}
use Rattle.commands.proofs.Cases.{numbered_is, filled_is, unnumbered, neither_follows, short_line}
use Rattle.commands.proofs.Spelling.{was_spelled, at_rest, line_length, leads}
use Rattle.commands.proofs.Taken.{plain, takes}

-- a line that is taken for a command, and listed with it
record Both (xs : List ℕ) : Type 0 where
  pub command : Command
  pub taken : command_of xs ≡ Some command
  pub gives : Gives xs command

same_line : (xs ys : List ℕ) (c : Command) → xs ≡ ys → Gives ys c → Both xs
same_line xs ys c e g = record { command = c; taken = rw e (takes ys c g); gives = rw e g }

-- it is taken for no other
its_own : (xs : List ℕ) (c : Command) → command_of xs ≡ Some c → Both xs → Gives xs c
its_own xs c e b = let same : c ≡ b.command = ap (λ (o : Option Command). unwrap_or o c) (sym e ∙ b.taken) in rw same b.gives

-- and not for none
not_none : {P : Type 0} (xs : List ℕ) (c : Command) → command_of xs ≡ Some c → command_of xs ≡ None → P
not_none xs c e f = both false (ap (λ (o : Option Command). is_some o) (sym f ∙ e)) refl

no_bytes : (xs : List ℕ) → length xs ≡ 0 → xs ≡ []
no_bytes [] h = refl
no_bytes (x ∷ xs) h = absurd (omega arith)

three_bytes : (xs : List ℕ) → length xs ≡ 3 → xs ≡ get_or xs 0 0 ∷ get_or xs 1 0 ∷ get_or xs 2 0 ∷ []
three_bytes [] h = absurd (omega arith)
three_bytes (x ∷ []) h = absurd (omega arith)
three_bytes (x ∷ y ∷ []) h = absurd (omega arith)
three_bytes (x ∷ y ∷ z ∷ xs) h = rw (no_bytes xs (omega arith))

-- a line of letter a, byte s and bytes bs, in which a space and a number follow the letter
module _ (a s : ℕ) (bs : List ℕ) (n : numbered (a ∷ s ∷ bs) (digit_count bs) ≡ true) where
  abbrev xs : List ℕ
  xs = a ∷ s ∷ bs

  abbrev ds : List ℕ
  ds = (leads bs).digits

  abbrev rest : List ℕ
  rest = (leads bs).rest

  decimal : Decimal ds
  decimal =
      let m = numbered_is xs (digit_count bs) n in
      let e = (leads bs).count in
      record { some = omega arith; few = omega arith; digits = (leads bs).tens }

  shape : xs ≡ line a ds rest
  shape = let e = (numbered_is xs (digit_count bs) n).space in cc (leads bs).whole

  rest_length : (m : ℕ) → length xs ≡ digit_count bs + (2 + m) → length rest ≡ m
  rest_length m e = omega (arith, ap length shape, line_length a ds rest, (leads bs).count)

  rest_byte : (i : ℕ) → get_or xs (digit_count bs + (2 + i)) 0 ≡ get_or rest i 0
  rest_byte i = rw (leads bs).count (ap (λ (ys : List ℕ). get_or ys (length ds + (2 + i)) 0) shape ∙ at_rest a ds rest i)

  module _ (u : alone xs (digit_count bs) ≡ true) where
    parts : (plain a ≡ true) × (eqb (length xs) (digit_count bs + 2) ≡ true)
    parts = and_both (plain a) (eqb (length xs) (digit_count bs + 2)) u

    nothing_follows : rest ≡ []
    nothing_follows = no_bytes rest (rest_length 0 (eqb-true (length xs) (digit_count bs + 2) parts.1))

    with_letter : (letter : ℕ) → eqb a letter ≡ true → Gives (line letter ds []) (asks ds (act_alone letter (value ds))) → Both xs
    with_letter letter t =
        same_line xs (line letter ds []) (asks ds (act_alone letter (value ds))) (shape ∙ rw (eqb-true a letter t, nothing_follows))

    number_listed : Both xs
    number_listed =
        by_test (eqb a (code "r"))
        (λ t. with_letter (code "r") t (r_line ds decimal))
        λ f.
        by_test (eqb a (code "c"))
        (λ t. with_letter (code "c") t (c_line ds decimal))
        λ g. with_letter (code "x") (rw (f, g) at parts.0) (x_line ds decimal)

  byte_listed : filled xs (digit_count bs) ≡ true → Both xs
  byte_listed u =
      let f = filled_is xs (digit_count bs) u in
      let high = get_or xs (digit_count bs + 3) 0 in
      let low = get_or xs (digit_count bs + 4) 0 in
      let w : a ≡ code "w" = f.letter in
      let e = three_bytes rest (rest_length 3 f.long) in
      let s₀ = rest_byte 0 in
      let s₁ : high ≡ get_or rest 1 0 = rest_byte 1 in
      let s₂ : low ≡ get_or rest 2 0 = rest_byte 2 in
      let h = was_spelled high f.high in
      let l = was_spelled low f.low in
      same_line xs (line (code "w") ds (code " " ∷ spelled (digit_value high) ∷ spelled (digit_value low) ∷ []))
      (asks ds (Write (value ds) (16 * digit_value high + digit_value low)))
      (shape ∙ cc f.space)
      (w_line ds (digit_value high) (digit_value low) decimal f.high f.low)

pub listed : (xs : List ℕ) (c : Command) → command_of xs ≡ Some c → Gives xs c
listed [] c e = not_none [] c e (short_line [] (omega arith))
listed (a ∷ []) c e = not_none (a ∷ []) c e (short_line (a ∷ []) (omega arith))
listed (a ∷ s ∷ bs) c e =
    let ys = a ∷ s ∷ bs in
    let k = digit_count bs in
    by_test (numbered ys k)
    (λ n.
    by_test (alone ys k)
    (λ u. its_own ys c e (number_listed a s bs n u))
    λ f.
    by_test (filled ys k)
    (λ u. its_own ys c e (byte_listed a s bs n u))
    λ g. not_none ys c e (neither_follows ys k refl n f g))
    λ f. not_none ys c e (unnumbered ys k refl f)
