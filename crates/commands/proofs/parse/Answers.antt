-- Each return is the case of the definition that its tests lead to.
use Prim.Native.Nat.{ℕ, ◌-◌, ◌≤◌}
use native.Mathlib.Omega.{arith}
use mathlib.Core.List.{List}
use mathlib.Core.Bool.{true}
use mathlib.Core.Path.{◌≡◌, sym, ◌∙◌}
use lib.Seq.{take_all}
use lib.ListN.{length, take, drop, length-drop}
use Rattle.commands.specs.Parsing.{digit_count, numbered}
use Rattle.commands.proofs.Cases.{numbered_is, filled_is, unnumbered, number_alone, number_and_byte, neither_follows, short_line}
use Rattle.commands.proofs.parse.Goals as goal

-- the part from offset 2 on is the rest
whole : (xs : List ℕ) → take (length xs - 2) (drop 2 xs) ≡ drop 2 xs
whole xs = take_all (length xs - 2) (drop 2 xs) (omega (arith, length-drop 2 xs))

pub returns-then-line-lt2 : goal.returns-then-line-lt2
returns-then-line-lt2 c = sym (short_line c.args.line.now c.if-line-lt2.true)

pub returns-then-not-is_numbered : goal.returns-then-not-is_numbered
returns-then-not-is_numbered c =
    let line : List ℕ = c.args.line.now in
    let k : ℕ = c.digit_count-digits.result in
    let counted : k ≡ digit_count (drop 2 line) = rw (whole line) at c.digit_count-digits.ensures in
    let f = sym c.is_numbered.ensures ∙ c.if-not-is_numbered.true in
    sym (unnumbered line k counted f)

pub decimal_value-number-requires : goal.decimal_value-number-requires
decimal_value-number-requires c =
    let k : ℕ = c.digit_count-digits.result in
    let line : List ℕ = c.args.line.now in
    let is_numbered : numbered line k ≡ true = sym c.is_numbered.ensures ∙ c.if-not-is_numbered.false in
    (numbered_is line k is_numbered).few

pub is_alone-requires : goal.is_alone-requires
is_alone-requires c =
    let k : ℕ = c.digit_count-digits.result in
    let line : List ℕ = c.args.line.now in
    let is_numbered : numbered line k ≡ true = sym c.is_numbered.ensures ∙ c.if-not-is_numbered.false in
    (numbered_is line k is_numbered).few

pub returns-then-is_alone : goal.returns-then-is_alone
returns-then-is_alone c =
    let line : List ℕ = c.args.line.now in
    let k : ℕ = c.digit_count-digits.result in
    let counted : k ≡ digit_count (drop 2 line) = rw (whole line) at c.digit_count-digits.ensures in
    let is_numbered : numbered line k ≡ true = sym c.is_numbered.ensures ∙ c.if-not-is_numbered.false in
    let u = sym c.is_alone.ensures ∙ c.if-is_alone.true in
    let e = number_alone line k counted is_numbered u in
    rw (c.act_alone-act.ensures, c.byte_at.ensures, c.decimal_value-number.ensures, whole line, e)

pub is_filled-requires : goal.is_filled-requires
is_filled-requires c =
    let k : ℕ = c.digit_count-digits.result in
    let line : List ℕ = c.args.line.now in
    let is_numbered : numbered line k ≡ true = sym c.is_numbered.ensures ∙ c.if-not-is_numbered.false in
    (numbered_is line k is_numbered).few

pub overflow_add-digits : goal.overflow_add-digits
overflow_add-digits c =
    let k : ℕ = c.digit_count-digits.result in
    let line : List ℕ = c.args.line.now in
    let is_numbered : numbered line k ≡ true = sym c.is_numbered.ensures ∙ c.if-not-is_numbered.false in
    let few : k ≤ 5 = (numbered_is line k is_numbered).few in
    omega (arith, few)

pub overflow_add-digits-then-is_filled : goal.overflow_add-digits-then-is_filled
overflow_add-digits-then-is_filled c =
    let k : ℕ = c.digit_count-digits.result in
    let line : List ℕ = c.args.line.now in
    let is_numbered : numbered line k ≡ true = sym c.is_numbered.ensures ∙ c.if-not-is_numbered.false in
    let few : k ≤ 5 = (numbered_is line k is_numbered).few in
    omega (arith, few)

pub byte_value-byte-requires : goal.byte_value-byte-requires
byte_value-byte-requires c =
    let line : List ℕ = c.args.line.now in
    let k : ℕ = c.digit_count-digits.result in
    let f = filled_is line k (sym c.is_filled.ensures ∙ c.if-is_filled.true) in
    rw (c.byte_at-then-is_filled.ensures, c.byte_at-then-is_filled-2.ensures) (f.high, f.low)

pub returns-then-is_filled : goal.returns-then-is_filled
returns-then-is_filled c =
    let line : List ℕ = c.args.line.now in
    let k : ℕ = c.digit_count-digits.result in
    let counted : k ≡ digit_count (drop 2 line) = rw (whole line) at c.digit_count-digits.ensures in
    let is_numbered : numbered line k ≡ true = sym c.is_numbered.ensures ∙ c.if-not-is_numbered.false in
    let f = sym c.is_alone.ensures ∙ c.if-is_alone.false in
    let u = sym c.is_filled.ensures ∙ c.if-is_filled.true in
    let e = number_and_byte line k counted is_numbered f u in
    let number = c.decimal_value-number.ensures in
    let high = c.byte_at-then-is_filled.ensures in
    let low = c.byte_at-then-is_filled-2.ensures in
    rw (number, whole line, c.byte_value-byte.ensures, high, low, e)

pub returns : goal.returns
returns c =
    let line : List ℕ = c.args.line.now in
    let k : ℕ = c.digit_count-digits.result in
    let counted : k ≡ digit_count (drop 2 line) = rw (whole line) at c.digit_count-digits.ensures in
    let is_numbered : numbered line k ≡ true = sym c.is_numbered.ensures ∙ c.if-not-is_numbered.false in
    let f = sym c.is_alone.ensures ∙ c.if-is_alone.false in
    let g = sym c.is_filled.ensures ∙ c.if-is_filled.false in
    sym (neither_follows line k counted is_numbered f g)
