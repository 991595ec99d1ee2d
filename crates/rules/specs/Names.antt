-- Document 01: which pages the records name, "as current, old or parity".
use Rattle.std.specs.Prelude.{ℕ, Bool, not, cond, ◌||◌, eqb}
use Rattle.ranges.specs.Look.{some_below}
use Rattle.layout.specs.Layout.{Layout, none}
use Rattle.layout.specs.Rotation.{parity_chip, member_on}
use Rattle.layout.specs.Page.{data_kind, parity_kind}
use Rattle.layout.specs.Record.{Record}
use Rattle.rules.specs.declared.Role.{Role}
use Rattle.rules.specs.declared.Role.TheVariants.{Current, Old, Parity}

module _ (l : Layout) where
  open l use {S}

  -- A stripe has one page on each chip: its parity page, or the current page of the member there.
  unfoldable pub main_number : ℕ → ℕ → Record → ℕ
  main_number c j r = cond (eqb c (parity_chip l j)) r.parity (r.current (member_on l j c))

  -- Beside it may stand the member's old page.
  unfoldable pub side_number : ℕ → ℕ → Record → ℕ
  side_number c j r = cond (eqb c (parity_chip l j)) (none l) (r.old (member_on l j c))

  -- the role of page p there
  unfoldable pub role_of : ℕ → ℕ → Record → ℕ → Role
  role_of c j r p =
      cond (eqb c (parity_chip l j)) Parity
      (cond (eqb (r.current (member_on l j c)) p) (Current (member_on l j c)) (Old (member_on l j c)))

  -- the kind of a page of stripe j on chip c: "68 data, 80 parity"
  unfoldable pub kind_on : ℕ → ℕ → ℕ
  kind_on c j = cond (eqb c (parity_chip l j)) parity_kind data_kind

  -- and its member: "member (0 for parity)"
  unfoldable pub member_byte : ℕ → ℕ → ℕ
  member_byte c j = cond (eqb c (parity_chip l j)) 0 (member_on l j c)

  -- the record of stripe j names page p of chip c
  unfoldable pub names : (ℕ → Record) → ℕ → ℕ → ℕ → Bool
  names r c p j = eqb (main_number c j (r j)) p || eqb (side_number c j (r j)) p

  -- some record names it
  unfoldable pub named : (ℕ → Record) → ℕ → ℕ → Bool
  named r c p = some_below S (names r c p)

  -- "named by no record"
  abbrev pub unnamed : (ℕ → Record) → ℕ → ℕ → Bool
  unnamed r c p = not (named r c p)
