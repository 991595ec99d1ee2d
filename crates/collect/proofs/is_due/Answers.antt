-- A page is due where it is the twin of a place of the victim whose page is named. Every named page of the chip is rightly stamped, so
-- `named_at` says whether a record names a page.
use Prim.Native.Nat.{◌<◌}
use native.Mathlib.Omega.{arith}
use mathlib.Core.Path.{sym, ◌∙◌}
use Rattle.octets.proofs.Units.{apart}
use Rattle.layout.specs.Layout.{layout_of}
use Rattle.names.proofs.Statements.{stamps_pass}
use Rattle.spares.proofs.Twins.{twin_there}
use Rattle.collect.proofs.Dues.{block_small, not_due, due_where_named}
use Rattle.collect.proofs.is_due.Goals as goal
use Rattle.collect.proofs.is_due.Goals.{In-Some}

-- what is found is a place
low : (c : In-Some) → c.in-Some.i < c.args.g.k
low c = (twin_there _ _ _ _ _ _ _ (sym c.twin_place.ensures ∙ c.in-Some.is)).0

pub twin_place-requires : goal.twin_place-requires
twin_place-requires c =
    let a = c.args in
    (stamps_pass a.g a.chips.now a.records.now c.requires.0 a.co.chip c.requires.2, c.requires.3, c.requires.4)

pub overflow_mul-first : goal.overflow_mul-first
overflow_mul-first c = omega (arith, block_small c.args.g c.requires.0.chips_fit.limited c.requires.3)

pub overflow_add-first : goal.overflow_add-first
overflow_add-first c = omega (arith, low (goal.at.overflow_add-first c).In-Some, block_small c.args.g c.requires.0.chips_fit.limited c.requires.3)

pub named_at-requires : goal.named_at-requires
named_at-requires c =
    let a = c.args in (
      stamps_pass a.g a.chips.now a.records.now c.requires.0 a.co.chip c.requires.2,
      omega (arith, low (goal.at.named_at-requires c).In-Some, apart a.g.k a.co.victim a.g.b c.requires.3),
    )

pub returns-in-Some : goal.returns-in-Some
returns-in-Some c =
    c.named_at.ensures
    ∙ due_where_named (layout_of c.args.g) _ _ _ c.args.q c.requires.1.chip c.requires.1.victim _ (sym c.twin_place.ensures ∙ c.in-Some.is)

pub returns-in-None : goal.returns-in-None
returns-in-None c = not_due _ _ _ _ _ c.requires.1.chip c.requires.1.victim (sym c.twin_place.ensures ∙ c.in-None.is)
