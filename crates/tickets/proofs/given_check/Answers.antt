-- A row after another; bytes of the right length are one ticket.
use native.Mathlib.Omega.{arith}
use mathlib.Core.Path.{◌≡◌, refl, sym, ap, ◌∙◌}
use mathlib.Core.List.{List}
use Prim.Native.Nat.{ℕ}
use borrow.Author.Tests.{eqb-true}
use lib.ListN.{length}
use Rattle.octets.specs.Units.{unit}
use Rattle.octets.proofs.Units.{part_whole}
use Rattle.rules.specs.Tickets.{ticket_bytes, ticket_of, ticket_sound}
use Rattle.looks.proofs.Passing.{turned_back, row_refused, row_passed, test_passed}
use Rattle.tickets.proofs.given_check.Goals as goal

-- they are its first unit
first-unit : (xs : List ℕ) → length xs ≡ ticket_bytes → unit ticket_bytes 0 xs ≡ xs
unfolding unit
first-unit xs h = part_whole 16 xs h

pub returns-in_err-require : goal.returns-in_err-require
returns-in_err-require c = turned_back _ c.from_residual.ensures.1 ∙ sym (row_refused _ _ c.require.ensures refl c.in_err-require.was)

pub returns-in_err-require-2 : goal.returns-in_err-require-2
returns-in_err-require-2 c =
    turned_back _ c.from_residual-in_err-require-2.ensures.1
    ∙ sym (row_passed _ _ c.require.ensures refl c.in_ok-require.was ∙ row_refused _ _ c.require-2.ensures refl c.in_err-require-2.was)

pub ticket_in-requires : goal.ticket_in-requires
ticket_in-requires c =
    let long = eqb-true _ _ (test_passed _ c.require.ensures refl c.in_ok-require.was) in
    omega (arith, long)

pub returns : goal.returns
returns c =
    let long = eqb-true _ _ (test_passed _ c.require.ensures refl c.in_ok-require.was) in
    let sound = c.is_sound.ensures ∙ ap ticket_sound (c.ticket_in.ensures ∙ ap ticket_of (first-unit c.args.ticket.now long)) in
    rw (c.require-3.ensures, sound)
    (sym (row_passed _ _ c.require.ensures refl c.in_ok-require.was ∙ row_passed _ _ c.require-2.ensures refl c.in_ok-require-2.was))
