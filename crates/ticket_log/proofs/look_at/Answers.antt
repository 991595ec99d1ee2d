use native.Mathlib.Omega.{arith}
use mathlib.Core.Path.{refl, sym, ap, ◌∙◌}
use borrow.Author.Tests.{not-true, not-false}
use Rattle.ranges.proofs.Looks.{all_at}
use Rattle.rules.specs.declared.Ticket.{Ticket}
use Rattle.rules.specs.Tickets.{is_empty, ticket_sound}
use Rattle.ticket_log.specs.Walks.{tickets_in}
use Rattle.ticket_log.proofs.Seeing.{seen_none, seen_more, seen_plain}
use Rattle.ticket_log.proofs.look_at.Goals as goal

pub returns-then-all_plain : goal.returns-then-all_plain
returns-then-all_plain c =
    let a = c.args in
    record {
      seen = seen_plain a.page.now a.lot a.bag _ (λ t b. all_at _ _ (sym c.all_plain.ensures ∙ c.if-all_plain.true) t (omega arith));
      few = omega arith;
      next = λ h. absurd (omega arith);
      ends = λ h. absurd (omega arith);
      over = λ h. refl;
    }

pub loop-i-init : goal.loop-i-init
loop-i-init c =
    let a = c.args in
    seen_none (tickets_in a.page.now) a.lot a.bag

pub returns-then-not-is_sound : goal.returns-then-not-is_sound
returns-then-not-is_sound c =
    let is = c.ticket_in-t.ensures in
    record {
      seen = rw c.then_some.ensures c.loop-i.invariant;
      few = omega arith;
      next = λ h. ap ticket_sound (sym is) ∙ sym c.is_sound.ensures ∙ not-true _ c.if-not-is_sound.true-raw;
      ends = λ h. ap (λ (t : Ticket). is_empty t) is;
      over = λ h. absurd (omega arith);
    }

pub loop-i-preserved : goal.loop-i-preserved
loop-i-preserved c =
    let a = c.args in
    rw (c.pick-later.ensures, c.is_for-fits.ensures, c.ticket_in-t.ensures)
    (seen_more (tickets_in a.page.now) a.lot a.bag _ _ c.loop-i.invariant
    (ap ticket_sound (sym c.ticket_in-t.ensures) ∙ sym c.is_sound.ensures ∙ not-false _ c.if-not-is_sound.false-raw))
