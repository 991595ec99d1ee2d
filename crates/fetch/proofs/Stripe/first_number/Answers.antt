-- Each match is the definition's.
use mathlib.Core.Path.{◌∙◌}
use mathlib.Core.Logic.{inl, inr}
use Rattle.layout.specs.Layout.{layout_of, none}
use Rattle.layout.specs.Record.{record_at}
use Rattle.fetch.proofs.Others.{number_parity}
use Rattle.fetch.proofs.Stripe.first_number.Goals as goal

pub returns-in-Current : goal.returns-in-Current
returns-in-Current c =
    let s = c.args.self.now in
    let number = c.number_in.ensures.0 ∙ number_parity (record_at (layout_of s.view.g) s.view.records.now s.j) in
    elim c.in-Current.is [ inl (m, e) ↦ rw e number | inr (m, e) ↦ rw e number ]

pub returns-in-Parity : goal.returns-in-Parity
unfolding none
returns-in-Parity c = rw c.in-Parity.is
