-- After i turns the pages of the first i members are in: each turn adds the page of the next one as it stands.
use Rattle.layout.specs.Layout.{layout_of}
use Rattle.layout.specs.Record.{record_at}
use Rattle.fetch.specs.Into.{others}
use Rattle.fetch.proofs.Pages.{Gathered}
use Rattle.fetch.proofs.Stripe.gather.Given as goal

abbrev pub invariant-loop-i : goal.invariant-loop-i
invariant-loop-i l =
    let s = l.fn.self in
    Gathered s.view.g s.view.chips.now s.j (others (layout_of s.view.g) l.inside l.m (record_at (layout_of s.view.g) s.view.records.now s.j)) l.initial.work l.i l.work l.reads
