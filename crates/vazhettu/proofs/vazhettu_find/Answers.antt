-- The report of the call's answer.
use Rattle.std.specs.Prelude.{Result}
use Rattle.rules.specs.declared.Refusal.{Refusal}
use mathlib.Core.Path.{ap, ◌∙◌}
use Rattle.rules.specs.declared.Finding.{Finding}
use Rattle.answers.specs.Reports.{find_reported}
use Rattle.vazhettu.proofs.vazhettu_find.Goals as goal

pub returns : goal.returns
returns c = c.from.ensures ∙ ap (λ (x : Result Finding Refusal). find_reported x) c.find.ensures
