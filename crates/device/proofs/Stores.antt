-- One store that is due.
use Prim.Native.Nat.{◌≤◌, ◌<◌}
use mathlib.Core.Path.{◌≡◌}
use mathlib.Core.List.{[], ◌∷◌}
use native.Mathlib.Omega.{arith}
use Rattle.ranges.proofs.Looks.{by_order}
use Rattle.layout.specs.Layout.{Layout}
use Rattle.layout.specs.Images.{Images}
use Rattle.steps.specs.Store.{apply}
use Rattle.steps.specs.Steps.{Step, programs_of, erases_of}
use Rattle.steps.specs.declared.Progress.{Progress}
use Rattle.steps.specs.Allowance.{most_reads, Sane, Ran}
use Rattle.steps.proofs.Allowances.{counting, stopped, ran_stop, ran_one}

-- where the allowance holds it the run has one step more, and where nothing is left it is cut
pub ran_store : (l : Layout) (p r : Progress) (x : Step) (s t : Images) → Sane p → x.reads ≤ most_reads
    → (p.left ≡ 0 → (r ≡ stopped p) × (t ≡ s))
    → (0 < p.left → (t ≡ apply l x.store s) × (r ≡ counting p x.reads (programs_of x.store) (erases_of x.store)))
    → Ran l p (x ∷ []) r s t
ran_store l p r x s t h few none one = by_order 0 p.left
    (λ some. let q = one some in rw q.1 (ran_one l p x s t h some few q.0))
    (λ rest. let e : p.left ≡ 0 = omega arith in let q = none e in rw (q.0, q.1) (ran_stop l p x s h e))
