-- The answer of a call whose code has run its list.
use Rattle.std.specs.Prelude.{Result, Ok, Err}
use Rattle.rules.specs.declared.Refusal.{Refusal}
use Prim.Native.Nat.{ℕ, ◌^◌, ◌≤◌, min}
use native.Mathlib.Nat.{min-eq_left, min-eq_right, le_of_lt}
use native.Mathlib.Omega.{arith}
use mathlib.Core.Path.{◌≡◌}
use mathlib.Core.Bool.{cond}
use mathlib.Core.List.{List}
use lib.ListN.{length}
use lib.Seq.{take_all}
use borrow.Author.Tests.{le-ltb}
use Rattle.ranges.proofs.Looks.{by_order}
use Rattle.layout.specs.Layout.{Layout}
use Rattle.layout.specs.Images.{Images}
use Rattle.steps.specs.declared.Counts.{Counts}
use Rattle.steps.specs.declared.Progress.{Progress}
use Rattle.steps.specs.Steps.{Step, made, is_cut}
use Rattle.steps.specs.Allowance.{started, after, applied, Ran}
use Rattle.rules.specs.declared.Answer.{Answer}
use Rattle.rules.specs.declared.Answer.TheVariants.{Cut, Done}
use Rattle.rules.specs.Refusals.{Row, checked}
use Rattle.rules.specs.Calls.{Outcome, run, outcome}

-- the answer of a call under way that has come to its end
abbrev pub answer_of : Progress → Answer
answer_of p = cond p.cut (Cut p.counts) (Done p.counts)

-- an allowance that is not less than a list is long is as good as any other
module _ (a most : ℕ) (xs : List Step) (short : length xs ≤ most) where
  made_enough : made (min a most) xs ≡ made a xs
  made_enough = by_order a most (λ h. rw (min-eq_left (le_of_lt h))) (λ h. rw (min-eq_right h, take_all most xs short, take_all a xs (omega arith)))

  cut_enough : is_cut (min a most) xs ≡ is_cut a xs
  cut_enough =
      by_order a most (λ h. rw (min-eq_left (le_of_lt h))) (λ h. rw (min-eq_right h, le-ltb most (length xs) short, le-ltb a (length xs) (omega arith)))

-- what the code answers, having run the list under the allowance or as much of it as any list needs
pub ran_outcome : (l : Layout) (n : Counts) (a most : ℕ) (xs : List Step) (r : Progress) (s t : Images) → length xs ≤ most → Ran l (started n (min a most)) xs r s t
    → ◌≡◌ {A = Outcome} (record { answer = Ok (answer_of r); images = t }) (run l n a xs s)
unfolding run after applied
ran_outcome l n a most xs r s t short h = rw (h.progress, h.images, made_enough a most xs short, cut_enough a most xs short)

module _ (l : Layout) (n : Counts) (s : Images) (a : ℕ) (steps : Images → List Step) (rows : List Row) where
  -- a call whose rows come to a refusal
  pub call_refused : (r : Refusal) → checked rows ≡ Err r
      → ◌≡◌ {A = Outcome} (record { answer = Err r; images = s }) (outcome l (checked rows) n a steps s)
  call_refused r e = rw e

  -- one whose rows pass, and whose list the code has run: no list is as long as the most that the code counts down from
  pub call_ran : (xs : List Step) {p q : Progress} {t : Images} → checked rows ≡ Ok tt → steps s ≡ xs → length xs ≤ 2 ^ 59
      → p ≡ started n (min a (2 ^ 59)) → Ran l p xs q s t
      → ◌≡◌ {A = Outcome} (record { answer = Ok (answer_of q); images = t }) (outcome l (checked rows) n a steps s)
  call_ran xs {q = q} {t = t} e list short begun h = rw (e, list) (ran_outcome l n a (2 ^ 59) xs q s t short (rw begun at h))
