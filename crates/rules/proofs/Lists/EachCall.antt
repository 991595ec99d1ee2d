-- The list of each call that is not refused: what every prefix of it keeps.
use Prim.Native.Nat.{ℕ}
use mathlib.Core.Path.{◌≡◌, ap, ◌∙◌}
use mathlib.Core.Logic.{◌≢◌}
use mathlib.Core.List.{List, []}
use lib.ListN.{length}
use lib.Seq.{take_all}
use lib.Dec.{eqb}
use borrow.Author.Tests.{ne_eqb}
use Rattle.std.specs.Prelude.{Some, Ok}
use Rattle.ranges.specs.Look.{when_found}
use Rattle.ranges.proofs.Looks.{by_test, by_order}
use Rattle.layout.specs.Layout.{Layout, no_chip}
use Rattle.layout.specs.Rotation.{stripe_of}
use Rattle.layout.specs.Images.{Images}
use Rattle.steps.specs.Steps.{Step, made, apply_all}
use Rattle.steps.proofs.Prefixes.{Every, every_nil, Closes, closes_leads, closes_weaken}
use Rattle.rules.specs.Open.{finish_steps, open_steps}
use Rattle.rules.specs.Collect.{collect_steps}
use Rattle.rules.specs.Commit.{commit_steps}
use Rattle.rules.specs.Write.{write_steps}
use Rattle.rules.specs.Log.{falls_in, log_end, with_ticket, contents, add_steps}
use Rattle.rules.specs.Refusals.{checked, add_rows}
use Rattle.rules.proofs.Soundness.Statements.{Usable, Sound}
use Rattle.rules.proofs.Soundness.Accepted.{WriteAccepted, CommitAccepted, CollectAccepted, add_accepted}
use Rattle.rules.proofs.Stores.Kept.{Kept}
use Rattle.rules.proofs.Data.Carries.{Carries, Wrote, carries_refl, kept_carries}
use Rattle.rules.proofs.Data.Log.{end_fits, page_fits, with_whole, contents_whole}
use Rattle.rules.proofs.Lists.Finish.{finish_leads}
use Rattle.rules.proofs.Lists.Collecting.{collect_leads}
use Rattle.rules.proofs.Lists.Committing.{StoresRecord, Committed, commit_closes}
use Rattle.rules.proofs.Lists.Writing.{write_closes}

-- "with a chip lost, no store"
pub open_lost : (l : Layout) (s : Images) (lost : ℕ) → lost ≢ no_chip → open_steps l lost s ≡ []
unfolding open_steps
open_lost l s lost d = rw (ne_eqb lost no_chip d)

-- an addition that passes its rows, with a log that ends at t, is the write of the page that t falls in
pub add_writes : (l : Layout) (s : Images) (lost : ℕ) (ticket : List ℕ) → checked (add_rows l s lost ticket) ≡ Ok tt
    → (t : ℕ) → log_end l (contents l s lost) ≡ Some t → WriteAccepted l s (falls_in l t) (with_ticket l (contents l s lost) ticket t)
add_writes l s lost ticket passed t end =
    let (none_lost, o) = add_accepted l s lost ticket passed in
    let w = o.settled.within in
    let page = page_fits l w t (end_fits l (contents l s lost) t end) in
    record {
      settled = o.settled;
      page = page;
      whole = rw none_lost (with_whole l w (contents l s no_chip) ticket t (contents_whole l w s o.settled.sound (falls_in l t) page) o.whole);
    }

module _ (l : Layout) (u : Usable l) (s : Images) where
  -- what keeps all, carries all
  all_carried : (xs : List Step) → Every l (Kept l s) xs s → Every l (Carries l s) xs s
  all_carried xs h k = kept_carries l u s (apply_all l (made k xs) s) (h k)

  pub open_every : Sound l s → (lost : ℕ) → Every l (Carries l s) (open_steps l lost s) s
  unfolding open_steps
  open_every f lost = by_test (eqb lost no_chip)
      (λ e. rw e (all_carried (finish_steps l s) (finish_leads l u s f).along))
      (λ e. rw e (every_nil l (Carries l s) s (carries_refl l s f)))

  pub collect_every : (c : ℕ) → CollectAccepted l s c → Every l (Carries l s) (collect_steps l c s) s
  collect_every c o =
      let (v, victim) = o.victim in
      all_carried (collect_steps l c s) (collect_leads l u s o.settled.sound o.settled.at_rest c o.chip v victim).along

  pub commit_every : (j : ℕ) → CommitAccepted l s j → Every l (Carries l s) (commit_steps l j s) s
  commit_every j o =
      (closes_leads l (Carries l) (Committed l j) (StoresRecord j) (Carries l s) (commit_steps l j s) s
      (closes_weaken l (Kept l) (Carries l) (Committed l j) (StoresRecord j) (commit_steps l j s) s (kept_carries l u s)
      (commit_closes l u j o.stripe s o.settled.sound o.settled.at_rest o.slot))
      (λ t h. h.carries)
      (λ t h. h.carries)
      ).along

  -- a write, up to its last store and with it
  pub write_ends : (page : ℕ) (xs : List ℕ) → WriteAccepted l s page xs → Closes l (Carries l) (Wrote l page xs) (StoresRecord (stripe_of l page)) (write_steps l page xs s) s
  write_ends page xs o = write_closes l u page o.page xs o.whole s o.settled.sound o.settled.at_rest

  -- a list that ends so leaves sound images, wherever it is cut
  ends_sound : (page : ℕ) (xs : List ℕ) (L : Step → Type 0) (list : List Step) → Closes l (Carries l) (Wrote l page xs) L list s → Every l (Sound l) list s
  ends_sound page xs L list h k = by_order k (length list)
      (λ less. (h.cut k less).sound)
      (λ more. rw (take_all k list more) h.whole.sound)

  pub write_every : (page : ℕ) (xs : List ℕ) → WriteAccepted l s page xs → Every l (Sound l) (write_steps l page xs s) s
  write_every page xs o = ends_sound page xs (StoresRecord (stripe_of l page)) (write_steps l page xs s) (write_ends page xs o)

  -- an addition, up to its last store and with it
  module _ (lost : ℕ) (ticket : List ℕ) where
    pub add_ends : checked (add_rows l s lost ticket) ≡ Ok tt → (t : ℕ) → log_end l (contents l s lost) ≡ Some t
        → Closes l (Carries l) (Wrote l (falls_in l t) (with_ticket l (contents l s lost) ticket t)) (StoresRecord (stripe_of l (falls_in l t))) (add_steps l lost ticket s) s
    unfolding add_steps when_found
    add_ends passed t end = rw end (write_ends (falls_in l t) (with_ticket l (contents l s lost) ticket t) (add_writes l s lost ticket passed t end))

    pub add_every : checked (add_rows l s lost ticket) ≡ Ok tt → Every l (Sound l) (add_steps l lost ticket s) s
    add_every passed =
        let (none_lost, o) = add_accepted l s lost ticket passed in
        let (t, end) = o.end in
        ends_sound (falls_in l t) (with_ticket l (contents l s lost) ticket t) (StoresRecord (stripe_of l (falls_in l t))) (add_steps l lost ticket s)
        (add_ends passed t (ap (λ c. log_end l (contents l s c)) none_lost ∙ end))
