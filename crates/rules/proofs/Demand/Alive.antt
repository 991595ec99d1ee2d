-- One call with every chip in place: whatever it is answered, images and book still agree.
use Prim.Native.Nat.{ℕ}
use mathlib.Core.Path.{◌≡◌, refl, ◌∙◌}
use mathlib.Core.Bool.{Bool, true}
use mathlib.Core.List.{List}
use lib.ListN.{length}
use lib.Seq.{take_all}
use borrow.Author.Tests.{ltb-true, ltb-false}
use Rattle.ranges.specs.Look.{when_found}
use Rattle.ranges.proofs.Looks.{by_test, by_found}
use Rattle.layout.specs.Layout.{Layout}
use Rattle.layout.specs.Rotation.{stripe_of}
use Rattle.layout.specs.Images.{Images}
use Rattle.steps.specs.declared.Counts.{Counts}
use Rattle.steps.specs.Steps.{Step, no_counts, is_cut, reading}
use Rattle.steps.proofs.Prefixes.{Every, every_nil, Closes}
use Rattle.rules.specs.Refusals.{Check, checked, images_rows, write_rows, commit_rows, collect_rows, add_rows}
use Rattle.std.specs.Prelude.{Ok, Err}
use Rattle.rules.specs.Open.{open_steps}
use Rattle.rules.specs.Collect.{collect_steps}
use Rattle.rules.specs.Commit.{commit_steps}
use Rattle.rules.specs.Write.{write_steps}
use Rattle.rules.specs.Log.{falls_in, log_end, with_ticket, contents, log_reads, add_steps}
use Rattle.rules.specs.Calls.{run, outcome, open_call, write_call, commit_call, collect_call, add_call, Call, open_call_lem, write_call_lem, commit_call_lem, collect_call_lem, add_call_lem, query_call, verdict, ended}
use Rattle.rules.specs.Book.{Book, completed, writes, booked, noted}
use Rattle.rules.specs.Demand.{World, called}
use Rattle.rules.proofs.Soundness.Statements.{Usable}
use Rattle.rules.proofs.Soundness.Accepted.{write_accepted, commit_accepted, collect_accepted, add_accepted}
use Rattle.rules.proofs.Data.Carries.{Carries, Wrote, carries_refl}
use Rattle.rules.proofs.Data.Log.{SamePages, end_fits, with_same, end_same}
use Rattle.rules.proofs.Lists.Committing.{StoresRecord}
use Rattle.rules.proofs.Lists.EachCall.{open_every, collect_every, commit_every, write_ends, add_ends}
use Rattle.rules.proofs.Demand.Invariant.{Inv, carries_inv, wrote_inv}

module _ (l : Layout) where
  -- a call whose list carries what the images hold changes nothing that the book knows
  outcome_inv : (check : Check) (n : Counts) (a : ℕ) (steps : Images → List Step) (s : Images) {book : Book} {written : ℕ → Bool} → Inv l s book written
      → (check ≡ Ok tt → Every l (Carries l s) (steps s) s) → Inv l (outcome l check n a steps s).images book written
  unfolding run
  outcome_inv (Ok tt) n a steps s f h = carries_inv l (h refl a) f
  outcome_inv (Err r) n a steps s f h = f

  -- a call that rewrites a page changes it where it is done, and nothing where it is cut or refused
  write_inv : (L : Step → Type 0) (check : Check) (n : Counts) (a page : ℕ) (xs : List ℕ) (steps : Images → List Step) (s : Images) {book : Book} {written : ℕ → Bool} → Inv l s book written
      → (check ≡ Ok tt → Closes l (Carries l) (Wrote l page xs) L (steps s) s)
      → Inv l (outcome l check n a steps s).images (completed page xs (verdict (outcome l check n a steps s).answer) book)
      (completed page true (verdict (outcome l check n a steps s).answer) written)
  unfolding run completed
  write_inv L (Ok tt) n a page xs steps s f h = by_test (is_cut a (steps s))
      (λ e. rw e (carries_inv l ((h refl).cut a (ltb-true a (length (steps s)) e)) f))
      (λ e. rw (e, take_all a (steps s) (ltb-false a (length (steps s)) e)) (wrote_inv l page xs (h refl).whole f))
  write_inv L (Err r) n a page xs steps s f h = f

  -- the log that an addition finds is the book's
  module _ (u : Usable l) (lost : ℕ) (ticket : List ℕ) (s : Images) (book : Book) (written : ℕ → Bool) (f : Inv l s book written) where
    book_read : checked (add_rows l s lost ticket) ≡ Ok tt → SamePages l (contents l s lost) book
    book_read passed = let (none_lost, _) = add_accepted l s lost ticket passed in rw none_lost f.reads

    book_end : checked (add_rows l s lost ticket) ≡ Ok tt → log_end l (contents l s lost) ≡ log_end l book
    book_end passed = end_same l u.within (contents l s lost) book (book_read passed)

    add_inv : (a : ℕ) → Inv l (add_call l s lost ticket a).images (booked l (add_call_lem lost ticket a) (verdict (add_call l s lost ticket a).answer) book)
        (noted l (add_call_lem lost ticket a) (verdict (add_call l s lost ticket a).answer) book written)
    unfolding writes booked noted add_call add_steps when_found
    add_inv a = by_found (log_end l book)
        (λ t end.
        rw end
        (write_inv (StoresRecord (stripe_of l (falls_in l t))) (checked (add_rows l s lost ticket)) (reading (log_reads l s lost)) a (falls_in l t) (with_ticket l book ticket t) (add_steps l lost ticket) s f
        (λ passed.
        rw (with_same l u.within (contents l s lost) book (book_read passed) ticket t (end_fits l book t end)) at
        (add_ends l u s lost ticket passed t (book_end passed ∙ end)))))
        (λ end.
        rw end
        (outcome_inv (checked (add_rows l s lost ticket)) (reading (log_reads l s lost)) a (add_steps l lost ticket) s f
        (λ passed. rw (book_end passed ∙ end) (every_nil l (Carries l s) s (carries_refl l s f.sound)))))

  pub call_inv : Usable l → (call : Call) (x : World) → Inv l x.images x.book x.written
      → Inv l (called l call x).images (called l call x).book (called l call x).written
  unfolding called ended writes booked noted open_call write_call commit_call collect_call
  call_inv u (open_call_lem lost a) x f =
      outcome_inv (checked (images_rows l x.images lost)) no_counts a (open_steps l lost) x.images f (λ passed. open_every l u x.images f.sound lost)
  call_inv u (write_call_lem lost page xs a) x f =
      write_inv (StoresRecord (stripe_of l page)) (checked (write_rows l x.images lost page xs)) no_counts a page xs (write_steps l page xs) x.images f
      (λ passed. write_ends l u x.images page xs (write_accepted l x.images lost page xs passed).1)
  call_inv u (commit_call_lem lost j a) x f =
      outcome_inv (checked (commit_rows l x.images lost j)) no_counts a (commit_steps l j) x.images f
      (λ passed. commit_every l u x.images j (commit_accepted l x.images lost j passed).1)
  call_inv u (collect_call_lem lost c a) x f =
      outcome_inv (checked (collect_rows l x.images lost c)) no_counts a (collect_steps l c) x.images f
      (λ passed. collect_every l u x.images c (collect_accepted l x.images lost c passed).1)
  call_inv u (add_call_lem lost ticket a) x f = add_inv u lost ticket x.images x.book x.written f a
  call_inv u (query_call q) x f = f
