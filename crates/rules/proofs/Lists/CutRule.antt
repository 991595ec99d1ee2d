-- "If the list is longer than the allowance it stops there and answers cut with the counts so far; otherwise done. Cut is given in no other case."
use Rattle.std.specs.Prelude.{Result, Ok, Err}
use Rattle.rules.specs.declared.Refusal.{Refusal}
use Prim.Native.Nat.{ℕ, ◌+◌, ◌≤◌, ◌<◌}
use native.Mathlib.Omega.{arith}
use mathlib.Core.Path.{◌≡◌, refl, sym, ap, ◌∙◌}
use mathlib.Core.List.{List}
use lib.ListN.{length}
use lib.Seq.{take_all}
use borrow.Author.Tests.{lt-ltb, le-ltb, ltb-true}
use Rattle.ranges.proofs.Looks.{by_test}
use Rattle.layout.specs.Layout.{Layout}
use Rattle.layout.specs.Images.{Images}
use Rattle.steps.specs.declared.Counts.{Counts}
use Rattle.steps.specs.Steps.{Step, no_counts, made, is_cut, apply_all, reading as pagesRead}
use Rattle.steps.proofs.Totals.{with_totals, counts_are, cut_stores}
use Rattle.rules.specs.Refusals.{Check, checked, buffers_rows, images_rows, read_rows, write_rows, commit_rows, collect_rows, find_rows, add_rows}
use Rattle.rules.specs.declared.Answer.{Answer}
use Rattle.rules.specs.declared.Answer.TheVariants.{Done, Cut}
use Rattle.rules.specs.Read.{fetch}
use Rattle.rules.specs.Open.{open_steps}
use Rattle.rules.specs.Collect.{collect_steps}
use Rattle.rules.specs.Commit.{commit_steps}
use Rattle.rules.specs.Write.{write_steps}
use Rattle.rules.specs.Format.{format_steps}
use Rattle.rules.specs.Log.{standing, log_origin, contents, origins, log_reads, add_steps}
use Rattle.rules.specs.Calls.{Verdict, done, cut, refused, Outcome, run, outcome, read_into, format_call, open_call, read_call, write_call, commit_call, collect_call, add_call, find_call}

-- what tells verdicts and answers apart
abbrev pub verdict_number : Verdict → ℕ
verdict_number done = 0
verdict_number cut = 1
verdict_number refused = 2

abbrev kind_of : Result Answer Refusal → ℕ
kind_of (Ok (Done n)) = 0
kind_of (Ok (Cut n)) = 1
kind_of (Err r) = 2

abbrev stores_cut : Result Answer Refusal → ℕ
stores_cut (Ok (Done n)) = 0
stores_cut (Ok (Cut n)) = n.stores
stores_cut (Err r) = 0

module _ (l : Layout) where
  -- the outcome o of a call on images s with its check, the counts n before its first store, its allowance a and its list xs
  pub record CutRule (check : Check) (n : Counts) (a : ℕ) (xs : List Step) (s : Images) (o : Outcome) : Type 0 where
    -- "all buffers unchanged"
    pub refusing : (r : Refusal) → check ≡ Err r → o ≡ record { answer = Err r; images = s }
    -- "it stops there and answers cut with the counts so far"; "the list's first stores, as many as the allowance, stand whole"
    pub cutting : check ≡ Ok tt → a < length xs → o ≡ record { answer = Ok (Cut (with_totals n (made a xs))); images = apply_all l (made a xs) s }
    -- "otherwise done"
    pub finishing : check ≡ Ok tt → length xs ≤ a → o ≡ record { answer = Ok (Done (with_totals n xs)); images = apply_all l xs s }
    -- "Cut is given in no other case."
    pub only_cut : (k : Counts) → o.answer ≡ Ok (Cut k) → (check ≡ Ok tt) × (a < length xs) × (k.stores ≡ n.stores + a)

  cut_only : (check : Check) (n : Counts) (a : ℕ) (steps : Images → List Step) (s : Images) (k : Counts) → (outcome l check n a steps s).answer ≡ Ok (Cut k)
      → (check ≡ Ok tt) × (a < length (steps s)) × (k.stores ≡ n.stores + a)
  unfolding run
  cut_only (Ok tt) n a steps s k e = by_test (is_cut a (steps s))
      (λ h.
      let less = ltb-true a (length (steps s)) h in
      (refl, less, sym (ap stores_cut (rw h at e)) ∙ cut_stores a (steps s) n less))
      (λ h. absurd (omega (arith, ap kind_of (rw h at e))))
  cut_only (Err r) n a steps s k e = absurd (omega (arith, ap kind_of e))

  outcome_rule : (check : Check) (n : Counts) (a : ℕ) (steps : Images → List Step) (s : Images) → CutRule check n a (steps s) s (outcome l check n a steps s)
  unfolding run
  outcome_rule check n a steps s = record {
    refusing = λ r e. rw e;
    cutting = λ e h. rw (e, lt-ltb a (length (steps s)) h, counts_are (made a (steps s)) n);
    finishing = λ e h. rw (e, le-ltb a (length (steps s)) h, take_all a (steps s) h, counts_are (steps s) n);
    only_cut = cut_only check n a steps s;
  }

  -- the calls that store; and a read and a question, which store nothing
  pub record CutRules : Type 0 where
    pub format : (s : Images) (a : ℕ) → CutRule (checked (buffers_rows l s)) no_counts a (format_steps l) s (format_call l s a)
    pub open_call_lem : (s : Images) (lost a : ℕ) → CutRule (checked (images_rows l s lost)) no_counts a (open_steps l lost s) s (open_call l s lost a)
    pub write : (s : Images) (lost page : ℕ) (xs : List ℕ) (a : ℕ)
        → CutRule (checked (write_rows l s lost page xs)) no_counts a (write_steps l page xs s) s (write_call l s lost page xs a)
    pub commit : (s : Images) (lost j a : ℕ) → CutRule (checked (commit_rows l s lost j)) no_counts a (commit_steps l j s) s (commit_call l s lost j a)
    pub collect : (s : Images) (lost c a : ℕ) → CutRule (checked (collect_rows l s lost c)) no_counts a (collect_steps l c s) s (collect_call l s lost c a)
    -- the counts begin with the log's reads, "even when cut"
    pub add : (s : Images) (lost : ℕ) (ticket : List ℕ) (a : ℕ)
        → CutRule (checked (add_rows l s lost ticket)) (pagesRead (log_reads l s lost)) a (add_steps l lost ticket s) s (add_call l s lost ticket a)
    pub read_refusing : (s : Images) (lost page : ℕ) (buffer : List ℕ) (r : Refusal) → checked (read_rows l s lost page buffer) ≡ Err r
        → read_call l s lost page buffer ≡ record { answer = Err r; buffer = buffer }
    pub reading : (s : Images) (lost page : ℕ) (buffer : List ℕ) → checked (read_rows l s lost page buffer) ≡ Ok tt
        → read_call l s lost page buffer ≡ read_into (fetch l s lost page)
    pub find_refusing : (s : Images) (lost lot bag : ℕ) (r : Refusal) → checked (find_rows l s lost) ≡ Err r → find_call l s lost lot bag ≡ Err r
    pub finding : (s : Images) (lost lot bag : ℕ) → checked (find_rows l s lost) ≡ Ok tt
        → find_call l s lost lot bag
        ≡ Ok (record { counts = pagesRead (log_reads l s lost); standing = standing l (contents l s lost) lot bag; origin = log_origin l (contents l s lost) (origins l s lost) lot bag })

  pub cut_rules : CutRules
  unfolding format_call open_call write_call commit_call collect_call add_call read_call find_call
  cut_rules = record {
    format = λ s a. outcome_rule (checked (buffers_rows l s)) no_counts a (λ t. format_steps l) s;
    open_call_lem = λ s lost a. outcome_rule (checked (images_rows l s lost)) no_counts a (open_steps l lost) s;
    write = λ s lost page xs a. outcome_rule (checked (write_rows l s lost page xs)) no_counts a (write_steps l page xs) s;
    commit = λ s lost j a. outcome_rule (checked (commit_rows l s lost j)) no_counts a (commit_steps l j) s;
    collect = λ s lost c a. outcome_rule (checked (collect_rows l s lost c)) no_counts a (collect_steps l c) s;
    add = λ s lost ticket a. outcome_rule (checked (add_rows l s lost ticket)) (pagesRead (log_reads l s lost)) a (add_steps l lost ticket) s;
    read_refusing = λ s lost page buffer r e. rw e;
    reading = λ s lost page buffer e. rw e;
    find_refusing = λ s lost lot bag r e. rw e;
    finding = λ s lost lot bag e. rw e;
  }
