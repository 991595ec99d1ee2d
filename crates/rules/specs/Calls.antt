-- Document 01, "The calls, store by store": the outcome of each call, its answer and every byte of the images.
use Rattle.std.specs.Prelude.{Result, ℕ, cond, List, Ok, Err, Option, None}
use Rattle.rules.specs.declared.Refusal.{Refusal}
use Rattle.layout.specs.Layout.{Layout}
use Rattle.layout.specs.Images.{Images}
use Rattle.steps.specs.declared.Counts.{Counts}
use Rattle.steps.specs.Steps.{Step, made, is_cut, no_counts, reading, counted_all, apply_all}
use Rattle.rules.specs.Refusals.{Check, Row, refusal_number, checked, buffers_rows, images_rows, read_rows, write_rows, commit_rows, collect_rows, find_rows, add_rows}
use Rattle.rules.specs.declared.Answer.{Answer}
use Rattle.rules.specs.declared.Answer.TheVariants.{Done, Cut}
use Rattle.rules.specs.declared.Reading.{Reading}
use Rattle.rules.specs.declared.Weight.{Weight}
use Rattle.rules.specs.declared.Finding.{Finding}
use Rattle.rules.specs.Open.{open_steps}
use Rattle.rules.specs.Collect.{collect_steps}
use Rattle.rules.specs.Commit.{commit_steps}
use Rattle.rules.specs.Write.{write_steps}
use Rattle.rules.specs.Fetch.{Fetched}
use Rattle.rules.specs.Read.{fetch}
use Rattle.rules.specs.Origins.{origin_number}
use Rattle.rules.specs.Format.{format_steps}
use Rattle.rules.specs.Log.{contents, origins, log_reads, standing, log_origin, add_steps}

-- the answer of a call that stores, and every byte of the images after it
pub record Outcome : Type 0 where
  pub answer : Result Answer Refusal
  pub images : Images

-- the answer of a read, and its buffer; it changes no image
pub record ReadOutcome : Type 0 where
  pub answer : Result Reading Refusal
  pub buffer : List ℕ

-- The number of an answer: 0 for done, 255 for cut, and a refusal's own of the table.
abbrev pub status_of : Result Answer Refusal → ℕ
status_of (Ok (Done n)) = 0
status_of (Ok (Cut n)) = 255
status_of (Err r) = refusal_number r

-- its counts; of a refusal, "counts zero"
abbrev pub counts_of : Result Answer Refusal → Counts
counts_of (Ok (Done n)) = n
counts_of (Ok (Cut n)) = n
counts_of (Err r) = no_counts

-- the same of a read
abbrev pub read_status_of : Result Reading Refusal → ℕ
read_status_of (Ok x) = 0
read_status_of (Err r) = refusal_number r

-- the same of a read
abbrev pub read_counts_of : Result Reading Refusal → Counts
read_counts_of (Ok x) = x.counts
read_counts_of (Err r) = no_counts

-- the number of how its page was got; of a refusal 0
abbrev pub read_origin_of : Result Reading Refusal → ℕ
read_origin_of (Ok x) = origin_number x.origin
read_origin_of (Err r) = 0

-- the same of a question
abbrev pub find_status_of : Result Finding Refusal → ℕ
find_status_of (Ok x) = 0
find_status_of (Err r) = refusal_number r

-- the same of a question
abbrev pub find_counts_of : Result Finding Refusal → Counts
find_counts_of (Ok x) = x.counts
find_counts_of (Err r) = no_counts

-- what it gives; of a refusal nothing
abbrev pub find_standing_of : Result Finding Refusal → Option Weight
find_standing_of (Ok x) = x.standing
find_standing_of (Err r) = None

-- the number of how it was got, as of a read
abbrev pub find_origin_of : Result Finding Refusal → ℕ
find_origin_of (Ok x) = origin_number x.origin
find_origin_of (Err r) = 0

-- a read that is done: the pages read, how its page was got, and what they gave
abbrev pub read_into : Fetched → ReadOutcome
read_into x = record { answer = Ok (record { counts = reading x.reads; origin = x.origin }); buffer = x.bytes }

module _ (l : Layout) where
  -- "If the list is longer than the allowance it stops there and answers cut with the counts so far; otherwise done."
  -- The counts begin from those of what the call did before its first store.
  unfoldable pub run : Counts → ℕ → List Step → Images → Outcome
  run before allowance xs s =
      record {
        answer =
            Ok
            (cond (is_cut allowance xs)
            (Cut (counted_all (made allowance xs) before))
            (Done (counted_all (made allowance xs) before)));
        images = apply_all l (made allowance xs) s;
      }

  -- a call that passed its checks makes its list; "the first that applies is returned, counts zero, all buffers unchanged"
  abbrev pub outcome : Check → Counts → ℕ → (Images → List Step) → Images → Outcome
  outcome (Ok tt) before allowance steps s = run before allowance (steps s) s
  outcome (Err r) before allowance steps s = record { answer = Err r; images = s }

  -- format: images, allowance
  unfoldable pub format_call : Images → ℕ → Outcome
  format_call s allowance = outcome (checked (buffers_rows l s)) no_counts allowance (λ t. format_steps l) s

  -- open: images, lost chip, allowance
  unfoldable pub open_call : Images → ℕ → ℕ → Outcome
  open_call s lost allowance = outcome (checked (images_rows l s lost)) no_counts allowance (open_steps l lost) s

  -- write: images, lost chip, page, data, allowance
  unfoldable pub write_call : Images → ℕ → ℕ → List ℕ → ℕ → Outcome
  write_call s lost page xs allowance =
      outcome (checked (write_rows l s lost page xs)) no_counts allowance (write_steps l page xs) s

  -- commit: images, lost chip, stripe, allowance
  unfoldable pub commit_call : Images → ℕ → ℕ → ℕ → Outcome
  commit_call s lost j allowance = outcome (checked (commit_rows l s lost j)) no_counts allowance (commit_steps l j) s

  -- collect: images, lost chip, chip, allowance
  unfoldable pub collect_call : Images → ℕ → ℕ → ℕ → Outcome
  collect_call s lost c allowance = outcome (checked (collect_rows l s lost c)) no_counts allowance (collect_steps l c) s

  -- a read refused leaves its buffer
  abbrev pub read_outcome : Check → Images → ℕ → ℕ → List ℕ → ReadOutcome
  read_outcome (Ok tt) s lost page buffer = read_into (fetch l s lost page)
  read_outcome (Err r) s lost page buffer = record { answer = Err r; buffer = buffer }

  -- read: images, lost chip, page, buffer
  unfoldable pub read_call : Images → ℕ → ℕ → List ℕ → ReadOutcome
  read_call s lost page buffer = read_outcome (checked (read_rows l s lost page buffer)) s lost page buffer

  -- add: images, lost chip, ticket, allowance; it "counts the log's reads .., even when cut, and the write's"
  unfoldable pub add_call : Images → ℕ → List ℕ → ℕ → Outcome
  add_call s lost ticket allowance =
      outcome (checked (add_rows l s lost ticket)) (reading (log_reads l s lost)) allowance (add_steps l lost ticket) s

  -- a question is answered from the log
  abbrev pub find_outcome : Check → Images → ℕ → ℕ → ℕ → Result Finding Refusal
  find_outcome (Ok tt) s lost lot bag =
      Ok
      (record {
        counts = reading (log_reads l s lost);
        standing = standing l (contents l s lost) lot bag;
        origin = log_origin l (contents l s lost) (origins l s lost) lot bag;
      })
  find_outcome (Err r) s lost lot bag = Err r

  -- find: images, lost chip, lot, bag; it changes no byte
  unfoldable pub find_call : Images → ℕ → ℕ → ℕ → Result Finding Refusal
  find_call s lost lot bag = find_outcome (checked (find_rows l s lost)) s lost lot bag

-- A call that only reads, with "each call's arguments but the images".
pub data Query : Type 0 where
  -- lost chip, page, buffer
  read_call_lem : ℕ → ℕ → List ℕ → Query
  -- lost chip, lot, bag
  find_call_lem : ℕ → ℕ → ℕ → Query

-- A call on the images of a store, with the same.
pub data Call : Type 0 where
  -- lost chip, allowance
  open_call_lem : ℕ → ℕ → Call
  -- lost chip, page, data, allowance
  write_call_lem : ℕ → ℕ → List ℕ → ℕ → Call
  -- lost chip, stripe, allowance
  commit_call_lem : ℕ → ℕ → ℕ → Call
  -- lost chip, chip, allowance
  collect_call_lem : ℕ → ℕ → ℕ → Call
  -- lost chip, ticket, allowance
  add_call_lem : ℕ → List ℕ → ℕ → Call
  query_call : Query → Call

-- the chip that a query names as lost
abbrev pub query_lost : Query → ℕ
query_lost (read_call_lem lost page buffer) = lost
query_lost (find_call_lem lost lot bag) = lost

-- the chip that a call names as lost
abbrev pub lost_chip : Call → ℕ
lost_chip (open_call_lem lost a) = lost
lost_chip (write_call_lem lost page xs a) = lost
lost_chip (commit_call_lem lost j a) = lost
lost_chip (collect_call_lem lost c a) = lost
lost_chip (add_call_lem lost ticket a) = lost
lost_chip (query_call q) = query_lost q

-- "whether the call was answered done, cut or refused"
pub data Verdict : Type 0 where
  done cut refused : Verdict

-- of a call that stores
abbrev pub verdict : Result Answer Refusal → Verdict
verdict (Ok (Done n)) = done
verdict (Ok (Cut n)) = cut
verdict (Err r) = refused

-- of a query, which is never cut: what its rows come to
abbrev pub query_verdict : Check → Verdict
query_verdict (Ok tt) = done
query_verdict (Err r) = refused

-- what is seen of a call from outside: its verdict, and the images that it leaves to the next
pub record Ended : Type 0 where
  pub verdict : Verdict
  pub images : Images

-- of a call that stores
abbrev pub stored : Outcome → Ended
stored o = record { verdict = verdict o.answer; images = o.images }

module _ (l : Layout) where
  -- the rows of a query
  unfoldable pub query_rows : Query → Images → List Row
  query_rows (read_call_lem lost page buffer) s = read_rows l s lost page buffer
  query_rows (find_call_lem lost lot bag) s = find_rows l s lost

  -- The table of calls: what comes of each. A query leaves the images.
  unfoldable pub ended : Call → Images → Ended
  ended (open_call_lem lost a) s = stored (open_call l s lost a)
  ended (write_call_lem lost page xs a) s = stored (write_call l s lost page xs a)
  ended (commit_call_lem lost j a) s = stored (commit_call l s lost j a)
  ended (collect_call_lem lost c a) s = stored (collect_call l s lost c a)
  ended (add_call_lem lost ticket a) s = stored (add_call l s lost ticket a)
  ended (query_call q) s = record { verdict = query_verdict (checked (query_rows q s)); images = s }
