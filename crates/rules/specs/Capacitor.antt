-- Document 02, request 3, "How big a capacitor": the stores that a call needs. "They count the stores of document 01's lists."
use Rattle.std.specs.Prelude.{ℕ, ◌+◌, ◌*◌, ◌≤◌, ◌≡◌, ◌≢◌, List, length, Ok}
use Rattle.layout.specs.Layout.{Layout}
use Rattle.layout.specs.Images.{Images}
use Rattle.rules.specs.Refusals.{checked, write_rows, commit_rows, collect_rows, add_rows}
use Rattle.rules.specs.Open.{open_steps}
use Rattle.rules.specs.Collect.{collect_steps}
use Rattle.rules.specs.Commit.{commit_steps}
use Rattle.rules.specs.Write.{write_steps}
use Rattle.rules.specs.Format.{format_steps}
use Rattle.rules.specs.Log.{add_steps}
use Rattle.rules.specs.Calls.{Call, open_call_lem, write_call_lem, commit_call_lem, collect_call_lem, add_call_lem, query_call, done, refused, ended}

-- the store allowance that a call carries; one that only reads has none
abbrev pub allowance_of : Call → ℕ
allowance_of (open_call_lem lost a) = a
allowance_of (write_call_lem lost page xs a) = a
allowance_of (commit_call_lem lost j a) = a
allowance_of (collect_call_lem lost c a) = a
allowance_of (add_call_lem lost ticket a) = a
allowance_of (query_call q) = 0

module _ (l : Layout) where
  open l use {N, K, B, S}

  -- "no write from sound images ever needs more than 4 × K + 9 stores"
  abbrev pub write_needs : ℕ
  write_needs = 4 * K + 9

  -- "no commit more than 2 × K + 4"
  abbrev pub commit_needs : ℕ
  commit_needs = 2 * K + 4

  -- "and no collection more than 2 × K + 2"
  abbrev pub collect_needs : ℕ
  collect_needs = 2 * K + 2

  -- no open more than a record store for each page of a block, an erase and phase 0
  abbrev pub open_needs : ℕ
  open_needs = K + 2

  -- a format makes an erase for each block, a store for each record, and phase 0
  abbrev pub format_needs : ℕ
  format_needs = (N + 1) * B + S + 1

  -- the table of calls: the allowance that never cuts. An addition is a write.
  unfoldable pub needs : Call → ℕ
  needs (open_call_lem lost a) = open_needs
  needs (write_call_lem lost page xs a) = write_needs
  needs (commit_call_lem lost j a) = commit_needs
  needs (collect_call_lem lost c a) = collect_needs
  needs (add_call_lem lost ticket a) = write_needs
  needs (query_call q) = 0

  -- No list of a call that is not refused, and so is made from sound images, is longer; and a call that is allowed so many is done.
  pub record StoresNeeded : Type 0 where
    pub write :
        (s : Images) (lost page : ℕ) (xs : List ℕ) → checked (write_rows l s lost page xs) ≡ Ok tt
        → length (write_steps l page xs s) ≤ write_needs
    pub commit :
        (s : Images) (lost j : ℕ) → checked (commit_rows l s lost j) ≡ Ok tt → length (commit_steps l j s) ≤ commit_needs
    pub collect :
        (s : Images) (lost c : ℕ) → checked (collect_rows l s lost c) ≡ Ok tt
        → length (collect_steps l c s) ≤ collect_needs
    pub add :
        (s : Images) (lost : ℕ) (ticket : List ℕ) → checked (add_rows l s lost ticket) ≡ Ok tt
        → length (add_steps l lost ticket s) ≤ write_needs
    pub open_call_lem : (s : Images) (lost : ℕ) → length (open_steps l lost s) ≤ open_needs
    pub format : length (format_steps l) ≡ format_needs
    pub enough :
        (call : Call) (s : Images) → needs call ≤ allowance_of call → (ended l call s).verdict ≢ refused
        → (ended l call s).verdict ≡ done
