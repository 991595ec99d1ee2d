-- Document 01, "Where a call is turned back": "Checked from top to bottom; the first that applies is returned".
use Rattle.std.specs.Prelude.{⊤, Result, ℕ, ◌*◌, Bool, true, false, ◌||◌, List, [], ◌∷◌, ◌++◌, length, leb, ltb, eqb, Ok, Err}
use Rattle.ranges.specs.Look.{when_found}
use Rattle.layout.specs.Layout.{Layout, no_chip, limits}
use Rattle.layout.specs.Page.{page_at}
use Rattle.layout.specs.Record.{record_at, has_slot}
use Rattle.layout.specs.Collection.{collection_at}
use Rattle.layout.specs.Images.{Images, lengths}
use Rattle.rules.specs.declared.Refusal.{Refusal}
use Rattle.rules.specs.declared.Refusal.TheVariants.{Geometry, Buffers, LostChip, Records, Spares, Collection, Request, Data, ChipSet, Work, Tickets, FullLog}
use Rattle.rules.specs.Collect.{victim_of}
use Rattle.rules.specs.Tickets.{ticket_bytes, ticket_of, ticket_sound}
use Rattle.rules.specs.Log.{contents, log_sound, log_open}
use Rattle.rules.specs.Sound.{is_lost, records_sound, spares_sound}

-- the column "No."
abbrev pub refusal_number : Refusal → ℕ
refusal_number Geometry = 1
refusal_number Buffers = 2
refusal_number LostChip = 3
refusal_number Records = 4
refusal_number Spares = 5
refusal_number Collection = 6
refusal_number Request = 7
refusal_number Data = 8
refusal_number ChipSet = 9
refusal_number Work = 10
refusal_number Tickets = 11
refusal_number FullLog = 12

-- what the checks of a call come to
abbrev pub Check : Type 0
Check = Result ⊤ Refusal

-- a row of the table: the test that a call has to pass, and its refusal where it does not
abbrev pub Row : Type 0
Row = Bool × Refusal

abbrev pub unless : Bool → Refusal → Check → Check
unless true r below = below
unless false r below = Err r

-- what the rows of a call come to: "the first that applies is returned"
abbrev pub checked : List Row → Check
checked [] = Ok tt
checked ((test, r) ∷ rows) = unless test r (checked rows)

-- row 9: "a chip is lost"
abbrev pub chip_set_row : ℕ → Row
chip_set_row lost = (eqb lost no_chip, ChipSet)

module _ (l : Layout) where
  open l use {N, W, S}

  -- "neither none (255) nor 0 to N"
  abbrev pub lost_named : ℕ → Bool
  lost_named lost = eqb lost no_chip || leb lost N

  -- row 4: "not sound" where this is false
  abbrev pub records_check : Images → Bool
  records_check s = records_sound l (record_at l s.records) (collection_at l s.records)

  -- row 5
  abbrev pub spares_check : Images → ℕ → Bool
  spares_check s lost =
      spares_sound l (record_at l s.records) (page_at l s.chips) (collection_at l s.records) (is_lost lost)

  -- "phase not 0"
  abbrev pub at_rest : Images → Bool
  at_rest s = eqb (collection_at l s.records).phase 0

  -- "no full block with an unnamed page"
  abbrev pub collectable_on : Images → ℕ → Bool
  collectable_on s c = when_found (victim_of l c (page_at l s.chips c) (record_at l s.records)) (λ b. true) false

  -- rows 1 and 2, of all calls
  unfoldable pub buffers_rows : Images → List Row
  buffers_rows s = (limits l, Geometry) ∷ (lengths l s, Buffers) ∷ []

  -- rows 1 to 5, of all but format
  unfoldable pub images_rows : Images → ℕ → List Row
  images_rows s lost =
      buffers_rows s ++ ((lost_named lost, LostChip) ∷ (records_check s, Records) ∷ (spares_check s lost, Spares) ∷ [])

  -- rows 1 to 6, of write, add, commit and collect
  unfoldable pub settled_rows : Images → ℕ → List Row
  settled_rows s lost = images_rows s lost ++ ((at_rest s, Collection) ∷ [])

  -- row 7 of a call with a page: "page .. too high"
  abbrev pub page_row : ℕ → Row
  page_row page = (ltb page (N * S), Request)

  -- and row 8: "not W bytes"
  abbrev pub page_rows : ℕ → ℕ → List Row
  page_rows page len = page_row page ∷ (eqb len W, Data) ∷ []

  -- read
  unfoldable pub read_rows : Images → ℕ → ℕ → List ℕ → List Row
  read_rows s lost page buffer = images_rows s lost ++ page_rows page (length buffer)

  -- write
  unfoldable pub write_rows : Images → ℕ → ℕ → List ℕ → List Row
  write_rows s lost page xs = (settled_rows s lost ++ page_rows page (length xs)) ++ (chip_set_row lost ∷ [])

  -- commit: then "stripe .. too high", "a chip is lost", "no slot"
  unfoldable pub commit_rows : Images → ℕ → ℕ → List Row
  commit_rows s lost j =
      (settled_rows s lost ++ ((ltb j S, Request) ∷ chip_set_row lost ∷ []))
      ++ ((has_slot (record_at l s.records j), Work) ∷ [])

  -- collect: then "chip too high", "a chip is lost", "no full block with an unnamed page"
  unfoldable pub collect_rows : Images → ℕ → ℕ → List Row
  collect_rows s lost c =
      (settled_rows s lost ++ ((leb c N, Request) ∷ chip_set_row lost ∷ [])) ++ ((collectable_on s c, Work) ∷ [])

  -- row 11 of a call that reads the log: "found before the log's end"
  abbrev pub log_row : Images → ℕ → Row
  log_row s lost = (log_sound l (contents l s lost), Tickets)

  -- find: "A reading of the log is checked as a read, then for 11"
  unfoldable pub find_rows : Images → ℕ → List Row
  find_rows s lost = images_rows s lost ++ (log_row s lost ∷ [])

  -- add: "it is checked as a write (8 if not 16 bytes)"; then "a ticket that breaks these rules, given or found", "a log that fills
  -- every page", "both checked after 10"
  unfoldable pub add_rows : Images → ℕ → List ℕ → List Row
  add_rows s lost ticket =
      (settled_rows s lost ++ ((eqb (length ticket) ticket_bytes, Data) ∷ chip_set_row lost ∷ []))
      ++ ((ticket_sound (ticket_of ticket), Tickets) ∷ log_row s lost ∷ (log_open l (contents l s lost), FullLog) ∷ [])
