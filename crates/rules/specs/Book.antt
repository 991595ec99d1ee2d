-- Document 01, "The price book": "a book that knows no chips".
use Rattle.std.specs.Prelude.{ℕ, Bool, true, List, replicate}
use Rattle.ranges.specs.Look.{when_found}
use Rattle.ranges.specs.Update.{at}
use Rattle.layout.specs.Layout.{Layout}
use Rattle.rules.specs.Log.{falls_in, log_end, with_ticket}
use Rattle.rules.specs.Calls.{Call, open_call_lem, write_call_lem, commit_call_lem, collect_call_lem, add_call_lem, query_call, Verdict, done, cut, refused}

-- "It keeps W bytes for each logical page"
abbrev pub Book : Type 0
Book = ℕ → List ℕ

-- "A format answered done is finished: every page is zeros."
abbrev pub finished : Layout → Book
finished l i = replicate l.W 0

-- "A write answered done is completed: its W bytes go into its page. A write cut or refused changes nothing." Here of any x that goes into
-- the page of a function f: the bytes into the book, and into the note of which pages were written that this one was.
unfoldable pub completed : {A : Type 0} → ℕ → A → Verdict → (ℕ → A) → ℕ → A
completed page x done f = at page x f
completed page x cut f = f
completed page x refused f = f

-- what a call puts into the book once it is done: nothing, or into a page these bytes
pub data Writes : Type 0 where
  no_page : Writes
  page_with : ℕ → List ℕ → Writes

abbrev pub into_book : Writes → Verdict → Book → Book
into_book no_page v book = book
into_book (page_with page xs) v book = completed page xs v book

abbrev pub into_note : Writes → Verdict → (ℕ → Bool) → ℕ → Bool
into_note no_page v written = written
into_note (page_with page xs) v written = completed page true v written

module _ (l : Layout) where
  -- "Nor does any open, read, commit or collect, however answered." "A later call that writes a page puts there, once done, what its request
  -- says, worked out from the book. Any other later call changes nothing."
  unfoldable pub writes : Call → Book → Writes
  writes (open_call_lem lost a) book = no_page
  writes (write_call_lem lost page xs a) book = page_with page xs
  writes (commit_call_lem lost j a) book = no_page
  writes (collect_call_lem lost c a) book = no_page
  writes (add_call_lem lost ticket a) book = when_found (log_end l book) (λ t. page_with (falls_in l t) (with_ticket l book ticket t)) no_page
  writes (query_call q) book = no_page

  -- the book after a call that was answered so
  unfoldable pub booked : Call → Verdict → Book → Book
  booked call v book = into_book (writes call book) v book

  -- and of which pages a write was completed, which the book cannot tell of zeros
  unfoldable pub noted : Call → Verdict → Book → (ℕ → Bool) → ℕ → Bool
  noted call v book written = into_note (writes call book) v written
