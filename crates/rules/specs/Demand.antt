-- Demand 3 as one statement, in the terms of document 01, "The price book".
use Rattle.std.specs.Prelude.{Result, ℕ, ◌*◌, ◌≤◌, ◌<◌, ◌≡◌, Bool, false, cond, List, [], ◌∷◌, length, eqb, Ok, Err}
use Rattle.rules.specs.declared.Refusal.{Refusal}
use Rattle.octets.specs.Units.{unit_put}
use Rattle.layout.specs.Layout.{Layout, no_chip, chip_bytes}
use Rattle.layout.specs.Rotation.{member_chip, member_of, stripe_of}
use Rattle.layout.specs.Record.{bit, record_at}
use Rattle.layout.specs.Images.{Images}
use Rattle.steps.specs.declared.Counts.{Counts}
use Rattle.rules.specs.declared.Refusal.TheVariants.{Tickets}
use Rattle.rules.specs.declared.Origin.{Origin}
use Rattle.rules.specs.declared.Finding.{Finding}
use Rattle.rules.specs.Origins.{origin_by}
use Rattle.rules.specs.Log.{log_sound, standing, log_origin}
use Rattle.rules.specs.Calls.{ReadOutcome, Call, lost_chip, done, verdict, ended, format_call, read_call, find_call}
use Rattle.rules.specs.Book.{Book, finished, booked, noted}

-- the images and the book together, and of which pages a write was completed since the format
pub record World : Type 0 where
  pub images : Images
  pub book : Book
  pub written : ℕ → Bool

-- "each call naming that chip as lost"
abbrev pub AllName : ℕ → List Call → Type 0
AllName c [] = Unit
AllName c (call ∷ calls) = (lost_chip call ≡ c) × AllName c calls

module _ (l : Layout) where
  open l use {N, W, S}

  -- one call: "It is fed each call's arguments but the images, and whether the call was answered done, cut or refused, as the
  -- table, the cut rule and later requests have it; it sees nothing else."
  unfoldable pub called : Call → World → World
  called call x =
      record {
        images = (ended l call x.images).images;
        book = booked l call (ended l call x.images).verdict x.book;
        written = noted l call (ended l call x.images).verdict x.book x.written;
      }

  -- "gets chips, records and slots as the last one left them, be it done, cut or refused"
  unfoldable pub called_all : List Call → World → World
  called_all [] x = x
  called_all (call ∷ calls) x = called_all calls (called call x)

  -- "Then the stretch of one chip in the chip image becomes any bytes, its own among them, and nothing else changes."
  unfoldable pub chip_taken : ℕ → List ℕ → World → World
  chip_taken c bytes x =
      record {
        images =
            record {
              chips = unit_put (chip_bytes l) c bytes x.images.chips;
              records = x.images.records;
              slots = x.images.slots;
            };
        book = x.book;
        written = x.written;
      }

  -- the read of page i of images s that names `lost`, into a buffer of W bytes, is not refused, says that its page was got so, and gives ys
  abbrev pub ReadGives : Images → ℕ → ℕ → Origin → List ℕ → Type 0
  ReadGives s lost i o ys =
      (buffer : List ℕ) → length buffer ≡ W
      → (n : Counts)
      × (◌≡◌ {A = ReadOutcome} (read_call l s lost i buffer) (record { answer = Ok (record { counts = n; origin = o }); buffer = ys }))

  -- "the read of each logical page below N × S that names that chip, into a buffer of W bytes, is not refused, and the
  -- buffer equals the book's page"
  abbrev pub ReadsTheBook : ℕ → World → Type 0
  ReadsTheBook lost x = (i : ℕ) → i < N * S → (o : Origin) × ReadGives x.images lost i o (x.book i)

  -- document 02, 2: page i was written if a write of it was completed; on the chip named as lost it is rebuilt, through the partial parity
  -- if its bit is set
  abbrev pub origin_owed : ℕ → World → ℕ → Origin
  origin_owed lost x i =
      origin_by (x.written i)
      (eqb (member_chip l (stripe_of l i) (member_of l i)) lost)
      (bit (record_at l x.images.records (stripe_of l i)) (member_of l i))

  -- each of those reads says so
  abbrev pub TellsTheOrigin : ℕ → World → Type 0
  TellsTheOrigin lost x = (i : ℕ) → i < N * S → ReadGives x.images lost i (origin_owed lost x i) (x.book i)

  -- document 02, 1, of the book's log, with these counts: "the one standing if it is a weight, else none"; refused "with 11" where a ticket
  -- "found before the log's end" breaks the rules. And document 02, 2: how its pages were got.
  abbrev pub book_finding : Counts → ℕ → World → ℕ → ℕ → Result Finding Refusal
  book_finding n lost x lot bag =
      cond (log_sound l x.book)
      (Ok (record { counts = n; standing = standing l x.book lot bag; origin = log_origin l x.book (origin_owed lost x) lot bag }))
      (Err Tickets)

  -- each question for a lot and bag that names that chip is answered so
  abbrev pub FindsTheBook : ℕ → World → Type 0
  FindsTheBook lost x =
      (lot bag : ℕ) → (n : Counts) × (find_call l x.images lost lot bag ≡ book_finding n lost x lot bag)

  -- "the images as a finished format left them"
  pub record Finished : Type 0 where
    pub images : Images
    pub allowance : ℕ
    pub is_done : verdict (format_call l images allowance).answer ≡ done

  -- "The first list starts from the images as a finished format left them."
  abbrev pub start : Finished → World
  start f =
      record {
        images = (format_call l f.images f.allowance).images;
        book = finished l;
        written = λ i. false;
      }

  -- what is owed after both lists: a finished format, any first list of calls, any bytes on any one chip, any second list that names it;
  -- and with no chip taken, the first list alone
  pub record AfterBothLists (Owed : ℕ → World → Type 0) : Type 0 where
    pub one_chip_taken :
        (f : Finished) (first : List Call) (c : ℕ) → c ≤ N
        → (bytes : List ℕ) → length bytes ≡ chip_bytes l
        → (second : List Call) → AllName c second
        → Owed c (called_all second (chip_taken c bytes (called_all first (start f))))
    pub no_chip_taken : (f : Finished) (first : List Call) → Owed no_chip (called_all first (start f))

  -- Demand 3: after both lists, every read gives the book's page.
  abbrev pub Demand3 : Type 0
  Demand3 = AfterBothLists ReadsTheBook
