-- The first write and the transcript of document 01, at the geometry of its bench program.
use Prim.Native.Nat.{ℕ, ◌<◌}
use mathlib.Core.Path.{◌≡◌, refl}
use mathlib.Core.List.{List, [], ◌∷◌, ◌++◌}
use lib.ListN.{replicate, length, get_or}
use lib.Dec.{lit≤}
use Rattle.ranges.proofs.Tests.{same_rows}
use Rattle.layout.specs.Layout.{Layout}
use Rattle.layout.specs.Images.{Images}
use Rattle.layout.proofs.Rows.{geometry}
use Rattle.steps.specs.declared.Counts.{Counts}
use Rattle.rules.specs.Calls.{Outcome, ReadOutcome, status_of, counts_of, read_status_of, read_counts_of, read_origin_of, format_call, write_call, read_call}
use Rattle.rules.proofs.Examples.Compute.{computes}
use Rattle.rules.proofs.Examples.FirstWrite.{FirstWrite, first_write}

-- the geometry of the bench program
abbrev pub bench : Layout
bench = geometry 4 16 4 4 6 2

-- images of the bench geometry that hold anything, and a format of them
abbrev pub any_bytes : Images
any_bytes = record { chips = replicate 1920 7; records = replicate 224 9; slots = replicate 48 3 }

abbrev pub formatted : Images
formatted = (format_call bench any_bytes 65535).images

abbrev pub filled : ℕ → List ℕ
filled b = replicate 16 b

-- "a first write takes 3 stores. Allowance 2 is cut and reads zeros; 3 is done": of each page of the bench geometry
pub bench_first_write : (i : ℕ) → i < 24 → (xs : List ℕ) → length xs ≡ 16 → FirstWrite bench formatted i xs
unfolding computes
bench_first_write = first_write bench (lit≤ tt) (lit≤ tt) any_bytes 65535 refl

-- what the bench program prints of a write and of a read: status_of, then the first byte of a read, then the counts, and of a read how its
-- page was got
abbrev pub shown_counts : Counts → List ℕ
shown_counts n = n.reads ∷ n.programs ∷ n.erases ∷ []

abbrev pub shown_write : Outcome → List ℕ
shown_write x = status_of x.answer ∷ shown_counts (counts_of x.answer)

abbrev pub shown_read : ReadOutcome → List ℕ
shown_read x =
    read_status_of x.answer ∷ get_or x.buffer 0 0 ∷ (shown_counts (read_counts_of x.answer) ++ (read_origin_of x.answer ∷ []))

-- a line of the bench program's input: `w` page byte, `r` page, `x` chip
pub data Line : Type 0 where
  w : ℕ → ℕ → Line
  r x : ℕ → Line

-- what the bench program says of its lines, from images s with a chip lost; of `x` nothing
pub said : ℕ → Images → List Line → List (List ℕ)
said lost s [] = []
said lost s (w page byte ∷ lines) =
    let o : Outcome = write_call bench s lost page (filled byte) 65535 in shown_write o ∷ said lost o.images lines
said lost s (r page ∷ lines) = shown_read (read_call bench s lost page (filled 0xff)) ∷ said lost s lines
said lost s (x chip ∷ lines) = said chip s lines

-- the seven lines of document 01, and what is printed of them, with document 02, 2
pub bench_transcript :
    said 255 formatted (w 1 0xa5 ∷ w 2 0x0f ∷ w 1 0x11 ∷ x 1 ∷ r 1 ∷ r 0 ∷ w 3 0x22 ∷ [])
    ≡ (0 ∷ 0 ∷ 1 ∷ 0 ∷ [])
    ∷ (0 ∷ 0 ∷ 1 ∷ 0 ∷ [])
    ∷ (0 ∷ 1 ∷ 1 ∷ 0 ∷ [])
    ∷ (0 ∷ 0x11 ∷ 1 ∷ 0 ∷ 0 ∷ 2 ∷ [])
    ∷ (0 ∷ 0 ∷ 0 ∷ 0 ∷ 0 ∷ 0 ∷ [])
    ∷ (9 ∷ 0 ∷ 0 ∷ 0 ∷ [])
    ∷ []
unfolding computes said
bench_transcript = same_rows _ _ refl
