-- What the checks look at, many pages or records at once.
use Rattle.std.specs.Prelude.{ℕ, ◌+◌, ◌-◌, ◌*◌, ◌/◌, ◌%◌, ◌<◌, ◌≡◌, Bool, not, cond, ◌&&◌, ◌||◌, List, ◌≢◌, length, get_or, ltb, eqb}
use Rattle.octets.specs.Number.{number}
use Rattle.octets.specs.Units.{part}
use Rattle.ranges.specs.Look.{count_below}
use Rattle.layout.specs.Layout.{Layout, none, is_none, pages}
use Rattle.layout.specs.Page.{Page, is_clean_kind}
use Rattle.layout.specs.Record.{Record, no_slot}

-- ---- the stamps of pages

-- the tag t is the kind k and behind it the member m
pub record TagIs (t k m : ℕ) : Type 0 where
  pub kind : t % 256 ≡ k
  pub member : t / 256 ≡ m

abbrev pub tag_of : ℕ → ℕ → ℕ
tag_of k m = k + 256 * m

-- the page with this tag is clean
abbrev pub clean_tag : ℕ → Bool
clean_tag t = is_clean_kind (t % 256)

-- the tags and stripes of so many pages from the first on, with the chip's pages x
pub record StampsOf (x : ℕ → Page) (first count : ℕ) (tags stripes : List ℕ) : Type 0 where
  pub tag : (i : ℕ) → i < count → TagIs (get_or tags i 0) (x (first + i)).kind (x (first + i)).member
  pub stripe : (i : ℕ) → i < count → get_or stripes i 0 ≡ (x (first + i)).stripe

-- ---- the numbers of a record

-- the numbers of a record by their index: the current pages, from here on the old ones, here the parity page; and what is no index
abbrev pub first_old : ℕ
first_old = 6

abbrev pub last_number : ℕ
last_number = 12

abbrev pub no_index : ℕ
no_index = 255

-- number i of a record
unfoldable pub number_of : Record → ℕ → ℕ
number_of r i = cond (ltb i first_old) (r.current i) (cond (ltb i last_number) (r.old (i - first_old)) r.parity)

-- the first n numbers may be none or any page, and the others only none
pub record Ranges (n pages : ℕ) (tops : List ℕ) : Type 0 where
  pub long : length tops ≡ 8
  pub is : (m : ℕ) → m < 8 → get_or tops m 0 ≡ cond (ltb m n) pages 0

-- the number of two bytes at offset a
abbrev pub number_at : List ℕ → ℕ → ℕ
number_at xs a = number (part a 2 xs)

-- number i of the record at offset a
abbrev pub number_in : List ℕ → ℕ → ℕ → ℕ
number_in xs a i = number_at xs (a + 2 * i)

-- x is one of the pages below top, or none where there are none
abbrev pub is_written : ℕ → ℕ → Bool
is_written top x = ltb x top || (eqb x 65535 && eqb top 0)

-- so is number i of the record at offset a
abbrev pub written_in : List ℕ → List ℕ → ℕ → ℕ → Bool
written_in tops xs a i = is_written (get_or tops i 0) (number_in xs a i)

-- r is the four numbers from offset a on, as one; each has two bytes
pub record WordAt (xs : List ℕ) (a r : ℕ) : Type 0 where
  pub sum : r ≡ number_at xs a + 65536 * number_at xs (a + 2) + 4294967296 * number_at xs (a + 4) + 281474976710656 * number_at xs (a + 6)
  pub first : number_at xs a < 65536
  pub second : number_at xs (a + 2) < 65536
  pub third : number_at xs (a + 4) < 65536
  pub fourth : number_at xs (a + 6) < 65536

-- the record at offset a has none of its last four old numbers, no bit, no slot, and zeros at its end
pub record Clear (xs : List ℕ) (a : ℕ) : Type 0 where
  pub third : number_at xs (a + 16) ≡ 65535
  pub fourth : number_at xs (a + 18) ≡ 65535
  pub fifth : number_at xs (a + 20) ≡ 65535
  pub sixth : number_at xs (a + 22) ≡ 65535
  pub bitmap : get_or xs (a + 26) 0 ≡ 0
  pub slot : get_or xs (a + 27) 0 ≡ no_slot
  pub rest : number (part (a + 28) 4 xs) ≡ 0

module _ (l : Layout) (e : Record) where
  open l use {N}

  -- the record has a current page of member m
  abbrev pub current_given : ℕ → Bool
  current_given m = not (is_none l (e.current m))

  -- a record with nothing in the partial parity: a current page is a member's, under a parity page, and there is no old one; it has so
  -- many page numbers
  pub record Plain (names : ℕ) : Type 0 where
    pub current : (m : ℕ) → m < 6 → e.current m ≢ none l → (m < N) × (e.current m < pages l) × (e.parity ≢ none l)
    pub old : (m : ℕ) → m < 6 → e.old m ≡ none l
    pub parity : e.parity ≢ none l → e.parity < pages l
    pub bitmap : e.bitmap ≡ 0
    pub slot : e.slot ≡ no_slot
    pub rest : e.rest ≡ 0
    pub counted : names ≡ count_below 6 current_given + cond (is_none l e.parity) 0 1
