-- Whether a record names a page, found from the page's own spare bytes: only the record of the stripe that they give is looked at.
use Rattle.std.specs.Prelude.{ℕ, ◌+◌, ◌-◌, ◌≤◌, ◌≡◌, Bool, true, not, cond, ◌&&◌, List, leb, ltb}
use Rattle.ranges.specs.Look.{all_below, count_below, sum_below}
use Rattle.layout.specs.declared.Geometry.{Geometry}
use Rattle.layout.specs.Layout.{Layout, is_none, layout_of}
use Rattle.layout.specs.Page.{Page, page_at}
use Rattle.layout.specs.Record.{Record, record_at}
use Rattle.rules.specs.Names.{main_number, side_number, kind_on, member_byte, names}
use Rattle.rules.specs.Sound.{stamped_page, stamped_stripe}
use Rattle.codec.specs.Fit.{ChipsFit, RecordsFit}
use Rattle.names.specs.declared.StripePages.{StripePages}

module _ (l : Layout) where
  open l use {N, S}

  -- what record r of stripe j says of chip c, as the code's struct
  unfoldable pub pages_on : ℕ → ℕ → Record → StripePages
  pages_on c j r =
      record {
        main = main_number l c j r;
        side = side_number l c j r;
        kind = kind_on l c j;
        member = member_byte l c j;
      }

  -- with the records r and the pages x of chip c: page p is named, told by its own stamp: the stamp is
  -- right, and the record of its stripe names the page
  unfoldable pub by_stamp : (ℕ → Record) → (ℕ → Page) → ℕ → ℕ → Bool
  by_stamp r x c p = ltb (x p).stripe S && (stamped_page l x c (x p).stripe p && names l r c p (x p).stripe)

  -- the record of stripe j has a main number on chip c
  abbrev pub has_main : (ℕ → Record) → ℕ → ℕ → Bool
  has_main r c j = not (is_none l (main_number l c j (r j)))

  -- and a side number
  abbrev pub has_side : (ℕ → Record) → ℕ → ℕ → Bool
  has_side r c j = not (is_none l (side_number l c j (r j)))

  -- how many numbers the record of stripe j has on chip c
  abbrev pub names_on : (ℕ → Record) → ℕ → ℕ → ℕ
  names_on r j c = cond (has_main r c j) 1 0 + cond (has_side r c j) 1 0

  -- and on the lost chip, if it is one
  unfoldable pub names_lost : (ℕ → Record) → ℕ → ℕ → ℕ
  names_lost r lost j = cond (leb lost N) (names_on r j lost) 0

  -- how many pages of chip c the records below n name
  unfoldable pub names_below : (ℕ → Record) → ℕ → ℕ → ℕ
  names_below r c n = count_below n (has_main r c) + count_below n (has_side r c)

  -- record r has a current page of member m
  abbrev pub has_current : Record → ℕ → Bool
  has_current r m = not (is_none l (r.current m))

  -- and an old one
  abbrev pub has_old : Record → ℕ → Bool
  has_old r m = not (is_none l (r.old m))

  -- how many page numbers record r has
  unfoldable pub record_names : Record → ℕ
  record_names r = count_below 6 (has_current r) + count_below 6 (has_old r) + cond (is_none l r.parity) 0 1

  -- how many page numbers the records below n have
  abbrev pub names_in : (ℕ → Record) → ℕ → ℕ
  names_in r n = sum_below n (λ j. record_names (r j))

  -- how many of those of all records are on the chips that are there: all but the lost one
  unfoldable pub names_kept : (ℕ → Record) → ℕ → ℕ
  names_kept r lost = cond (leb lost N) (names_in r S - names_below r lost S) (names_in r S)

-- each page that a record names on chip c has its stamp
pub record StampsPass (g : Geometry) (chips records : List ℕ) (c : ℕ) : Type 0 where
  pub chips_fit : ChipsFit g chips
  pub records_fit : RecordsFit g records
  pub chip : c ≤ g.n
  pub stamps : all_below g.s (stamped_stripe (layout_of g) (record_at (layout_of g) records) (page_at (layout_of g) chips c) c) ≡ true
