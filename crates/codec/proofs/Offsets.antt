-- Where pages and slots stand in their images, and a page made of its data and its spare bytes.
use Prim.Native.Nat.{ℕ, ◌+◌, ◌*◌, ◌≤◌, ◌<◌}
use native.Mathlib.Nat.{mul-le-mul, mul-le-mul_right, mul_assoc, lt_of_lt_of_le, add_assoc, add-zero}
use native.Mathlib.Omega.{arith}
use mathlib.Core.Path.{◌≡◌, ap}
use mathlib.Core.Bool.{true}
use mathlib.Core.List.{List, ◌++◌, append-nil}
use lib.Arith.{digits_lt}
use lib.ListN.{length, drop, get_or, length-drop, drop_of_length-le}
use lib.Seq.{take-append_seam, drop-append_seam}
use Rattle.octets.specs.Number.{number, digits}
use Rattle.octets.specs.Units.{part, put, unit}
use Rattle.octets.proofs.Units.{apart, unit_fits, units_fit, length_part, unit_unit, part_unit, get_or_unit}
use Rattle.layout.specs.declared.Geometry.{Geometry}
use Rattle.layout.specs.Layout.{layout_of, limits, none, pages, chip_bytes}
use Rattle.layout.specs.Page.{page_of, page_at, blank_tail, bytes_of_page}
use Rattle.layout.specs.Images.{chips_length, records_length, slots_length}
use Rattle.layout.proofs.Limits.{within}
use Rattle.codec.specs.Fit.{ChipsFit, RecordsFit, SlotsFit}
use Rattle.codec.specs.Views.{page_from, spare_from}
use Rattle.codec.specs.declared.Spare.{Spare}

-- the offset of page p of chip c
abbrev pub offset : Geometry → ℕ → ℕ → ℕ
offset g c p = (c * pages (layout_of g) + p) * (g.w + 8)

module _ (g : Geometry) where
  -- bounds of the numbers that lead to the offset: 65,535 pages of at most 4,104 bytes on each of 7 chips
  pub record PageHigh (c p : ℕ) : Type 0 where
    pub pages_high : pages (layout_of g) ≤ 65535
    pub index_high : c * pages (layout_of g) + p < 458745
    pub bytes_high : g.w + 8 ≤ 4104
    pub end_high : offset g c p + (g.w + 8) ≤ 1882689480

  module _ (c p : ℕ) (chip : c ≤ g.n) (page : p < pages (layout_of g)) where
    -- a page of a chip is one of the pages of the image
    page_index : c * pages (layout_of g) + p < (g.n + 1) * pages (layout_of g)
    page_index = let h : c < g.n + 1 = omega arith in digits_lt h page

    -- the limits give the bounds
    pub page_high : limits (layout_of g) ≡ true → PageHigh c p
    unfolding none
    page_high e =
        let w = within (layout_of g) e in
        let chips : g.n + 1 ≤ 7 = omega arith in
        let index : c * pages (layout_of g) + p < 458745 = lt_of_lt_of_le page_index (mul-le-mul chips w.pages_numbered) in
        record {
          pages_high = w.pages_numbered;
          index_high = index;
          bytes_high = omega arith;
          end_high = omega (arith, apart (g.w + 8) (c * pages (layout_of g) + p) 458745 index);
        }

    -- a page ends within the image
    pub page_within : offset g c p + (g.w + 8) ≤ chips_length (layout_of g)
    unfolding chips_length
    page_within = apart (g.w + 8) (c * pages (layout_of g) + p) ((g.n + 1) * pages (layout_of g)) page_index

  -- the fields of a page are the parts of the image from its offset on
  pub record PageIn (chips : List ℕ) (c p : ℕ) : Type 0 where
    pub bytes : (page_at (layout_of g) chips c p).bytes ≡ part (offset g c p) g.w chips
    pub kind : (page_at (layout_of g) chips c p).kind ≡ get_or chips (offset g c p + g.w) 0
    pub member : (page_at (layout_of g) chips c p).member ≡ get_or chips (offset g c p + g.w + 1) 0
    pub stripe : (page_at (layout_of g) chips c p).stripe ≡ number (part (offset g c p + g.w + 2) 2 chips)
    pub copied : (page_at (layout_of g) chips c p).copied ≡ number (part (offset g c p + g.w + 4) 2 chips)

  -- so it is for each page of a chip
  pub page_in_lem : (chips : List ℕ) (c p : ℕ) → p < pages (layout_of g) → PageIn chips c p
  unfolding page_at page_of part
  page_in_lem chips c p h =
      let u = g.w + 8 in
      let i = c * pages (layout_of g) + p in
      let e : unit u p (unit (chip_bytes (layout_of g)) c chips) ≡ unit u i chips = unit_unit (pages (layout_of g)) u c p chips h in
      record {
        bytes = rw e (rw add-zero at (part_unit u i 0 g.w chips (omega arith)));
        kind = rw e (get_or_unit u i g.w 0 chips (omega arith));
        member = rw (e, add_assoc) (get_or_unit u i (g.w + 1) 0 chips (omega arith));
        stripe = rw (e, add_assoc) (ap number (part_unit u i (g.w + 2) 2 chips (omega arith)));
        copied = rw (e, add_assoc) (ap number (part_unit u i (g.w + 4) 2 chips (omega arith)));
      }

  -- slot i ends within the image
  pub slot_within : (slots : List ℕ) → SlotsFit g slots → (i : ℕ) → i ≤ g.m → i * g.w + g.w ≤ length slots
  unfolding slots_length
  slot_within slots f i h = unit_fits (g.m + 1) g.w i slots f.long (omega arith)

  -- record j of the S + 1 ends within the image
  pub record_within : (records : List ℕ) → RecordsFit g records → (j : ℕ) → j ≤ g.s → j * 32 + 32 ≤ length records
  unfolding records_length
  record_within records f j h = unit_fits (g.s + 1) 32 j records f.long (omega arith)

  -- the bytes of a block, and the offset of block b of chip c
  abbrev pub block_bytes : ℕ
  block_bytes = g.k * (g.w + 8)

  abbrev pub block_at : ℕ → ℕ → ℕ
  block_at c b = (c * pages (layout_of g) + b * g.k) * (g.w + 8)

  -- the first page of a block is one of the chip, whose pages are few; the block ends within the image, and is as long as its pages
  pub record BlockIn (chips : List ℕ) (c b : ℕ) : Type 0 where
    pub pages_high : pages (layout_of g) ≤ 65535
    pub first : b * g.k < pages (layout_of g)
    pub fits : block_at c b + block_bytes ≤ length chips
    pub long : length (part (block_at c b) block_bytes chips) ≡ block_bytes

  -- so it is for each block of a chip
  pub block_in : (chips : List ℕ) (c b : ℕ) → ChipsFit g chips → c ≤ g.n → b < g.b → BlockIn chips c b
  unfolding chips_length none
  block_in chips c b f chip block =
      let w = within (layout_of g) f.limited in
      let blocks : b * g.k + g.k ≤ pages (layout_of g) = apart g.k b g.b block in
      let chips_before = apart (pages (layout_of g)) c (g.n + 1) (omega arith) in
      let fits = units_fit ((g.n + 1) * pages (layout_of g)) (g.w + 8) (c * pages (layout_of g) + b * g.k) g.k chips f.long (omega arith) in
      record {
        pages_high = w.pages_numbered;
        first = omega arith;
        fits = fits;
        long = length_part (block_at c b) block_bytes chips fits;
      }

  -- the first n blocks of the image, whichever chip they are on: bounds of their bytes
  pub record BlocksIn (chips : List ℕ) (n : ℕ) : Type 0 where
    pub page_high : g.w + 8 ≤ 4104
    pub block_high : block_bytes ≤ 525312
    pub high : length chips ≤ 1882689480
    pub fits : n * block_bytes ≤ length chips
    pub long : length (part 0 (n * block_bytes) chips) ≡ n * block_bytes

  pub blocks_in : (chips : List ℕ) (n : ℕ) → ChipsFit g chips → n ≤ (g.n + 1) * g.b → BlocksIn chips n
  unfolding chips_length none
  blocks_in chips n f few =
      let w = within (layout_of g) f.limited in
      let page : g.w + 8 ≤ 4104 = omega (arith, w.bytes_high) in
      let members : g.n + 1 ≤ 7 = omega (arith, w.members_high) in
      let all : (g.n + 1) * g.b * block_bytes ≡ length chips = rw (f.long, ← mul_assoc (g.n + 1) g.b g.k, mul_assoc ((g.n + 1) * g.b) g.k (g.w + 8)) in
      let fits : n * block_bytes ≤ length chips = rw all at (mul-le-mul_right block_bytes few) in
      record {
        page_high = page;
        block_high = mul-le-mul w.places_high page;
        high = rw f.long (mul-le-mul (mul-le-mul members w.pages_numbered) page);
        fits = fits;
        long = length_part 0 (n * block_bytes) chips (omega arith);
      }

-- a list as long as xs and ys, with xs put in front and then ys behind it, is xs and ys
put_both : (xs ys zs : List ℕ) → length zs ≡ length xs + length ys → put (length xs) (length ys) ys (xs ++ drop (length xs) zs) ≡ xs ++ ys
unfolding put
put_both xs ys zs e =
    let h : length (drop (length xs) zs) ≤ length ys = rw length-drop (omega arith) in
    rw (take-append_seam, drop-append_seam, drop_of_length-le (drop (length xs) zs) h, append-nil)

-- the data put in front and then the spare bytes behind them make the bytes of the page
pub page_filled : (g : Geometry) (xs page : List ℕ) (t : Spare) → length page ≡ length xs + 8
    → put (length xs) 8 (spare_from t) (xs ++ drop (length xs) page) ≡ bytes_of_page (layout_of g) (page_from (layout_of g) xs t)
unfolding bytes_of_page blank_tail digits
page_filled g xs page t e = put_both xs (spare_from t) page e
