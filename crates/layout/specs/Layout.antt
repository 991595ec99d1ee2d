-- Document 01, "Geometry and the three lent images": the numbers that fix a store, and their limits.
use Rattle.std.specs.Prelude.{ℕ, ◌+◌, ◌-◌, ◌*◌, ◌%◌, ◌^◌, Bool, cond, ◌&&◌, leb, ltb, eqb}
use Rattle.layout.specs.declared.Geometry.{Geometry}

-- The geometry with the number of bytes that a page number takes in a record and in a spare.
pub record Layout : Type 0 where
  -- "N data pages to a stripe"
  pub N : ℕ
  -- "W data bytes to a page"
  pub W : ℕ
  -- "K pages to a block"
  pub K : ℕ
  -- "B blocks to a chip"
  pub B : ℕ
  -- "S stripes"
  pub S : ℕ
  -- "M partial parities"
  pub M : ℕ
  -- the bytes of a page number: "(2 bytes each, 65,535 for none)"
  pub D : ℕ

-- page numbers of two bytes
abbrev pub layout_of : Geometry → Layout
layout_of g = record { N = g.n; W = g.w; K = g.k; B = g.b; S = g.s; M = g.m; D = 2 }

-- the lost chip where none is: "none (255)"
abbrev pub no_chip : ℕ
no_chip = 255

module _ (l : Layout) where
  open l use {N, W, K, B, S, M, D}

  -- "65,535 for none": the largest number of D bytes
  unfoldable pub none : ℕ
  none = 256 ^ D - 1

  -- a page number is none
  abbrev pub is_none : ℕ → Bool
  is_none p = eqb p none

  -- the pages of a chip: "each B × K pages"
  abbrev pub pages : ℕ
  pages = B * K

  -- "Page number = block × K + place in block."
  abbrev pub page_in : ℕ → ℕ → ℕ
  page_in b i = b * K + i

  -- page p is in block b
  abbrev pub in_block : ℕ → ℕ → Bool
  in_block b p = leb (b * K) p && ltb p (b * K + K)

  -- "pages of W + 8 bytes"
  abbrev pub page_bytes : ℕ
  page_bytes = W + 8

  -- "its own stretch of the chip image": the bytes of a chip
  abbrev pub chip_bytes : ℕ
  chip_bytes = pages * page_bytes

  -- "records of 32 bytes"
  abbrev pub record_bytes : ℕ
  record_bytes = 16 * D

  -- page numbers of one or two bytes, whose limits are those of document 01; wider ones have those of document 02, 8
  abbrev short : Bool
  short = leb D 2

  -- "K .., 2 to 128"
  abbrev pub most_k : ℕ
  most_k = cond short 128 256

  -- "B .., 2 to 1,024"
  abbrev pub most_b : ℕ
  most_b = cond short 1024 65535

  -- "B × K at most 65,535": each page has a number, and the largest is none
  abbrev pub most_pages : ℕ
  most_pages = none

  -- "N .., 2 to 6"; "W .., 16 to 4,096, a multiple of 16"
  abbrev pub sizes : Bool
  sizes = leb 2 N && leb N 6 && leb 16 W && leb W 4096 && eqb (W % 16) 0

  -- "S .., 1 to 65,535"; "M .., 1 to 254"; "S + M + 1 at most (B − 1) × K"
  unfoldable pub limits : Bool
  limits =
      sizes
      && leb 2 K && leb K most_k
      && leb 2 B && leb B most_b
      && leb (B * K) most_pages
      && leb 1 S && leb S 65535
      && leb 1 M && leb M 254
      && leb (S + M + 1) ((B - 1) * K)
