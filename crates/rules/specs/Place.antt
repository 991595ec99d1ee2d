-- Document 01, "Place on a chip"; x gives the chip's pages.
use Rattle.std.specs.Prelude.{ℕ, Bool, not, cond, ◌&&◌, leb, Option, Some, None}
use Rattle.ranges.specs.Look.{count_below, first_below, or_else, when_found}
use Rattle.layout.specs.Layout.{Layout, page_in}
use Rattle.layout.specs.Page.{Page}
use Rattle.rules.specs.Blocks.{clean_in, clean_block, full_block, lowest_clean_block}

module _ (l : Layout) where
  open l use {K, B}

  -- "a block already begun", with a clean page
  unfoldable pub open_block : (ℕ → Page) → ℕ → Bool
  open_block x b = not (clean_block l x b) && not (full_block l x b)

  -- the lowest clean page of block b
  unfoldable pub lowest_clean_page : (ℕ → Page) → ℕ → Option ℕ
  lowest_clean_page x b = when_found (first_below K (clean_in l x b)) (λ i. Some (page_in l b i)) None

  -- "the lowest clean page, block by block and page by page, in a block already begun;
  -- else page 0 of the lowest clean block if two or more blocks are clean"
  unfoldable pub place_of : (ℕ → Page) → Option ℕ
  place_of x =
      or_else (when_found (first_below B (open_block x)) (lowest_clean_page x) None)
      (cond (leb 2 (count_below B (clean_block l x)))
      (when_found (lowest_clean_block l x) (λ b. Some (page_in l b 0)) None)
      None)
