-- The blocks of one chip; x gives the chip's pages.
use Rattle.std.specs.Prelude.{ℕ, ◌+◌, ◌-◌, Bool, not, ◌||◌, Option}
use Rattle.ranges.specs.Look.{all_below, first_below}
use Rattle.layout.specs.Layout.{Layout, page_in}
use Rattle.layout.specs.Page.{Page, clean}
use Rattle.layout.specs.Record.{Record}
use Rattle.rules.specs.Names.{named, unnamed}

module _ (l : Layout) where
  open l use {K, B}

  -- place i of block b is clean
  abbrev pub clean_in : (ℕ → Page) → ℕ → ℕ → Bool
  clean_in x b i = clean (x (page_in l b i))

  -- it is used: "no used page follows a clean one"
  abbrev pub used_in : (ℕ → Page) → ℕ → ℕ → Bool
  used_in x b i = not (clean_in x b i)

  -- it is named by a record
  abbrev pub named_in : (ℕ → Record) → ℕ → ℕ → ℕ → Bool
  named_in r c b i = named l r c (page_in l b i)

  -- it is named by none
  abbrev pub unnamed_in : (ℕ → Record) → ℕ → ℕ → ℕ → Bool
  unnamed_in r c b i = unnamed l r c (page_in l b i)

  -- block b is wholly clean
  unfoldable pub clean_block : (ℕ → Page) → ℕ → Bool
  clean_block x b = all_below K (clean_in x b)

  -- block b is full
  unfoldable pub full_block : (ℕ → Page) → ℕ → Bool
  full_block x b = all_below K (used_in x b)

  -- "no used page follows a clean one in a block": not the one behind place i
  abbrev pub in_order : (ℕ → Page) → ℕ → ℕ → Bool
  in_order x b i = used_in x b i || clean_in x b (i + 1)

  -- nor any other of block b
  unfoldable pub ordered_block : (ℕ → Page) → ℕ → Bool
  ordered_block x b = all_below (K - 1) (in_order x b)

  -- "the lowest clean block"
  unfoldable pub lowest_clean_block : (ℕ → Page) → Option ℕ
  lowest_clean_block x = first_below B (clean_block x)
