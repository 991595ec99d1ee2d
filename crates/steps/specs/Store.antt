-- Document 01, "The calls, store by store": a store, and what it makes of the images.
use Rattle.std.specs.Prelude.{ℕ, ◌+◌, ◌*◌, List, replicate}
use Rattle.octets.specs.Units.{put, unit_put}
use Rattle.layout.specs.Layout.{Layout, pages, page_bytes, record_bytes}
use Rattle.layout.specs.Page.{Page, bytes_of_page}
use Rattle.layout.specs.Record.{Record, bytes_of_record}
use Rattle.layout.specs.Collection.{Collection, bytes_of_collection}
use Rattle.layout.specs.Images.{Images}

-- "A store is one page program, block erase, slot or record."
pub data Store : Type 0 where
  -- chip, page, what is programmed
  program : ℕ → ℕ → Page → Store
  -- chip, block
  erase : ℕ → ℕ → Store
  -- slot, its bytes
  slot : ℕ → List ℕ → Store
  -- stripe, its record
  stripe : ℕ → Record → Store
  -- the collection record
  collection : Collection → Store

module _ (l : Layout) where
  open l use {W, K, S}

  -- "A program fills a clean page in its own stretch of the chip image."
  unfoldable pub programmed : ℕ → ℕ → Page → List ℕ → List ℕ
  programmed c p x chips = unit_put (page_bytes l) (c * pages l + p) (bytes_of_page l x) chips

  -- "An erase sets a block to 255."
  unfoldable pub erased : ℕ → ℕ → List ℕ → List ℕ
  erased c b chips =
      put ((c * pages l + b * K) * page_bytes l) (K * page_bytes l) (replicate (K * page_bytes l) 255) chips

  -- record j of the S + 1 becomes xs
  unfoldable pub recorded : ℕ → List ℕ → List ℕ → List ℕ
  recorded j xs records = unit_put (record_bytes l) j xs records

  -- the images after a store
  unfoldable pub apply : Store → Images → Images
  apply (program c p x) s =
      record { chips = programmed c p x s.chips; records = s.records; slots = s.slots }
  apply (erase c b) s =
      record { chips = erased c b s.chips; records = s.records; slots = s.slots }
  apply (slot i xs) s =
      record { chips = s.chips; records = s.records; slots = unit_put W i xs s.slots }
  apply (stripe j r) s =
      record { chips = s.chips; records = recorded j (bytes_of_record l r) s.records; slots = s.slots }
  apply (collection co) s =
      record { chips = s.chips; records = recorded S (bytes_of_collection l co) s.records; slots = s.slots }
