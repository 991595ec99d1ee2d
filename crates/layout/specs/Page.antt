-- Document 01, "Chips": a page, its data and its spare bytes.
use Rattle.std.specs.Prelude.{ℕ, ◌+◌, ◌-◌, Bool, List, ◌∷◌, ◌++◌, take, get_or, replicate, eqb}
use Rattle.octets.specs.Number.{number, digits}
use Rattle.octets.specs.Units.{part, unit}
use Rattle.layout.specs.Layout.{Layout, page_bytes, chip_bytes}

-- the W data bytes, and what the spare bytes say
pub record Page : Type 0 where
  pub bytes : List ℕ
  pub kind : ℕ
  pub member : ℕ
  pub stripe : ℕ
  -- the page that this one is a copy of
  pub copied : ℕ
  -- the spare bytes behind these
  pub tail : List ℕ

-- "kind (255 clean, 68 data, 80 parity)"
abbrev pub clean_kind : ℕ
clean_kind = 255

-- "68 data"
abbrev pub data_kind : ℕ
data_kind = 68

-- "80 parity"
abbrev pub parity_kind : ℕ
parity_kind = 80

-- "A page is clean when its kind is 255."
abbrev pub is_clean_kind : ℕ → Bool
is_clean_kind kind = eqb kind clean_kind

abbrev pub clean : Page → Bool
clean x = is_clean_kind x.kind

module _ (l : Layout) where
  open l use {W, D}

  -- the spare bytes behind the copied-from page
  abbrev pub tail_bytes : ℕ
  tail_bytes = 4 - D

  -- "two bytes of 255"
  unfoldable pub blank_tail : List ℕ
  blank_tail = replicate tail_bytes 255

  -- "After the data stand 8 spare bytes: kind, member, stripe (2 bytes), copied-from page (2 bytes), two bytes of 255."
  unfoldable pub page_of : List ℕ → Page
  page_of xs =
      record {
        bytes = take W xs;
        kind = get_or xs W 0;
        member = get_or xs (W + 1) 0;
        stripe = number (part (W + 2) 2 xs);
        copied = number (part (W + 4) D xs);
        tail = part (W + 4 + D) tail_bytes xs;
      }

  -- the bytes of a page that is programmed
  unfoldable pub bytes_of_page : Page → List ℕ
  bytes_of_page x =
      x.bytes ++ (x.kind ∷ x.member ∷ (digits 2 x.stripe ++ (digits D x.copied ++ x.tail)))

  -- "N + 1 chips end to end, each B × K pages": page p of the stretch of chip c
  unfoldable pub page_at : List ℕ → ℕ → ℕ → Page
  page_at chips c = let chip = unit (chip_bytes l) c chips in λ p. page_of (unit (page_bytes l) p chip)
