-- What a page must be that is copied.
use Rattle.std.specs.Prelude.{ℕ, ◌<◌, ◌≡◌, true, List}
use Rattle.layout.specs.Layout.{Layout}
use Rattle.layout.specs.Page.{page_at}
use Rattle.layout.specs.Record.{record_at}
use Rattle.rules.specs.Names.{names}
use Rattle.rules.specs.Sound.{record_sound}

-- the record of its stripe is sound and names it
pub record Copyable (l : Layout) (chips records : List ℕ) (c p : ℕ) : Type 0 where
  pub stripe : (page_at l chips c p).stripe < l.S
  pub sound : record_sound l (record_at l records (page_at l chips c p).stripe) ≡ true
  pub named : names l (record_at l records) c p (page_at l chips c p).stripe ≡ true
