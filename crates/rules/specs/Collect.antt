-- Document 01, "Collect".
use Rattle.std.specs.Prelude.{ℕ, Bool, cond, ◌&&◌, List, [], ◌∷◌, ◌++◌, Option}
use Rattle.ranges.specs.Look.{some_below, count_below, least_below, when_found}
use Rattle.layout.specs.Layout.{Layout, page_in}
use Rattle.layout.specs.Page.{Page, blank_tail, page_at}
use Rattle.layout.specs.Record.{Record, record_at}
use Rattle.layout.specs.Collection.{Collection}
use Rattle.layout.specs.Images.{Images}
use Rattle.steps.specs.Store.{program, collection}
use Rattle.steps.specs.Steps.{Step, plain, and_then, steps_below}
use Rattle.rules.specs.Fetch.{Feed, fed, feed_in}
use Rattle.rules.specs.Names.{role_of}
use Rattle.rules.specs.Blocks.{named_in, unnamed_in, full_block, lowest_clean_block}
use Rattle.rules.specs.Open.{finish_steps}

-- the collection record of a phase on chip c
abbrev pub phase : ℕ → ℕ → ℕ → ℕ → Collection
phase n c victim destination =
    record { phase = n; chip = c; victim = victim; destination = destination; rest = 0 }

module _ (l : Layout) where
  open l use {K, B}

  -- a copy of page p, which is x, with the data xs: its stamp, and where it is copied from
  abbrev pub copy_of : ℕ → Page → List ℕ → Page
  copy_of p x xs =
      record { bytes = xs; kind = x.kind; member = x.member; stripe = x.stripe; copied = p; tail = blank_tail l }

  -- on chip c, with its pages x and the records r
  module _ (c : ℕ) (x : ℕ → Page) (r : ℕ → Record) where
    -- "the full block with an unnamed page"
    unfoldable pub collectable : ℕ → Bool
    collectable b = full_block l x b && some_below K (unnamed_in l r c b)

    -- "pages named by records (as current, old or parity)"
    unfoldable pub named_count : ℕ → ℕ
    named_count b = count_below K (named_in l r c b)

    -- "that has fewest pages named by records .., lowest on ties"
    unfoldable pub victim_of : Option ℕ
    victim_of = least_below B collectable named_count

  -- the pages of chip c are x, as copies they are fed with `page`, and the records are r
  module _ (c : ℕ) (x : ℕ → Page) (page : ℕ → Feed) (r : ℕ → Record) where
    -- "copy the named pages in ascending order to places 0, 1, ..": what is done of place i of the victim
    unfoldable pub copy_from : ℕ → ℕ → ℕ → List Step
    copy_from victim destination i =
        cond (named_in l r c victim i)
        (fed (page (page_in l victim i))
        (λ xs. program c (page_in l destination (count_below i (named_in l r c victim)))
        (copy_of (page_in l victim i) (x (page_in l victim i)) xs))
        ∷ [])
        []

    -- "Store phase 1; copy ..; store phase 2"
    unfoldable pub copy_steps : ℕ → ℕ → List Step
    copy_steps victim destination =
        plain (collection (phase 1 c victim destination))
        ∷ (steps_below K (copy_from victim destination) ++ (plain (collection (phase 2 c victim destination)) ∷ []))

  -- page p of chip c, in the role that the record of its stripe has for it: "A copied page is one read."
  unfoldable pub copy_feed : ℕ → Images → ℕ → Feed
  copy_feed c s p =
      feed_in l s (page_at l s.chips c p).stripe
      (role_of l c (page_at l s.chips c p).stripe (record_at l s.records (page_at l s.chips c p).stripe) p)

  -- the collection of a block of chip c: "the destination is the lowest clean block"; what follows phase 2 is what
  -- open does of it
  unfoldable pub collect_block : ℕ → ℕ → Images → List Step
  collect_block c victim s =
      when_found (lowest_clean_block l (page_at l s.chips c))
      (λ destination. and_then l
      (copy_steps c (page_at l s.chips c) (copy_feed c s) (record_at l s.records) victim destination)
      (finish_steps l) s)
      []

  -- the collection of chip c: "the victim is .."
  unfoldable pub collect_steps : ℕ → Images → List Step
  collect_steps c s =
      when_found (victim_of c (page_at l s.chips c) (record_at l s.records)) (λ victim. collect_block c victim s) []
