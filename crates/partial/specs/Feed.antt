-- What the code feeds a slot with, for a write to stripe j with the record e: no chip is lost.
use Rattle.std.specs.Prelude.{ℕ, List}
use Rattle.layout.specs.declared.Geometry.{Geometry}
use Rattle.layout.specs.Layout.{layout_of}
use Rattle.layout.specs.Page.{page_at}
use Rattle.layout.specs.Images.{slot_at}
use Rattle.rules.specs.Fetch.{Feed, feed_role}
use Rattle.rules.specs.Partial.{new_partial}
use Rattle.codec.specs.declared.StripeRecord.{StripeRecord}
use Rattle.codec.specs.Views.{record_from}

-- the new partial parity
abbrev pub partial_in : Geometry → List ℕ → List ℕ → ℕ → ℕ → List ℕ → StripeRecord → Feed
partial_in g chips slots j m xs e =
    let l = layout_of g in
    let r = record_from l e in
    new_partial l (feed_role l (page_at l chips) (slot_at l slots) j r) (slot_at l slots r.slot) m xs r
