-- The two stores after a page is written, as the code makes them.
use Prim.Native.Nat.{ℕ}
use mathlib.Core.Path.{◌≡◌, ap}
use mathlib.Core.List.{List, [], ◌∷◌}
use Rattle.std.specs.Prelude.{Some, None}
use Rattle.ranges.specs.Look.{when_found}
use Rattle.layout.specs.declared.Geometry.{Geometry}
use Rattle.layout.specs.Layout.{Layout, layout_of}
use Rattle.layout.specs.Page.{page_at}
use Rattle.layout.specs.Record.{Record, record_at}
use Rattle.layout.specs.Images.{slot_at}
use Rattle.steps.specs.Store.{slot, stripe}
use Rattle.steps.specs.Steps.{plain}
use Rattle.steps.specs.Allowance.{images}
use Rattle.rules.specs.Fetch.{feed_role, feed_in}
use Rattle.rules.specs.Partial.{lowest_free_slot, new_partial, written, slot_steps}
use Rattle.codec.specs.declared.StripeRecord.{StripeRecord}
use Rattle.codec.specs.Views.{record_from}
use Rattle.partial.specs.Feed.{partial_in}

module _ (g : Geometry) (j m : ℕ) (xs : List ℕ) (q : ℕ) (x y z : List ℕ) where
  abbrev l : Layout
  l = layout_of g

  -- no slot is free: no store
  pub steps_none : lowest_free_slot l (record_at l y) ≡ None → slot_steps l j m xs q (images x y z) ≡ []
  unfolding slot_steps when_found
  steps_none e = rw e

  module _ (e : StripeRecord) (is : record_from l e ≡ record_at l y j) where
    -- the new partial parity from the images
    partial_from : partial_in g x z j m xs e ≡ new_partial l (feed_in l (images x y z) j) (slot_at l z (record_at l y j).slot) m xs (record_at l y j)
    partial_from = ap (λ (r : Record). new_partial l (feed_role l (page_at l x) (slot_at l z) j r) (slot_at l z r.slot) m xs r) is

    -- slot i is free: the partial parity zs, for which so many pages were read, and the record n
    pub steps_found : (i : ℕ) → lowest_free_slot l (record_at l y) ≡ Some i → {n : Record} {zs : List ℕ} {reads : ℕ}
        → zs ≡ (partial_in g x z j m xs e).bytes → reads ≡ (partial_in g x z j m xs e).reads → n ≡ written l m q i (record_from l e)
        → slot_steps l j m xs q (images x y z) ≡ record { reads = reads; store = slot i zs } ∷ plain (stripe j n) ∷ []
    unfolding slot_steps when_found
    steps_found i found bytes reads new = rw (found, bytes, reads, new, partial_from, is)
