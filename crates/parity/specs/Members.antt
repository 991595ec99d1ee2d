-- What the code gathers for the new parity of stripe j, from its record e: no chip is lost.
use Rattle.std.specs.Prelude.{ℕ, Bool, not, cond, List}
use Rattle.layout.specs.declared.Geometry.{Geometry}
use Rattle.layout.specs.Layout.{Layout, layout_of}
use Rattle.layout.specs.Page.{page_at}
use Rattle.layout.specs.Record.{Record, bit}
use Rattle.layout.specs.Images.{slot_at}
use Rattle.rules.specs.declared.Role.{Role}
use Rattle.rules.specs.declared.Role.TheVariants.{Current, Old}
use Rattle.rules.specs.Fetch.{Feed, feed_role, members_feed}
use Rattle.rules.specs.Parity.{new_parity}
use Rattle.codec.specs.declared.StripeRecord.{StripeRecord}
use Rattle.codec.specs.Views.{record_from}

-- the member's page that goes into it, inside the bitmap or outside
abbrev pub member_role : Bool → ℕ → Role
member_role inside m = cond inside (Old m) (Current m)

module _ (g : Geometry) (chips slots : List ℕ) (j : ℕ) (e : StripeRecord) where
  abbrev l : Layout
  l = layout_of g

  abbrev r : Record
  r = record_from l e

  -- a page in its role
  abbrev pub page_in : Role → Feed
  page_in role = feed_role l (page_at l chips) (slot_at l slots) j r role

  -- member m is one of them
  abbrev pub member_in : Bool → ℕ → Bool
  member_in inside m = cond inside (bit r m) (not (bit r m))

  -- "old pages of the bitmap", or "pages not in the bitmap"
  abbrev pub members_in : Bool → Feed
  members_in inside = members_feed l (member_in inside) (λ m. page_in (member_role inside m))

  -- the new parity
  abbrev pub parity_in : Feed
  parity_in = new_parity l page_in (slot_at l slots r.slot) r
