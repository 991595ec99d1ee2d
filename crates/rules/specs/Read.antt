-- Document 01, "Read".
use Rattle.std.specs.Prelude.{ℕ, cond, replicate}
use Rattle.layout.specs.Layout.{Layout, is_none}
use Rattle.layout.specs.Rotation.{member_of, stripe_of}
use Rattle.layout.specs.Record.{record_at}
use Rattle.layout.specs.Images.{Images}
use Rattle.rules.specs.declared.Role.TheVariants.{Current}
use Rattle.rules.specs.declared.Origin.TheVariants.{Unwritten}
use Rattle.rules.specs.Fetch.{Fetched, fetch_in}

module _ (l : Layout) where
  open l use {W}

  -- "zeros if none"
  abbrev pub unwritten : Fetched
  unwritten = record { bytes = replicate W 0; reads = 0; origin = Unwritten }

  -- "copies the current page; zeros if none": member m of stripe j
  unfoldable pub fetch_member : Images → ℕ → ℕ → ℕ → Fetched
  fetch_member s lost j m =
      cond (is_none l ((record_at l s.records j).current m)) unwritten (fetch_in l s lost j (Current m))

  -- the read of logical page i
  unfoldable pub fetch : Images → ℕ → ℕ → Fetched
  fetch s lost i = fetch_member s lost (stripe_of l i) (member_of l i)
