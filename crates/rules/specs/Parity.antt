-- Document 01, "Commit": the new parity, and what a commit stores at its place.
use Rattle.std.specs.Prelude.{ℕ, cond, not, List, [], ◌∷◌}
use Rattle.layout.specs.Layout.{Layout, none}
use Rattle.layout.specs.Rotation.{parity_chip}
use Rattle.layout.specs.Page.{Page, parity_kind, blank_tail}
use Rattle.layout.specs.Record.{Record, record_at, bit, no_slot}
use Rattle.layout.specs.Images.{Images, slot_at}
use Rattle.steps.specs.Store.{program, stripe}
use Rattle.steps.specs.Steps.{Step, plain}
use Rattle.rules.specs.declared.Role.{Role}
use Rattle.rules.specs.declared.Role.TheVariants.{Current, Old, Parity}
use Rattle.rules.specs.Costs.{set_bits, most_in_partial}
use Rattle.rules.specs.Fetch.{Feed, given, xored, fed, feed_in, members_feed}

module _ (l : Layout) where
  -- with the pages in their roles and the bytes of the slot: "parity is partial ⊕ pages not in the bitmap;
  -- else partial ⊕ old parity ⊕ old pages of the bitmap"
  unfoldable pub new_parity : (Role → Feed) → List ℕ → Record → Feed
  new_parity page partial r =
      xored (given partial)
      (cond (most_in_partial l.N (set_bits l r))
      (members_feed l (λ m. not (bit r m)) (λ m. page (Current m)))
      (xored (page Parity) (members_feed l (bit r) (λ m. page (Old m)))))

  -- "kind (.. 80 parity), member (0 for parity), stripe, copied-from page (.. 65,535 if no copy)"
  abbrev pub parity_page : ℕ → List ℕ → Page
  parity_page j xs =
      record { bytes = xs; kind = parity_kind; member = 0; stripe = j; copied = none l; tail = blank_tail l }

  -- "store record j with the new parity page, no olds, no bitmap, no slot"
  unfoldable pub committed : ℕ → Record → Record
  committed p r =
      record { current = r.current; old = λ m. none l; parity = p; bitmap = 0; slot = no_slot; rest = 0 }

  -- the two stores of a commit of stripe j at page p, from its record r
  abbrev pub commit_stores : ℕ → ℕ → Images → Record → List Step
  commit_stores j p s r =
      fed (new_parity (feed_in l s j) (slot_at l s.slots r.slot) r)
      (λ xs. program (parity_chip l j) p (parity_page j xs))
      ∷ plain (stripe j (committed p r))
      ∷ []

  -- from the images as they then stand
  unfoldable pub commit_at : ℕ → ℕ → Images → List Step
  commit_at j p s = commit_stores j p s (record_at l s.records j)
