-- A list at a place: after the room that was made for it the images have passed the tests again, and the place is on the chip.
use Prim.Native.Nat.{ℕ, ◌≤◌, ◌<◌}
use native.Mathlib.Omega.{arith}
use mathlib.Core.Path.{◌≡◌, ◌∙◌}
use mathlib.Core.Bool.{true, false}
use mathlib.Core.List.{List}
use lib.ListN.{get_or}
use Rattle.std.specs.Prelude.{Option, Some, None}
use Rattle.ranges.specs.Look.{when_found, found_in}
use Rattle.layout.specs.declared.Geometry.{Geometry}
use Rattle.layout.specs.Layout.{Layout, layout_of, pages}
use Rattle.layout.specs.Page.{page_at}
use Rattle.layout.specs.Record.{record_at, has_slot}
use Rattle.layout.specs.Collection.{collection_at}
use Rattle.layout.specs.Images.{Images}
use Rattle.layout.proofs.Pages.{page_in_fits}
use Rattle.layout.proofs.Records.{same_slotted}
use Rattle.steps.specs.declared.Progress.{Progress}
use Rattle.steps.specs.Steps.{Step}
use Rattle.steps.specs.Allowance.{Ran, images}
use Rattle.steps.proofs.Prefixes.{leads_weaken}
use Rattle.steps.proofs.Allowances.{ran_none, ran_then, ran_then_cut, ran_whole}
use Rattle.rules.specs.Place.{place_of}
use Rattle.rules.specs.Room.{room_steps, at_place, placed}
use Rattle.rules.specs.Partial.{lowest_free_slot}
use Rattle.rules.specs.Sound.{record_sound}
use Rattle.rules.proofs.Soundness.Statements.{Usable, Sound, rest_collects}
use Rattle.rules.proofs.Soundness.RecordChecks.{record_pass}
use Rattle.rules.proofs.Stores.Kept.{Kept}
use Rattle.rules.proofs.Space.Room.{place_at}
use Rattle.rules.proofs.Space.FreeSlot.{free_stays}
use Rattle.rules.proofs.Lists.Collecting.{HasPlace, room_leads}
use Rattle.codec.specs.Fit.{SlotsFit}
use Rattle.names.specs.Checked.{Settled}
use Rattle.spares.specs.declared.ChipScan.{ChipScan}
use Rattle.spares.specs.Scans.{unscanned}
use Rattle.space.specs.Victims.{VictimFor, Victims}
use Rattle.names.proofs.Statements.{usable, stripes, chip_is_sound, sound, checked}

-- sound images at rest pass the tests
pub settled_at : (g : Geometry) {x r : List ℕ} → Settled g x r → (t : Images) → Sound (layout_of g) t → (collection_at (layout_of g) t.records).phase ≡ 0
    → Settled g t.chips t.records
settled_at g h t f rest = record { checked = checked g h.checked.chips_fit.limited t f; at_rest = rest }

module _ {g : Geometry} {x r : List ℕ} (h : Settled g x r) where
  abbrev l : Layout
  l = layout_of g

  u : Usable l
  u = usable g x r h.checked

  -- a chip is one of at most seven
  pub seven : {c : ℕ} → c ≤ g.n → c < 7
  seven low = omega (arith, u.within.members_high)

  -- the record of a stripe is sound
  pub record_passes : {j : ℕ} → j < g.s → record_sound l (record_at l r j) ≡ true
  record_passes {j} low = record_pass l (record_at l r j) ((stripes g x r h.checked).stripe j low)

  -- a place that is found is a page of the chip
  pub place_fits : {c k : ℕ} → c ≤ g.n → place_of l (page_at l x c) ≡ Some k → k < pages l
  place_fits {c} {k} chip found =
      let o = place_at l u.within (record_at l r) (page_at l x c) c (collection_at l r) (chip_is_sound g x r h.checked c chip) (rest_collects (collection_at l r) c h.at_rest) k found in
      rw o.is (page_in_fits l o.block o.place o.fillable.block o.fillable.place)

  module _ {z : List ℕ} (slots : SlotsFit g z) where
    abbrev s : Images
    s = images x r z

    f : Sound l s
    f = sound g x r h.checked z slots.long

    -- room was to be made on chip c
    module _ {c : ℕ} (chip : c ≤ g.n) {p q : Progress} {x₁ r₁ : List ℕ} (first : Ran l p (room_steps l c s) q s (images x₁ r₁ z)) where
      abbrev t : Images
      t = images x₁ r₁ z

      -- where that is not cut
      module _ (going : q.cut ≡ false) where
        kept : Kept l s t × HasPlace l c t
        kept =
            rw (ran_whole l p q (room_steps l c s) s t first going)
            (leads_weaken l (Kept l) (Kept l) (HasPlace l c) (λ w. Kept l s w × HasPlace l c w) (room_steps l c s) s (λ w k. k) (λ w k o. (k, o))
            (room_leads l u s f h.at_rest c (omega arith))).ends

        pub room_settled : Settled g x₁ r₁
        room_settled = settled_at g h t kept.0.sound kept.1.rest

        -- a stripe with a slot has it still
        pub room_slotted : {j : ℕ} → j < g.s → has_slot (record_at l r j) ≡ true → has_slot (record_at l r₁ j) ≡ true
        room_slotted {j} low e = same_slotted (record_at l r j) (record_at l r₁ j) (kept.0.slot j low) ∙ e

        -- and the lowest free slot is the same
        pub room_free : lowest_free_slot l (record_at l r₁) ≡ lowest_free_slot l (record_at l r)
        room_free = free_stays l (record_at l r) (record_at l r₁) kept.0.slot

      module _ (fill : ℕ → Images → List Step) where
        -- where it is cut, that is all
        pub placed_cut : q.cut ≡ true → Ran l p (placed l c fill s) q s t
        unfolding placed
        placed_cut cut = ran_then_cut l p q (room_steps l c s) (at_place l c fill) s t first cut

        -- what is done at the place
        pub placed_at : {k : ℕ} → place_of l (page_at l x₁ c) ≡ Some k → {w : Progress} {v : Images} → Ran l q (fill k t) w t v → Ran l p (placed l c fill s) w s v
        unfolding placed at_place when_found
        placed_at found {w} {v} second = ran_then l p q w (room_steps l c s) (at_place l c fill) s t v first (rw found second)

        pub placed_nowhere : place_of l (page_at l x₁ c) ≡ None → Ran l p (placed l c fill s) q s t
        unfolding placed at_place when_found
        placed_nowhere found = ran_then l p q q (room_steps l c s) (at_place l c fill) s t t first (rw found (ran_none l q t first.sane))

-- a chip by another name
pub placed_on : (l : Layout) {c d : ℕ} → c ≡ d → (fill : ℕ → Images → List Step) {p q : Progress} {s t : Images} → Ran l p (placed l c fill s) q s t → Ran l p (placed l d fill s) q s t
placed_on l e fill h = rw e at h

-- the victim of a chip, which may have another name, is known
pub known_victim : {g : Geometry} {x r : List ℕ} {scans : List ChipScan} {c d : ℕ} {v : Option ℕ} → Victims g x r scans → c ≤ g.n → c ≡ d
    → v ≡ found_in (get_or scans c unscanned).victim → VictimFor g x r d v
known_victim {c = c} h low same e = rw (← same) (record { is = λ _. e ∙ h.at c low })
