-- The commit that a write may owe: what it leaves.
use Prim.Native.Nat.{ℕ, ◌<◌}
use native.Mathlib.Omega.{arith}
use mathlib.Core.Path.{◌≡◌, refl, sym, ap, ◌∙◌}
use mathlib.Core.Bool.{true, false}
use mathlib.Core.List.{List, []}
use lib.ListN.{get_or}
use Rattle.std.specs.Prelude.{Option, Some, None}
use Rattle.ranges.specs.Look.{when_found, found_in}
use Rattle.ranges.proofs.Looks.{least_at}
use Rattle.layout.specs.declared.Geometry.{Geometry}
use Rattle.layout.specs.Layout.{Layout, layout_of}
use Rattle.layout.specs.Rotation.{parity_chip}
use Rattle.layout.specs.Record.{Record, record_at, has_slot, slotted}
use Rattle.layout.specs.Collection.{collection_at}
use Rattle.layout.specs.Images.{Images}
use Rattle.layout.proofs.Rotations.{parity_chip_fits}
use Rattle.steps.specs.declared.Progress.{Progress}
use Rattle.steps.specs.Allowance.{Ran, images}
use Rattle.steps.proofs.Prefixes.{leads_weaken}
use Rattle.steps.proofs.Allowances.{ran_whole}
use Rattle.rules.specs.Costs.{record_cost, cheapest}
use Rattle.rules.specs.Commit.{commit_steps}
use Rattle.rules.specs.Partial.{lowest_free_slot}
use Rattle.rules.specs.Write.{commit_owed, owed_steps}
use Rattle.rules.proofs.Soundness.Statements.{Usable, Sound}
use Rattle.rules.proofs.Data.Carries.{Carries}
use Rattle.rules.proofs.Space.Room.{free_slot_lem}
use Rattle.rules.proofs.Space.FreeSlot.{frees, free_lowered}
use Rattle.rules.proofs.Lists.Committing.{Committed, commit_closes}
use Rattle.rules.proofs.Lists.Writing.{Ready, owed_leads}
use Rattle.codec.specs.Fit.{SlotsFit}
use Rattle.names.specs.Checked.{Settled}
use Rattle.records.specs.declared.SlotScan.{SlotScan}
use Rattle.records.specs.Slots.{slot_scan}
use Rattle.spares.specs.declared.ChipScan.{ChipScan}
use Rattle.spares.specs.Scans.{unscanned}
use Rattle.space.specs.Victims.{VictimFor, Victims}
use Rattle.write.specs.Slots.{lower_of}
use Rattle.names.proofs.Statements.{usable, sound}
use Rattle.commit.proofs.Placing.{settled_at, known_victim}

module _ {g : Geometry} {x r : List ℕ} (h : Settled g x r) where
  abbrev l : Layout
  l = layout_of g

  u : Usable l
  u = usable g x r h.checked

  module _ {z : List ℕ} (slots : SlotsFit g z) where
    abbrev s : Images
    s = images x r z

    f : Sound l s
    f = sound g x r h.checked z slots.long

    -- a commit that may be owed was to be made; where it is not cut the images have passed the tests again
    pub owed_settled : (j : ℕ) {p q : Progress} {x₁ r₁ : List ℕ} → Ran l p (owed_steps l j s) q s (images x₁ r₁ z) → q.cut ≡ false → Settled g x₁ r₁
    owed_settled j {p} {q} {x₁} {r₁} first going =
        let w = images x₁ r₁ z in
        let (k, ready) : Carries l s w × Ready l j w =
        rw (ran_whole l p q (owed_steps l j s) s w first going)
        (leads_weaken l (Carries l) (Carries l) (Ready l j) (λ v. Carries l s v × Ready l j v) (owed_steps l j s) s (λ v k. k) (λ v k o. (k, o))
        (owed_leads l u j s f h.at_rest)).ends in
        settled_at g h w k.sound ready.rest

    -- stripe k was to be committed; where that is not cut, the lowest free slot is the lower of the one before and that of stripe k
    pub commit_lowers : {k : ℕ} → k < g.s → has_slot (record_at l r k) ≡ true → {p q : Progress} {x₁ r₁ : List ℕ}
        → Ran l p (commit_steps l k s) q s (images x₁ r₁ z) → q.cut ≡ false
        → lowest_free_slot l (record_at l r₁) ≡ lower_of (lowest_free_slot l (record_at l r)) (record_at l r k).slot
    commit_lowers {k} low has {p} {q} {x₁} {r₁} first going =
        let w = images x₁ r₁ z in
        let c : Committed l k s w = rw (ran_whole l p q (commit_steps l k s) s w first going) (commit_closes l u k low s f h.at_rest has).whole in
        let (i, e, _, _) = free_slot_lem l u.within (record_at l r) (collection_at l r) f.stripes in
        rw e (free_lowered l u.within (frees l (record_at l r₁) f.stripes k low has c.fewer c.others) i e)

module _ (l : Layout) (j : ℕ) (s : Images) where
  pub owed_not : commit_owed l (record_at l s.records) j ≡ false → owed_steps l j s ≡ []
  unfolding owed_steps
  owed_not e = rw e

  pub owed_commits : {k : ℕ} → commit_owed l (record_at l s.records) j ≡ true → cheapest l (record_at l s.records) ≡ Some k → owed_steps l j s ≡ commit_steps l k s
  unfolding owed_steps when_found
  owed_commits e found = rw (e, found)

  pub owed_nothing : commit_owed l (record_at l s.records) j ≡ true → cheapest l (record_at l s.records) ≡ None → owed_steps l j s ≡ []
  unfolding owed_steps when_found
  owed_nothing e found = rw (e, found)

-- a victim, and a chip, by other names
pub same_victim : {g : Geometry} {x r : List ℕ} {c d : ℕ} {v u : Option ℕ} → c ≡ d → v ≡ u → VictimFor g x r d u → VictimFor g x r c v
same_victim same e h = rw (same, e) h

-- the victim that was scanned of a chip by another name
pub victim_at : (scans : List ChipScan) {c d : ℕ} {v : Option ℕ} → v ≡ found_in (get_or scans c unscanned).victim → c ≡ d → v ≡ found_in (get_or scans d unscanned).victim
victim_at scans e same = rw same at e

-- the victim of the chip of the stripe to commit is known
pub owed_victim : {g : Geometry} {x r : List ℕ} {scans : List ChipScan} {found u : Option ℕ} → Victims g x r scans
    → u ≡ when_found found (λ k. found_in (get_or scans (parity_chip (layout_of g) k) unscanned).victim) None
    → (k : ℕ) → found ≡ Some k → VictimFor g x r (parity_chip (layout_of g) k) u
unfolding when_found
owed_victim {g} h e k is = known_victim h (omega (arith, parity_chip_fits (layout_of g) k)) refl (rw is at e)

-- the stripe to commit that the scan found is the cheapest; it is there, and has a slot
pub scanned_slotted : (l : Layout) (r : ℕ → Record) {seen : SlotScan} {k : ℕ} → seen ≡ slot_scan l r → seen.cheapest ≡ Some k
    → (cheapest l r ≡ Some k) × (k < l.S) × (has_slot (r k) ≡ true)
unfolding cheapest
scanned_slotted l r {seen} {k} scan is =
    let e : cheapest l r ≡ Some k = sym (ap (λ (x : SlotScan). x.cheapest) scan) ∙ is in
    let (low, has, _, _) = least_at l.S (slotted r) (record_cost l r) k e in
    (e, low, has)
