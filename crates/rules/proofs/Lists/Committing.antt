-- A commit as a whole: every cut of it keeps what the images hold, and at its end the stripe has no slot.
use Prim.Native.Nat.{ℕ, suc, ◌<◌}
use native.Mathlib.Omega.{arith}
use mathlib.Core.Path.{◌≡◌, refl, sym, ap, ◌∙◌}
use mathlib.Core.Logic.{◌≢◌}
use mathlib.Core.Bool.{true}
use Rattle.ranges.specs.Look.{count_below}
use Rattle.ranges.proofs.Counts.{count_cong}
use Rattle.layout.specs.Layout.{Layout}
use Rattle.layout.specs.Rotation.{parity_chip}
use Rattle.layout.specs.Page.{Page, page_at}
use Rattle.layout.specs.Record.{Record, has_slot, slotted, record_at}
use Rattle.layout.specs.Collection.{Collection, collection_at}
use Rattle.layout.specs.Images.{Images, slot_at}
use Rattle.layout.proofs.Codec.{PageFits, length_blank}
use Rattle.layout.proofs.Rotations.{parity_chip_fits}
use Rattle.layout.proofs.Records.{same_slotted}
use Rattle.layout.proofs.Pages.{none_fits}
use Rattle.steps.specs.Store.{program, stripe, apply}
use Rattle.steps.specs.Steps.{Step, plain}
use Rattle.steps.proofs.Prefixes.{Closes, closes_two}
use Rattle.rules.specs.Fetch.{fetch_in}
use Rattle.rules.specs.Parity.{parity_page, committed, commit_at}
use Rattle.rules.specs.Commit.{commit_steps}
use Rattle.rules.proofs.Soundness.Statements.{Usable, Sound}
use Rattle.rules.proofs.Stores.Names.{kind_parity, stamp_parity}
use Rattle.rules.proofs.Stores.Kept.{Kept, kept_refl, kept_trans}
use Rattle.rules.proofs.Data.Carries.{Carries, carries_trans, kept_carries}
use Rattle.rules.proofs.Data.NewRecord.{NewPage}
use Rattle.rules.proofs.Data.CommitRecord.{commit_carries, commit_collection, commit_frees, commit_others}
use Rattle.rules.proofs.Data.Entries.{new_parity_length}
use Rattle.rules.proofs.Space.Room.{PlaceAt}
use Rattle.rules.proofs.Lists.Filling.{fill_kept, fill_new}
use Rattle.rules.proofs.Lists.Collecting.{placed_closes}
use Rattle.rules.proofs.Data.Feeds.{parity_fed, parity_bytes, parity_reads}

-- a step that stores the record of stripe j
abbrev pub StoresRecord : ℕ → Step → Type 0
StoresRecord j x = (r : Record) × (x ≡ plain (stripe j r))

module _ (l : Layout) where
  open l use {S}

  -- t is s with stripe j committed
  pub record Committed (j : ℕ) (s t : Images) : Type 0 where
    pub carries : Carries l s t
    pub rest : (collection_at l t.records).phase ≡ 0
    pub fewer : suc (count_below S (slotted (record_at l t.records))) ≡ count_below S (slotted (record_at l s.records))
    pub others : (i : ℕ) → i < S → i ≢ j → (record_at l t.records i).slot ≡ (record_at l s.records i).slot

  -- as many records have a slot
  pub kept_count : (s t : Images) → Kept l s t → count_below S (slotted (record_at l t.records)) ≡ count_below S (slotted (record_at l s.records))
  kept_count s t k =
      count_cong S (slotted (record_at l t.records)) (slotted (record_at l s.records)) (λ j h. same_slotted (record_at l s.records j) (record_at l t.records j) (k.slot j h))

module _ (l : Layout) (u : Usable l) where
  open l use {S}

  kept_committed : (j : ℕ) (s t v : Images) → Kept l s t → Committed l j t v → Committed l j s v
  kept_committed j s t v k c = record {
    carries = carries_trans l s t v (kept_carries l u s t k) c.carries;
    rest = c.rest;
    fewer = c.fewer ∙ kept_count l s t k;
    others = λ i fits other. c.others i fits other ∙ k.slot i fits;
  }

  module _ (j : ℕ) (fits : j < S) where
    -- at a place p of images t
    module _ (t : Images) (g : Sound l t) (rest : (collection_at l t.records).phase ≡ 0) (slot : has_slot (record_at l t.records j) ≡ true)
        (p : ℕ) (o : PlaceAt l (page_at l t.chips (parity_chip l j)) p) where
      abbrev page : Page
      page = parity_page l j (parity_bytes l (page_at l t.chips) (slot_at l t.slots) j (record_at l t.records j))

      page_fits : PageFits l page
      page_fits = record {
        whole = new_parity_length l u.within t j g fits slot;
        stripe = omega (arith, u.within.stripes_high);
        copied = none_fits l;
        tail = length_blank l;
      }

      abbrev t₁ : Images
      t₁ = apply l (program (parity_chip l j) p page) t

      first : Kept l t t₁
      first = fill_kept l u t g rest (parity_chip l j) (parity_chip_fits l j) p o page page_fits (omega arith)

      same_records : t₁.records ≡ t.records
      unfolding apply
      same_records = refl

      new : NewPage l t₁ (parity_chip l j) j p (parity_bytes l (page_at l t.chips) (slot_at l t.slots) j (record_at l t.records j))
      new =
          fill_new l u t g rest (parity_chip l j) (parity_chip_fits l j) p o page page_fits (omega arith) j refl (sym (kind_parity l j)) (sym (stamp_parity l j))

      last : Committed l j t (apply l (stripe j (committed l p (record_at l t₁.records j))) t₁)
      unfolding apply
      last = record {
        carries = commit_carries l u t t₁ first same_records rest j p fits slot new;
        rest = ap (λ (o : Collection). o.phase) (commit_collection l u t t₁ first same_records rest j p fits slot new) ∙ rest;
        fewer = commit_frees l u t t₁ first same_records rest j p fits slot new;
        others = λ i h other. ap (λ (r : Record). r.slot) (commit_others l u t t₁ first same_records rest j p fits slot new i other);
      }

      commit_fills : Closes l (Kept l) (Committed l j) (StoresRecord j) (commit_at l j p t) t
      unfolding commit_at fetch_in apply
      commit_fills =
          rw (parity_fed l u.within (page_at l t.chips) (slot_at l t.slots) j (record_at l t.records j))
          (closes_two l (Kept l) (Committed l j) (StoresRecord j) (record { reads = parity_reads l (record_at l t.records j); store = program (parity_chip l j) p page })
          (plain (stripe j (committed l p (record_at l t.records j)))) t (kept_refl l t g) first last (committed l p (record_at l t.records j), refl))

    -- a commit from its first store to its last, with the collection that it may need
    pub commit_closes : (s : Images) → Sound l s → (collection_at l s.records).phase ≡ 0 → has_slot (record_at l s.records j) ≡ true
        → Closes l (Kept l) (Committed l j) (StoresRecord j) (commit_steps l j s) s
    unfolding commit_steps
    commit_closes s f rest slot =
        placed_closes l u s f rest (parity_chip l j) (parity_chip_fits l j) (Kept l) (Committed l j) (StoresRecord j) (λ t w k. k) (kept_trans l) (kept_committed j) (commit_at l j)
        (λ t k still p o. commit_fills t k.sound still (same_slotted (record_at l s.records j) (record_at l t.records j) (k.slot j fits) ∙ slot) p o)
