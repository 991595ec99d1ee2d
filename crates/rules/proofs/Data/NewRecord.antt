-- A new page, and a record store that names it at last: what any record of a stripe leaves.
use Prim.Native.Nat.{ℕ, ◌<◌}
use native.Mathlib.Decide.{ℕ_discrete}
use native.Mathlib.Omega.{arith}
use mathlib.Core.Path.{◌≡◌, refl, ap, ◌∙◌}
use mathlib.Core.Logic.{◌≢◌}
use mathlib.Core.Bool.{false}
use mathlib.Core.List.{List}
use Rattle.ranges.proofs.Updates.{at_same, at_other}
use Rattle.layout.specs.Layout.{Layout, no_chip, is_none, pages}
use Rattle.layout.specs.Rotation.{member_of, stripe_of}
use Rattle.layout.specs.Page.{page_at}
use Rattle.layout.specs.Record.{Record, record_at}
use Rattle.layout.specs.Collection.{Collection, collection_at}
use Rattle.layout.specs.Images.{Images, slot_at}
use Rattle.layout.proofs.Records.{SixMembers}
use Rattle.steps.specs.Store.{stripe, apply}
use Rattle.rules.specs.Names.{main_number, side_number, named}
use Rattle.rules.specs.Read.{fetch}
use Rattle.rules.proofs.Soundness.Statements.{Usable, RecordSound, Stamped, Sound, sound_chip}
use Rattle.rules.proofs.Stores.Kept.{CopiesOf, no_copies_yet}
use Rattle.rules.proofs.Stores.Storing.{stripe_view, stripe_collection}
use Rattle.rules.proofs.Data.Contents.{StripeData, Data}
use Rattle.rules.proofs.Data.Carries.{same_read}
use Rattle.rules.proofs.Data.Entries.{StampedBy}

module _ (l : Layout) where
  -- the new page of stripe j on chip c: it is whole, stamped, and no record names it yet
  pub record NewPage (s : Images) (c j p : ℕ) (xs : List ℕ) : Type 0 where
    pub fits : p < pages l
    pub unnamed : named l (record_at l s.records) c p ≡ false
    pub stamped : Stamped l (page_at l s.chips c) c j p
    pub bytes : (page_at l s.chips c p).bytes ≡ xs

module _ (l : Layout) (u : Usable l) where
  open l use {S}

  -- the pages of stripe j are stamped
  pub main_stamped : (t : Images) → Sound l t → (j : ℕ) → j < S → StampedBy l (page_at l t.chips) j (λ c. main_number l c j (record_at l t.records j))
  main_stamped t f j fits c chip = (sound_chip l u t f c chip).main j fits

  pub side_stamped : (t : Images) → Sound l t → (j : ℕ) → j < S → StampedBy l (page_at l t.chips) j (λ c. side_number l c j (record_at l t.records j))
  side_stamped t f j fits c chip = (sound_chip l u t f c chip).side j fits

  -- ---- any record of stripe j, stored on images t

  module _ (t : Images) (f : Sound l t) (j : ℕ) (fits : j < S) (r' : Record) (sound' : RecordSound l r') (six : SixMembers l r') where
    abbrev after : Images
    after = apply l (stripe j r') t

    pub stored_chips : after.chips ≡ t.chips
    unfolding apply
    stored_chips = refl

    stored_slots : after.slots ≡ t.slots
    unfolding apply
    stored_slots = refl

    pub stored_here : record_at l after.records j ≡ r'
    stored_here = ap (λ (r : ℕ → Record). r j) (stripe_view l u t f j r' fits sound' six) ∙ at_same j r' (record_at l t.records)

    pub stored_other : (i : ℕ) → i ≢ j → record_at l after.records i ≡ record_at l t.records i
    stored_other i d =
        ap (λ (r : ℕ → Record). r i) (stripe_view l u t f j r' fits sound' six) ∙ at_other j r' (record_at l t.records) i d

    -- a collection at rest has no copies
    pub stored_copies : (collection_at l t.records).phase ≡ 0 → CopiesOf l after
    stored_copies rest =
        let co = collection_at l after.records in
        let still : co.phase ≡ 0 = ap (λ (o : Collection). o.phase) (stripe_collection l u t f j r' fits sound' six) ∙ rest in
        no_copies_yet l (record_at l after.records) (page_at l after.chips co.chip) co (omega (arith, still))

    pub stored_data : StripeData l (page_at l t.chips) (slot_at l t.slots) j r' → Data l t → Data l after
    stored_data here there i h = rw (stored_chips, stored_slots) (elim (ℕ_discrete i j) [
      | yes e ↦ rw (e, stored_here) here
      | no d ↦ rw (stored_other i d) (there i h)
    ])

    -- a page whose number stays reads as before
    pub stored_read : (i : ℕ) → (record_at l after.records (stripe_of l i)).current (member_of l i) ≡ (record_at l t.records (stripe_of l i)).current (member_of l i)
        → fetch l after no_chip i ≡ fetch l t no_chip i
    stored_read i e = same_read l u.within t after i (record { none_too = ap (is_none l) e; bytes = rw (e, stored_chips) })
