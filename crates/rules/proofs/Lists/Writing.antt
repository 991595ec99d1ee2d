-- A write as a whole: every cut of it keeps what the images hold, and at its end the page holds its data and every other page what it held.
use Prim.Native.Nat.{ℕ, ◌+◌, ◌*◌, ◌<◌}
use native.Mathlib.Omega.{arith}
use mathlib.Core.Path.{◌≡◌, refl, sym, ap, ◌∙◌}
use mathlib.Core.Logic.{◌≢◌}
use mathlib.Core.Bool.{true, false, not}
use mathlib.Core.List.{List, [], ◌∷◌}
use lib.ListN.{length}
use lib.Dec.{eqb}
use borrow.Author.Tests.{eqb-true, eqb-false}
use Rattle.std.specs.Prelude.{Some}
use Rattle.ranges.specs.Look.{count_below, when_found}
use Rattle.ranges.proofs.Looks.{by_test}
use Rattle.ranges.proofs.Tests.{and_both}
use Rattle.ranges.proofs.Updates.{at_same}
use Rattle.layout.specs.Layout.{Layout}
use Rattle.layout.specs.Rotation.{member_chip, member_of, stripe_of}
use Rattle.layout.specs.Page.{page_at}
use Rattle.layout.specs.Record.{Record, has_slot, slotted, record_at}
use Rattle.layout.specs.Collection.{collection_at}
use Rattle.layout.specs.Images.{Images, slot_at}
use Rattle.layout.proofs.Codec.{PageFits, length_blank}
use Rattle.layout.proofs.Rotations.{stripe_fits, member_fits, page_chip_fits}
use Rattle.layout.proofs.Records.{same_slotted}
use Rattle.layout.proofs.Pages.{none_fits}
use Rattle.steps.specs.Store.{program, slot, stripe, apply}
use Rattle.steps.specs.Steps.{plain}
use Rattle.steps.proofs.Prefixes.{Leads, leads_nil, leads_one, Closes, closes_two, closes_then, closes_leads, closes_weaken}
use Rattle.rules.specs.Fetch.{fetch_in}
use Rattle.rules.specs.Partial.{data_page, lowest_free_slot, written, slot_steps, write_at}
use Rattle.rules.specs.Write.{commit_owed, owed_steps, write_member, write_steps}
use Rattle.rules.specs.Commit.{commit_steps}
use Rattle.rules.specs.Room.{placed}
use Rattle.rules.proofs.Soundness.Statements.{Usable, Sound}
use Rattle.rules.proofs.Stores.Names.{kind_member, stamp_member}
use Rattle.rules.proofs.Stores.Kept.{Kept, kept_refl, kept_trans}
use Rattle.rules.proofs.Stores.Storing.{kept_slot, slot_view}
use Rattle.rules.proofs.Data.Carries.{Carries, Wrote, carries_refl, carries_trans, carries_wrote, kept_carries}
use Rattle.rules.proofs.Data.NewRecord.{NewPage}
use Rattle.rules.proofs.Data.WriteRecord.{write_wrote}
use Rattle.rules.proofs.Data.Entries.{new_partial_length}
use Rattle.rules.proofs.Space.Room.{PlaceAt, free_slot_lem, stripe_to_commit}
use Rattle.rules.proofs.Lists.Filling.{fill_kept, fill_new}
use Rattle.rules.proofs.Lists.Collecting.{placed_closes}
use Rattle.rules.proofs.Lists.Committing.{StoresRecord, Committed, kept_count, commit_closes}
use Rattle.rules.proofs.Data.Feeds.{partial_fed, partial_bytes}

module _ (l : Layout) where
  open l use {S, M}

  -- a slot for stripe j: it has one, or fewer than M records have
  abbrev pub SlotLeft : ℕ → Images → Type 0
  SlotLeft j t = has_slot (record_at l t.records j) ≡ false → count_below S (slotted (record_at l t.records)) < M

  -- at rest, and stripe j can have a slot
  pub record Ready (j : ℕ) (t : Images) : Type 0 where
    pub rest : (collection_at l t.records).phase ≡ 0
    pub left : SlotLeft j t

module _ (l : Layout) (u : Usable l) (i : ℕ) (s : Images) (f : Sound l s) (rest : (collection_at l s.records).phase ≡ 0) where
  open l use {S, M}

  abbrev before : ℕ → Record
  before = record_at l s.records

  -- where no commit is owed, stripe i has a slot or there are fewer than M
  not_owed : commit_owed l before i ≡ false → SlotLeft l i s
  unfolding commit_owed
  not_owed e none_yet =
      let other = eqb-false (count_below S (slotted before)) M (rw none_yet at e) in
      omega (arith, f.stripes.few, other)

  owed_full : commit_owed l before i ≡ true → count_below S (slotted before) ≡ M
  unfolding commit_owed
  owed_full e = eqb-true (count_below S (slotted before)) M (and_both (not (has_slot (before i))) (eqb (count_below S (slotted before)) M) e).1

  -- a commit that is owed leaves a slot
  pub owed_leads : Leads l (Carries l) (Ready l i) (owed_steps l i s) s
  unfolding owed_steps when_found
  owed_leads = by_test (commit_owed l before i)
      (λ e.
      let (k, found, fits, slotted_too, other) = stripe_to_commit l u.within before i e in
      rw (e, found)
      (closes_leads l (Carries l) (Committed l k) (StoresRecord k) (Ready l i) (commit_steps l k s) s
      (closes_weaken l (Kept l) (Carries l) (Committed l k) (StoresRecord k) (commit_steps l k s) s (λ t. kept_carries l u s t) (commit_closes l u k fits s f rest slotted_too))
      (λ t h. h.carries)
      (λ t h. record { rest = h.rest; left = λ none_yet. omega (arith, h.fewer, owed_full e) })))
      (λ e. rw e (leads_nil l (Carries l) (carries_trans l) (Ready l i) s (carries_refl l s f) (record { rest = rest; left = not_owed e })))

module _ (l : Layout) (u : Usable l) (page : ℕ) (inside : page < l.N * l.S) (xs : List ℕ) (whole : length xs ≡ l.W) where
  open l use {N, W, S, M}

  abbrev j : ℕ
  j = stripe_of l page

  abbrev m : ℕ
  m = member_of l page

  abbrev c : ℕ
  c = member_chip l j m

  stripe_inside : j < S
  stripe_inside = stripe_fits l u.within page inside

  member_inside : m < N
  member_inside = member_fits l u.within page

  chip : c < N + 1
  chip = page_chip_fits l u.within page

  kept_wrote : (s t v : Images) → Kept l s t → Wrote l page xs t v → Wrote l page xs s v
  kept_wrote s t v k = carries_wrote l page xs s t v (kept_carries l u s t k)

  -- the page stands at p of images t: the slot and the record
  module _ (t : Images) (g : Sound l t) (rest : (collection_at l t.records).phase ≡ 0) (left : SlotLeft l j t) (p : ℕ) (new : NewPage l t c j p xs) where
    abbrev r : ℕ → Record
    r = record_at l t.records

    slot_found : (i : ℕ) × (lowest_free_slot l r ≡ Some i) × (i < M + 1) × ((k : ℕ) → k < S → (r k).slot ≢ i)
    slot_found = free_slot_lem l u.within r (collection_at l t.records) g.stripes

    abbrev partial : List ℕ
    partial = partial_bytes l (page_at l t.chips) (slot_at l t.slots) j m xs (r j)

    partial_length : length partial ≡ W
    partial_length = new_partial_length l u.within t j m xs g stripe_inside member_inside whole

    module _ (i : ℕ) (place : i < M + 1) (free : (k : ℕ) → k < S → (r k).slot ≢ i) where
      abbrev t₂ : Images
      t₂ = apply l (slot i partial) t

      slot_stored : Kept l t t₂
      slot_stored = kept_slot l u t g i partial place partial_length free

      partial_there : slot_at l t₂.slots i ≡ partial
      partial_there = ap (λ (z : ℕ → List ℕ). z i) (slot_view l u t g i partial place partial_length) ∙ at_same i partial (slot_at l t.slots)

      last : Wrote l page xs t (apply l (stripe j (written l m p i (r j))) t₂)
      unfolding apply
      last =
          write_wrote l u t t₂ slot_stored refl refl rest page p i xs inside whole
          (record { fits = new.fits; unnamed = new.unnamed; stamped = new.stamped; bytes = new.bytes })
          place free partial_there left

    slot_closes : Closes l (Kept l) (Wrote l page xs) (StoresRecord j) (slot_steps l j m xs p t) t
    unfolding slot_steps when_found fetch_in
    slot_closes =
        let (i, found, place, free) = slot_found in
        rw (found, partial_fed l u.within (page_at l t.chips) (slot_at l t.slots) j (r j) m member_inside xs)
        (closes_two l (Kept l) (Wrote l page xs) (StoresRecord j) _ _ t
        (kept_refl l t g) (slot_stored i place free) (last i place free) (written l m p i (r j), refl))

  -- a slot that is left stays so while nothing changes but places
  kept_left : (s t : Images) → Kept l s t → SlotLeft l j s → SlotLeft l j t
  kept_left s t k left e =
      omega (arith, kept_count l s t k, left (sym (same_slotted (record_at l s.records j) (record_at l t.records j) (k.slot j stripe_inside)) ∙ e))

  -- at a place p of images t: the page, then the slot and the record
  module _ (t : Images) (g : Sound l t) (rest : (collection_at l t.records).phase ≡ 0) (left : SlotLeft l j t) (p : ℕ) (o : PlaceAt l (page_at l t.chips c) p) where
    page_fits : PageFits l (data_page l j m xs)
    page_fits = record { whole = whole; stripe = omega (arith, stripe_inside, u.within.stripes_high); copied = none_fits l; tail = length_blank l }

    abbrev t₁ : Images
    t₁ = apply l (program c p (data_page l j m xs)) t

    first : Kept l t t₁
    first = fill_kept l u t g rest c chip p o (data_page l j m xs) page_fits (omega arith)

    new_page : NewPage l t₁ c j p xs
    new_page =
        fill_new l u t g rest c chip p o (data_page l j m xs) page_fits (omega arith) j refl (sym (kind_member l j m)) (sym (stamp_member l j m))

    same_phase : (collection_at l t₁.records).phase ≡ 0
    unfolding apply
    same_phase = rest

    write_fills : Closes l (Kept l) (Wrote l page xs) (StoresRecord j) (write_at l j m xs p t) t
    unfolding write_at
    write_fills =
        closes_then l (Kept l) (Wrote l page xs) (StoresRecord j) (kept_trans l) kept_wrote (λ w. (w ≡ t₁)) (plain (program c p (data_page l j m xs)) ∷ []) (slot_steps l j m xs p) t
        (leads_one l (Kept l) (kept_trans l) (λ w. (w ≡ t₁)) (plain (program c p (data_page l j m xs))) t (kept_refl l t g) first refl)
        (λ w k e. rw e (slot_closes t₁ first.sound same_phase (kept_left t t₁ first left) p new_page))

  -- from images that are ready: find a place, program it
  write_placed : (s : Images) → Sound l s → Ready l j s → Closes l (Kept l) (Wrote l page xs) (StoresRecord j) (placed l c (write_at l j m xs) s) s
  write_placed s f ready =
      placed_closes l u s f ready.rest c chip (Kept l) (Wrote l page xs) (StoresRecord j) (λ t w k. k) (kept_trans l) kept_wrote (write_at l j m xs)
      (λ t k still p o. write_fills t k.sound still (kept_left s t k ready.left) p o)

  -- a write from its first store to its last, with the commit and the collection that it may need
  pub write_closes : (s : Images) → Sound l s → (collection_at l s.records).phase ≡ 0 → Closes l (Carries l) (Wrote l page xs) (StoresRecord j) (write_steps l page xs s) s
  unfolding write_steps write_member
  write_closes s f rest =
      closes_then l (Carries l) (Wrote l page xs) (StoresRecord j) (carries_trans l) (carries_wrote l page xs) (Ready l j) (owed_steps l j s) (placed l c (write_at l j m xs)) s (owed_leads l u j s f rest)
      (λ t k ready.
      closes_weaken l (Kept l) (Carries l) (Wrote l page xs) (StoresRecord j) (placed l c (write_at l j m xs) t) t (λ w. kept_carries l u t w) (write_placed t k.sound ready))
