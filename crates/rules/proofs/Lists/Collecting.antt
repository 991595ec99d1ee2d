-- A collection as a whole, and the place that it makes: where a chip has no place, there is one after it.
use Prim.Native.Nat.{ℕ, ◌+◌, ◌-◌, ◌<◌}
use native.Mathlib.Omega.{arith}
use mathlib.Core.Path.{◌≡◌, ap}
use mathlib.Core.Logic.{◌≢◌}
use mathlib.Core.Bool.{true}
use mathlib.Core.List.{List}
use borrow.Author.Tests.{not-true}
use Rattle.std.specs.Prelude.{Some}
use Rattle.ranges.specs.Look.{when_found, some_below}
use Rattle.ranges.proofs.Looks.{by_found, all_at, first_at, first_found, least_at}
use Rattle.ranges.proofs.Tests.{and_both}
use Rattle.layout.specs.Layout.{Layout}
use Rattle.layout.specs.Page.{Page, page_at}
use Rattle.layout.specs.Record.{Record, record_at}
use Rattle.layout.specs.Collection.{Collection, collection_at}
use Rattle.layout.specs.Images.{Images}
use Rattle.steps.specs.Steps.{Step}
use Rattle.steps.proofs.View.{wiped}
use Rattle.steps.proofs.Prefixes.{Leads, leads_nil, leads_then, leads_weaken, Closes, closes_then}
use Rattle.rules.specs.Blocks.{clean_in, used_in, unnamed_in, clean_block, full_block, lowest_clean_block}
use Rattle.rules.specs.Collect.{collectable, named_count, victim_of, copy_steps, copy_feed, collect_block, collect_steps}
use Rattle.rules.specs.Open.{finish_steps}
use Rattle.rules.specs.Place.{place_of}
use Rattle.rules.specs.Room.{room_steps, at_place, placed}
use Rattle.rules.proofs.Soundness.Statements.{Usable, ChipSound, Sound, sound_chip, rest_collects}
use Rattle.rules.proofs.Stores.Kept.{Kept, kept_refl, kept_trans}
use Rattle.rules.proofs.Stores.Chips.{wiped_clean, wiped_other}
use Rattle.rules.proofs.Space.Room.{PlaceAt, place_at, place_found, victim_spares, victim_found}
use Rattle.rules.proofs.Lists.Finish.{Ended, finish_leads}
use Rattle.rules.proofs.Lists.Copying.{Chosen, AllCopied, copies_lead, blocks_differ}

module _ (l : Layout) where
  -- the collection record is idle, and chip c has a place
  pub record HasPlace (c : ℕ) (t : Images) : Type 0 where
    pub rest : (collection_at l t.records).phase ≡ 0
    pub place : ℕ
    pub found : place_of l (page_at l t.chips c) ≡ Some place

  -- the victim is a block that can be collected
  pub victim_collectable : (c : ℕ) (x : ℕ → Page) (r : ℕ → Record) (v : ℕ) → victim_of l c x r ≡ Some v → (v < l.B) × (collectable l c x r v ≡ true)
  unfolding victim_of
  victim_collectable c x r v victim = let least = least_at l.B (collectable l c x r) (named_count l c x r) v victim in (least.0, least.1)

module _ (l : Layout) (u : Usable l) where
  open l use {N, K, B}

  module _ (s : Images) (f : Sound l s) (rest : (collection_at l s.records).phase ≡ 0) (c : ℕ) (chip : c < N + 1) where
    abbrev r : ℕ → Record
    r = record_at l s.records

    abbrev x : ℕ → Page
    x = page_at l s.chips c

    here : ChipSound l r x c (collection_at l s.records)
    here = sound_chip l u s f c chip

    -- the destination is there: some block is wholly clean
    pub destination : (d : ℕ) × (lowest_clean_block l x ≡ Some d)
    unfolding lowest_clean_block
    destination =
        let (b, fits, is) = here.spare (rest_collects (collection_at l s.records) c rest) in
        first_found B (clean_block l x) b fits is

    -- such a block and the destination are as a collection needs them
    pub chosen_on : (v d : ℕ) → v < B → collectable l c x r v ≡ true → lowest_clean_block l x ≡ Some d → Chosen l s c v d
    unfolding collectable named_count full_block lowest_clean_block
    chosen_on v d block can clean =
        let full = (and_both (full_block l x v) (some_below K (unnamed_in l r c v)) can).0 in
        let low = first_at B (clean_block l x) d clean in
        record {
          rest = rest;
          chip = chip;
          victim = block;
          destination = low.0;
          full = λ k h. not-true (clean_in l x v k) (all_at K (used_in l x v) full k h);
          fewer = victim_spares l u.within r x c v can;
          is_clean = low.1;
        }

    module _ (v : ℕ) (block : v < B) (can : collectable l c x r v ≡ true) where
      chosen : Chosen l s c v destination.0
      chosen = chosen_on v destination.0 block can destination.1

      -- after it the victim is clean, and the destination has a clean page
      cleared : (t w : Images) → AllCopied l s c v destination.0 t → Ended l t w → HasPlace l c w
      cleared t w a e =
          let d = destination.0 in
          let busy : (collection_at l t.records).phase ≡ 2 = ap (λ (o : Collection). o.phase) a.collection in
          let view : page_at l w.chips c ≡ wiped l v (page_at l t.chips c) = rw a.collection at (e.wiped_victim busy).pages in
          let apart : v ≢ d = blocks_differ l u s f c v d chosen in
          let fits : K - 1 < K = omega (arith, u.within.places_low) in
          let left : clean_in l (page_at l t.chips c) d (K - 1) ≡ true = a.ahead (K - 1) (omega (arith, chosen.fewer)) fits in
          let p =
          place_found l u.within (page_at l w.chips c) v d (K - 1) chosen.victim chosen.destination apart
          (rw view (wiped_clean l v (page_at l t.chips c))) fits (rw (view, wiped_other l v (page_at l t.chips c) d (K - 1) apart fits) left) in
          record { rest = ap (λ (o : Collection). o.phase) e.is_idle; place = p.0; found = p.1 }

      -- the collection of a block keeps what the images hold, and ends with a place on the chip
      block_leads : Leads l (Kept l) (HasPlace l c) (collect_block l c v s) s
      unfolding collect_block when_found
      block_leads =
          rw destination.1
          (leads_then l (Kept l) (kept_trans l) (AllCopied l s c v destination.0) (HasPlace l c) (copy_steps l c x (copy_feed l c s) r v destination.0) (finish_steps l) s
          (copies_lead l u s f c v destination.0 chosen)
          (λ t k a.
          leads_weaken l (Kept l) (Kept l) (Ended l t) (HasPlace l c) (finish_steps l t) t (λ w h. h) (λ w h e. cleared t w a e)
          (finish_leads l u t k.sound)))

    -- so it is with that of the chip
    pub collect_leads : (v : ℕ) → victim_of l c x r ≡ Some v → Leads l (Kept l) (HasPlace l c) (collect_steps l c s) s
    unfolding collect_steps when_found
    collect_leads v victim = let (block, can) = victim_collectable l c x r v victim in rw victim (block_leads v block can)

    -- where there is no place there is a victim, so the collection makes one
    pub room_leads : Leads l (Kept l) (HasPlace l c) (room_steps l c s) s
    unfolding room_steps when_found
    room_leads = by_found (place_of l x)
        (λ p e. rw e (leads_nil l (Kept l) (kept_trans l) (HasPlace l c) s (kept_refl l s f) (record { rest = rest; place = p; found = e })))
        (λ e.
        let (v, victim) = victim_found l u.within r x c (collection_at l s.records) chip f.stripes here (rest_collects (collection_at l s.records) c rest) e in
        rw e (collect_leads v victim))

    -- Where f closes from every image that has a place, it closes after a place was found, or made by a collection.
    module _ (R F : Images → Images → Type 0) (L : Step → Type 0)
        (less : (t w : Images) → Kept l t w → R t w) (trans : (t w z : Images) → R t w → R w z → R t z) (closing : (t w z : Images) → R t w → F w z → F t z)
        (fill : ℕ → Images → List Step)
        (fills : (t : Images) → Kept l s t → (collection_at l t.records).phase ≡ 0 → (p : ℕ) → PlaceAt l (page_at l t.chips c) p → Closes l R F L (fill p t) t) where
      at_place_lem : (t : Images) → Kept l s t → HasPlace l c t → Closes l R F L (at_place l c fill t) t
      unfolding at_place when_found
      at_place_lem t k h =
          rw h.found
          (fills t k h.rest h.place
          (place_at l u.within (record_at l t.records) (page_at l t.chips c) c (collection_at l t.records) (sound_chip l u t k.sound c chip)
          (rest_collects (collection_at l t.records) c h.rest) h.place h.found))

      -- so a call that needs a place gets one
      pub placed_closes : Closes l R F L (placed l c fill s) s
      unfolding placed
      placed_closes =
          closes_then l R F L trans closing (λ t. Kept l s t × HasPlace l c t) (room_steps l c s) (at_place l c fill) s
          (leads_weaken l (Kept l) R (HasPlace l c) (λ t. Kept l s t × HasPlace l c t) (room_steps l c s) s (less s) (λ t k h. (k, h)) room_leads)
          (λ t reached h. at_place_lem t h.0 h.1)
