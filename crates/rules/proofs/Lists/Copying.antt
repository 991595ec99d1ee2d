-- The first half of a collection: phase 1, the copies, phase 2. Every cut of it keeps what the images hold, and at its end the copies are twins.
use Prim.Native.Nat.{ℕ, suc, ◌+◌, ◌-◌, ◌≤◌, ◌<◌}
use native.Mathlib.Nat.{le_refl, le_step, lt-suc_self, le_of_lt}
use native.Mathlib.Omega.{arith}
use mathlib.Core.Path.{◌≡◌, refl, sym, ap, ◌∙◌}
use mathlib.Core.Logic.{◌≢◌}
use mathlib.Core.Bool.{Bool, true, false}
use mathlib.Core.List.{[], ◌∷◌, ◌++◌}
use borrow.Author.Tests.{eq-eqb, ne_eqb, eqb-true}
use Rattle.ranges.specs.Look.{count_below}
use Rattle.ranges.specs.Update.{at}
use Rattle.ranges.proofs.Looks.{by_test, by_order, at_last, both}
use Rattle.ranges.proofs.Updates.{at_same, at_other}
use Rattle.ranges.proofs.Counts.{count_pass, count_fail, count_mono, count_all, count_start, count_same}
use Rattle.layout.specs.Layout.{Layout, none, page_in, in_block}
use Rattle.layout.specs.Page.{Page, clean_kind, clean, page_at}
use Rattle.layout.specs.Record.{Record, record_at}
use Rattle.layout.specs.Collection.{Collection, collection_at}
use Rattle.layout.specs.Images.{Images, slot_at}
use Rattle.layout.proofs.Codec.{PageFits, length_blank}
use Rattle.layout.proofs.Pages.{page_in_fits, same_place, in_own_block, in_other_block, page_number_lem, none_fits}
use Rattle.steps.specs.Store.{program, collection, apply}
use Rattle.steps.specs.Steps.{plain, steps_below, apply_all}
use Rattle.steps.proofs.Prefixes.{Leads, leads_nil, leads_one, leads_cons, leads_append, leads_below}
use Rattle.steps.proofs.Lengths.{below_cong}
use Rattle.rules.specs.Names.{role_of, named}
use Rattle.rules.specs.Blocks.{clean_in, named_in, unnamed_in, clean_block}
use Rattle.rules.specs.Sound.{collecting, twin_in}
use Rattle.rules.specs.Fetch.{Feed, itself}
use Rattle.rules.specs.Collect.{phase, copy_of, copy_from, copy_steps, copy_feed}
use Rattle.rules.proofs.Soundness.Statements.{Usable, CollectionSound, ChipSound, OneTwin, Sound, sound_chip}
use Rattle.rules.proofs.Stores.Names.{role_is, named_by, name_stamped, named_used, clean_block_unnamed}
use Rattle.rules.proofs.Stores.Chips.{Fillable}
use Rattle.rules.proofs.Stores.Kept.{Copies, Kept, kept_refl, kept_trans, no_copies_yet}
use Rattle.rules.proofs.Stores.Twins.{twin_is, is_twin}
use Rattle.rules.proofs.Stores.Storing.{kept_program, kept_collection, program_view, collection_view, collection_records}
use Rattle.rules.proofs.Data.Contents.{pages_whole}
use Rattle.rules.proofs.Data.Feeds.{page_there}
use Rattle.rules.proofs.Space.Places.{clean_at}

module _ (l : Layout) where
  open l use {N, K, B}

  -- a victim and a destination on chip c of images at rest
  pub record Chosen (s : Images) (c v d : ℕ) : Type 0 where
    pub rest : (collection_at l s.records).phase ≡ 0
    pub chip : c < N + 1
    pub victim : v < B
    pub destination : d < B
    pub full : (i : ℕ) → i < K → clean_in l (page_at l s.chips c) v i ≡ false
    pub fewer : count_below K (named_in l (record_at l s.records) c v) < K
    pub is_clean : clean_block l (page_at l s.chips c) d ≡ true

  -- after the copies of the places before i of the victim
  pub record Copied (s : Images) (c v d i : ℕ) (t : Images) : Type 0 where
    pub collection : collection_at l t.records ≡ phase 1 c v d
    pub records : record_at l t.records ≡ record_at l s.records
    pub outside : (p : ℕ) → in_block l d p ≡ false → page_at l t.chips c p ≡ page_at l s.chips c p
    pub filled : (k : ℕ) → k < count_below i (named_in l (record_at l s.records) c v)
        → (n : ℕ) × (n < i) × (named_in l (record_at l s.records) c v n ≡ true) × (count_below n (named_in l (record_at l s.records) c v) ≡ k)
        × (page_at l t.chips c (page_in l d k) ≡ copy_of l (page_in l v n) (page_at l s.chips c (page_in l v n)) (page_at l s.chips c (page_in l v n)).bytes)
    pub ahead : (k : ℕ) → count_below i (named_in l (record_at l s.records) c v) ≤ k → k < K → clean_in l (page_at l t.chips c) d k ≡ true

  -- the copies are made: phase 2, and the destination's last page is clean; the victim is as full as it was, and the destination clean behind
  -- its copies
  pub record AllCopied (s : Images) (c v d : ℕ) (t : Images) : Type 0 where
    pub collection : collection_at l t.records ≡ phase 2 c v d
    pub last : ℕ
    pub fits : last < K
    pub is_clean : clean_in l (page_at l t.chips c) d last ≡ true
    pub full : (i : ℕ) → i < K → clean_in l (page_at l t.chips c) v i ≡ false
    pub ahead : (k : ℕ) → count_below K (named_in l (record_at l s.records) c v) ≤ k → k < K → clean_in l (page_at l t.chips c) d k ≡ true

-- a page as it stands on its chip, with one read
abbrev pub as_stands : (ℕ → Page) → ℕ → Feed
as_stands x p = record { bytes = (x p).bytes; reads = 1 }

-- a page that is named is copied as it stands
pub copied_as_stands : (l : Layout) (u : Usable l) (s : Images) → Sound l s → (c : ℕ) → c < l.N + 1 → (p : ℕ) → p ≢ none l
    → named l (record_at l s.records) c p ≡ true → copy_feed l c s p ≡ as_stands (page_at l s.chips c) p
unfolding copy_feed itself
copied_as_stands l u s f c chip p is_page_lem n =
    let r = record_at l s.records in
    let (j, low, names_it) = named_by l r c p n in
    let stripe = (name_stamped l r (page_at l s.chips c) c (collection_at l s.records) (sound_chip l u s f c chip) p j low is_page_lem names_it).stripe in
    let (on, number) = role_is l r c p j names_it is_page_lem in
    rw (
      stripe,
      page_there l u.within (page_at l s.chips) (slot_at l s.slots) j (r j) (role_of l c j (r j) p) (rw on chip),
      on,
      number,
      ne_eqb p (none l) is_page_lem,
    )

module _ (l : Layout) (u : Usable l) where
  open l use {K}

  module _ (s : Images) (f : Sound l s) (c v d : ℕ) (o : Chosen l s c v d) where
    abbrev r : ℕ → Record
    r = record_at l s.records

    abbrev x : ℕ → Page
    x = page_at l s.chips c

    abbrev is_named : ℕ → Bool
    is_named = named_in l r c v

    here : ChipSound l r x c (collection_at l s.records)
    here = sound_chip l u s f c o.chip

    pub blocks_differ : v ≢ d
    blocks_differ e =
        let some : 0 < K = omega (arith, u.within.places_low) in
        both (clean_in l x v 0) (rw e (clean_at l x d 0 o.is_clean some)) (o.full 0 some)

    phase_sound_lem : (n : ℕ) → 0 < n → n ≤ 2 → CollectionSound l (phase n c v d)
    phase_sound_lem n low high = record {
      rest = refl;
      at_rest = λ e. absurd (omega arith);
      phases = high;
      chip = λ e. omega (arith, o.chip);
      victim = λ e. o.victim;
      destination = λ e. o.destination;
      apart = λ e. blocks_differ;
    }

    destination_unnamed : (i : ℕ) → i < K → named l r c (page_in l d i) ≡ false
    destination_unnamed = clean_block_unnamed l r x c (collection_at l s.records) here u.within d o.destination o.is_clean

    -- a page that is named is used, stamped and fits its field
    module _ (i : ℕ) (place : i < K) (n : is_named i ≡ true) where
      abbrev p : ℕ
      p = page_in l v i

      is_page_lem : p ≢ none l
      is_page_lem = page_number_lem l u.within p (page_in_fits l v i o.victim place)

      original_used : (x p).kind ≢ clean_kind
      original_used e = both (clean (x p)) (eq-eqb (x p).kind clean_kind e) (named_used l r x c (collection_at l s.records) here p is_page_lem n)

      copy_fits : PageFits l (copy_of l p (x p) (x p).bytes)
      copy_fits =
          let j = named_by l r c p n in
          let t = name_stamped l r x c (collection_at l s.records) here p j.0 j.1 is_page_lem j.2 in
          record {
            whole = pages_whole l s f.chips c p o.chip (page_in_fits l v i o.victim place);
            stripe = omega (arith, t.stripe, j.1, u.within.stripes_high);
            copied = omega (arith, page_in_fits l v i o.victim place, u.within.pages_numbered, none_fits l);
            tail = length_blank l;
          }

    -- phase 1 is stored
    abbrev s₁ : Images
    s₁ = apply l (collection (phase 1 c v d)) s

    first : Kept l s s₁
    first =
        kept_collection l u s f (phase 1 c v d) (phase_sound_lem 1 (omega arith) (omega arith))
        (λ c' fits e. (sound_chip l u s f c' fits).spare (rw o.rest))
        (λ e. destination_unnamed)
        (λ e. absurd (omega arith))
        (no_copies_yet l r x (phase 1 c v d) (omega arith))

    pub begun : Copied l s c v d 0 s₁
    unfolding apply
    begun = record {
      collection = collection_view l u s f (phase 1 c v d) (phase_sound_lem 1 (omega arith) (omega arith));
      records = collection_records l u s f (phase 1 c v d) (phase_sound_lem 1 (omega arith) (omega arith));
      outside = λ p e. refl;
      filled = λ k h. absurd (omega (arith, count_start is_named));
      ahead = λ k h fits. clean_at l x d k o.is_clean fits;
    }

    -- the copy of place i, made on images t
    module _ (i : ℕ) (place : i < K) (n : is_named i ≡ true) (t : Images) (g : Sound l t) (m : Copied l s c v d i t) where
      abbrev k : ℕ
      k = count_below i is_named

      abbrev q : ℕ
      q = page_in l d k

      abbrev copy : Page
      copy = copy_of l (page_in l v i) (x (page_in l v i)) (x (page_in l v i)).bytes

      abbrev y : ℕ → Page
      y = page_at l t.chips c

      k_fits : k < K
      k_fits = omega (arith, count_mono i K is_named (le_of_lt place), o.fewer)

      copy_used : (k' : ℕ) → k' < k → clean_in l y d k' ≡ false
      copy_used k' h =
          let (a, below, is, cnt, e) = m.filled k' h in
          rw (e, ne_eqb (x (page_in l v a)).kind clean_kind (original_used a (omega arith) is))

      fillable : Fillable l y d k
      fillable = record { block = o.destination; place = k_fits; is_clean = m.ahead k (le_refl k) k_fits; before = copy_used }

      abbrev t' : Images
      t' = apply l (program c q copy) t

      copy_kept : Kept l t t'
      copy_kept =
          kept_program l u t g c d k copy o.chip fillable (copy_fits i place n) (original_used i place n)
          (λ e. absurd (omega (arith, ap (λ (a : Collection). a.phase) m.collection)))
          (λ e. both (collecting (phase 1 c v d) c) (rw (eq-eqb c c refl)) (rw m.collection at e))

      view : page_at l t'.chips c ≡ at q copy y
      view =
          ap (λ (a : ℕ → ℕ → Page). a c) (program_view l u t g c q copy o.chip (page_in_fits l d k o.destination k_fits) (copy_fits i place n))
          ∙ at_same c (at q copy y) (page_at l t.chips)

      other_page : (k' : ℕ) → k' < K → k' ≢ k → page_at l t'.chips c (page_in l d k') ≡ y (page_in l d k')
      other_page k' fits other =
          rw view (at_other q copy y (page_in l d k') (λ e. other (same_place l d k' d k fits k_fits e).1))

      copied : Copied l s c v d (suc i) t'
      unfolding apply
      copied = record {
        collection = m.collection;
        records = m.records;
        outside = λ a e.
            rw (view, at_other q copy y a (λ same. both (in_block l d a) (rw same (in_own_block l d k k_fits)) e)) (m.outside a e);
        filled = λ k' h.
            at_last k' k (rw (count_pass i is_named n) at h)
            (λ below.
            let (a, less, is, cnt, e) = m.filled k' below in
            (a, le_step less, is, cnt, other_page k' (omega (arith, k_fits)) (omega arith) ∙ e))
            (λ same. (i, lt-suc_self i, n, sym same, rw (same, view) (at_same q copy y)));
        ahead = λ k' h fits.
            rw (other_page k' fits (omega (arith, count_pass i is_named n))) (m.ahead k' (omega (arith, count_pass i is_named n)) fits);
      }

    copy_leads : (i : ℕ) → i < K → (t : Images) → Kept l s₁ t → Copied l s c v d i t → Leads l (Kept l) (Copied l s c v d (suc i)) (copy_from l c x (as_stands x) r v d i) t
    unfolding copy_from
    copy_leads i place t h m =
        by_test (is_named i)
        (λ n.
        rw n
        (leads_one l (Kept l) (kept_trans l) (Copied l s c v d (suc i)) (record { reads = 1; store = program c (q i place n t h.sound m) (copy i place n t h.sound m) }) t
        (kept_refl l t h.sound) (copy_kept i place n t h.sound m) (copied i place n t h.sound m)))
        (λ n.
        rw n
        (leads_nil l (Kept l) (kept_trans l) (Copied l s c v d (suc i)) t (kept_refl l t h.sound)
        (record {
          collection = m.collection;
          records = m.records;
          outside = m.outside;
          filled = λ k' below.
              let (a, less, is, cnt, e) = m.filled k' (rw (count_fail i is_named n) at below) in (a, le_step less, is, cnt, e);
          ahead = λ k' below. m.ahead k' (rw (count_fail i is_named n) at below);
        })))

    -- the copies of the places below i, after phase 1
    pub copies_below_lem : (i : ℕ) → i ≤ K → Leads l (Kept l) (Copied l s c v d i) (steps_below i (copy_from l c x (as_stands x) r v d)) s₁
    copies_below_lem i most =
        leads_below l (Kept l) (kept_trans l) (Copied l s c v d) i (copy_from l c x (as_stands x) r v d) s₁ (kept_refl l s₁ first.sound) begun
        (λ k low. copy_leads k (omega arith))

    -- all copies are made, on images t
    module _ (t : Images) (g : Sound l t) (m : Copied l s c v d K t) where
      abbrev z : ℕ → Page
      z = page_at l t.chips c

      original : (i : ℕ) → i < K → z (page_in l v i) ≡ x (page_in l v i)
      original i place = m.outside (page_in l v i) (in_other_block l d v i (λ e. blocks_differ (sym e)) place)

      -- the copy of place i stands at the place of its rank
      module _ (i : ℕ) (place : i < K) (n : is_named i ≡ true) where
        abbrev rank : ℕ
        rank = count_below i is_named

        ranked : rank < count_below K is_named
        ranked = omega (arith, count_pass i is_named n, count_mono (suc i) K is_named place)

        is_copy : z (page_in l d rank) ≡ copy_of l (page_in l v i) (x (page_in l v i)) (x (page_in l v i)).bytes
        is_copy =
            let (a, less, is, cnt, e) = m.filled rank ranked in
            let same : a ≡ i = count_same is_named a i is n cnt in
            rw same at e

        only_copy : (k : ℕ) → k < K → twin_in l r z c d (page_in l v i) k ≡ true → k ≡ rank
        only_copy k fits h =
            let is = twin_is l r z c (page_in l v i) (page_in l d k) h in
            by_order k (count_below K is_named)
            (λ less.
            let (a, below, named_too, cnt, e) = m.filled k less in
            let same : a ≡ i = (same_place l v a v i below place (sym (ap (λ (b : Page). b.copied) e) ∙ is.copied)).1 in
            sym cnt ∙ ap (λ (b : ℕ). count_below b is_named) same)
            (λ more.
            absurd (original_used i place n
            (sym (ap (λ (b : Page). b.kind) (original i place)) ∙ sym is.kind
            ∙ eqb-true (z (page_in l d k)).kind clean_kind (m.ahead k more fits))))

        twin_here : OneTwin l r z c d (page_in l v i)
        twin_here = record {
          place = rank;
          fits = omega (arith, ranked, o.fewer);
          is_twin = record {
            kind = rw (is_copy, original i place);
            member = rw (is_copy, original i place);
            stripe = rw (is_copy, original i place);
            copied = rw is_copy;
            free = destination_unnamed rank (omega (arith, ranked, o.fewer));
          };
          only = λ k fits f. only_copy k fits (is_twin l r z c (page_in l v i) (page_in l d k) f);
        }

      copies : Copies l r z (phase 2 c v d)
      copies = record {
        bytes = λ e i k place fits n h. rw (only_copy i place n k fits h, is_copy i place n, original i place);
        ranks = λ e i k place fits n h.
            rw (only_copy i place n k fits h)
            (count_all (count_below i is_named) (unnamed_in l r c d) (λ a below. rw (destination_unnamed a (omega (arith, ranked i place n, o.fewer)))));
      }

      -- phase 2 is stored
      abbrev t₂ : Images
      t₂ = apply l (collection (phase 2 c v d)) t

      second : Kept l t t₂
      second =
          kept_collection l u t g (phase 2 c v d) (phase_sound_lem 2 (omega arith) (omega arith))
          (λ c' fits e. (sound_chip l u t g c' fits).spare (rw m.collection e))
          (λ e. absurd (omega arith))
          (rw m.records (λ e. twin_here))
          (rw m.records copies)

      all_copied : AllCopied l s c v d t₂
      unfolding apply
      all_copied = record {
        collection = collection_view l u t g (phase 2 c v d) (phase_sound_lem 2 (omega arith) (omega arith));
        last = K - 1;
        fits = omega (arith, u.within.places_low);
        is_clean = m.ahead (K - 1) (omega (arith, o.fewer)) (omega (arith, u.within.places_low));
        full = λ i place. rw (original i place) (o.full i place);
        ahead = m.ahead;
      }

    stand_lead : Leads l (Kept l) (AllCopied l s c v d) (copy_steps l c x (as_stands x) r v d) s
    unfolding copy_steps
    stand_lead =
        leads_cons l (Kept l) (kept_trans l) (AllCopied l s c v d) (plain (collection (phase 1 c v d)))
        (steps_below K (copy_from l c x (as_stands x) r v d) ++ (plain (collection (phase 2 c v d)) ∷ [])) s (kept_refl l s f) first
        (leads_append l (Kept l) (kept_trans l) (Copied l s c v d K) (AllCopied l s c v d) (steps_below K (copy_from l c x (as_stands x) r v d)) (plain (collection (phase 2 c v d)) ∷ []) s₁
        (copies_below_lem K (le_refl K))
        (λ h m.
        leads_one l (Kept l) (kept_trans l) (AllCopied l s c v d) (plain (collection (phase 2 c v d))) (apply_all l (steps_below K (copy_from l c x (as_stands x) r v d)) s₁)
        (kept_refl l (apply_all l (steps_below K (copy_from l c x (as_stands x) r v d)) s₁) h.sound) (second (apply_all l (steps_below K (copy_from l c x (as_stands x) r v d)) s₁) h.sound m)
        (all_copied (apply_all l (steps_below K (copy_from l c x (as_stands x) r v d)) s₁) h.sound m)))

    -- the copies are made of the pages as they stand
    pub copies_as_stand : copy_steps l c x (copy_feed l c s) r v d ≡ copy_steps l c x (as_stands x) r v d
    unfolding copy_steps copy_from
    copies_as_stand =
        rw (below_cong K (copy_from l c x (copy_feed l c s) r v d) (copy_from l c x (as_stands x) r v d)
        (λ i place.
        by_test (is_named i)
        (λ n. rw (n, copied_as_stands l u s f c o.chip (page_in l v i) (is_page_lem i place n) n))
        (λ n. rw n)))

    -- the stores of the first half, in order
    pub copies_lead : Leads l (Kept l) (AllCopied l s c v d) (copy_steps l c x (copy_feed l c s) r v d) s
    copies_lead = rw copies_as_stand stand_lead
