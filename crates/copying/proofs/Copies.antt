-- One copy, and the copies of the places below i.
use Prim.Native.Nat.{ℕ, suc, ◌+◌, ◌*◌, ◌≤◌, ◌<◌}
use native.Mathlib.Numerals.{add-one}
use native.Mathlib.Omega.{arith}
use mathlib.Core.Path.{◌≡◌, sym, ap, ◌∙◌}
use mathlib.Core.Bool.{true, false}
use mathlib.Core.List.{List, [], ◌∷◌, ◌++◌}
use lib.ListN.{length, replicate}
use Rattle.octets.proofs.Xors.{xors_zeros_l}
use Rattle.std.specs.Prelude.{Some}
use Rattle.ranges.specs.Look.{count_below}
use Rattle.ranges.proofs.Counts.{count_pass, count_fail, count_start, count_le}
use Rattle.layout.specs.declared.Geometry.{Geometry}
use Rattle.layout.specs.Layout.{Layout, layout_of, no_chip, none, pages, page_in}
use Rattle.layout.specs.Page.{Page, page_at}
use Rattle.layout.specs.Record.{record_at}
use Rattle.layout.specs.Collection.{collection_at}
use Rattle.layout.specs.Images.{Images, chips_length, slots_length, slot_at}
use Rattle.layout.proofs.Limits.{Within}
use Rattle.layout.proofs.Pages.{page_in_fits, page_number_lem, in_other_block}
use Rattle.steps.specs.declared.Progress.{Progress}
use Rattle.steps.specs.Store.{program, collection, apply}
use Rattle.steps.specs.Steps.{Step, plain, steps_below, apply_all, and_then}
use Rattle.steps.specs.Allowance.{Sane, Ran, images}
use Rattle.steps.proofs.Prefixes.{leads_weaken}
use Rattle.steps.proofs.Allowances.{ran_none, ran_append, ran_then, ran_below, ran_below_cut, ran_longer, ran_whole, ran_going}
use Rattle.rules.specs.Blocks.{named_in, lowest_clean_block}
use Rattle.rules.specs.Names.{role_of}
use Rattle.rules.specs.Fetch.{Fetched, Feed, fed, fetch_in}
use Rattle.rules.specs.Collect.{phase, copy_of, copy_from, copy_steps, copy_feed, collectable}
use Rattle.rules.proofs.Soundness.Statements.{Usable, Sound, sound_chip}
use Rattle.rules.proofs.Soundness.RecordChecks.{record_pass}
use Rattle.rules.proofs.Stores.Kept.{Kept}
use Rattle.rules.proofs.Stores.Names.{role_is, named_by, name_stamped}
use Rattle.rules.proofs.Data.Contents.{bytes_page, pages_whole}
use Rattle.rules.proofs.Data.Feeds.{page_there}
use Rattle.rules.proofs.Lists.Copying.{as_stands, Chosen, Copied, begun, copies_below_lem, copied_as_stands, copies_as_stand, blocks_differ}
use Rattle.rules.proofs.Lists.Collecting.{chosen_on}
use Rattle.codec.specs.declared.Spare.{Spare}
use Rattle.codec.specs.Views.{spare_of, page_from}
use Rattle.names.specs.Checked.{Settled}
use Rattle.fetch.specs.declared.Got.{Got}
use Rattle.fetch.specs.Into.{Into}
use Rattle.copying.specs.Copyable.{Copyable}
use Rattle.names.specs.Stamps.{StampsPass}
use Rattle.names.proofs.Statements.{usable, stamps_pass, sound, checked}

-- a page that is fetched and programmed with its stamp is its copy
pub copy_ran : (l : Layout) (c p q : ℕ) (x : ℕ → Page) (page : Feed) (t : Spare) {ys : List ℕ} {reads : ℕ} (run r : Progress) (s u : Images) → ys ≡ page.bytes → reads ≡ page.reads → t ≡ spare_of (x p)
    → Ran l run
    (record { reads = reads; store = program c q (page_from l ys (record { kind = t.kind; member = t.member; stripe = t.stripe; copied = p })) } ∷ [])
    r s u
    → Ran l run (fed page (λ xs. program c q (copy_of l p (x p) xs)) ∷ []) r s u
copy_ran l c p q x page t run r s u data-same read stamp-same h = rw (data-same, read, stamp-same) at h

-- what is fetched for the copy of page p into zeros is what the definition feeds it with: it is as long as a page, since it is that page
module _ (l : Layout) (w : Within l) (s : Images) (c p : ℕ) (chip : c < l.N + 1) (page : p < pages l) (there : Copyable l s.chips s.records c p)
    (long : length s.chips ≡ chips_length l) where
  abbrev stripe : ℕ
  stripe = (page_at l s.chips c p).stripe

  abbrev copied : Fetched
  copied = fetch_in l s no_chip stripe (role_of l c stripe (record_at l s.records stripe) p)

  copied_whole : length copied.bytes ≡ l.W
  unfolding fetch_in
  copied_whole =
      let is_page_lem = page_number_lem l w p page in
      let (on, number) = role_is l (record_at l s.records) c p stripe there.named is_page_lem in
      let stands = page_there l w (page_at l s.chips) (slot_at l s.slots) stripe (record_at l s.records stripe) (role_of l c stripe (record_at l s.records stripe) p) (rw on chip) in
      ap (λ (x : Fetched). length x.bytes) (rw (on, number) at stands) ∙ ap length (bytes_page l (page_at l s.chips) c p is_page_lem) ∙ pages_whole l s long c p chip page

  pub copy_fetched : {after : List ℕ} {g : Got} → Into copied (replicate l.W 0) after g
      → (after ≡ (copy_feed l c s p).bytes) × (g.reads ≡ (copy_feed l c s p).reads) × (length after ≡ l.W)
  unfolding copy_feed fetch_in
  copy_fetched h =
      let is = h.bytes ∙ xors_zeros_l l.W copied.bytes (omega (arith, copied_whole)) in
      (is, h.reads, ap length is ∙ copied_whole)

-- the copies of the places below i of the victim
abbrev copies_below : Geometry → ℕ → ℕ → ℕ → ℕ → Images → List Step
copies_below g c v d i s = steps_below i (copy_from (layout_of g) c (page_at (layout_of g) s.chips c) (as_stands (page_at (layout_of g) s.chips c)) (record_at (layout_of g) s.records) v d)

-- they have brought the progress p and the chips x₀ to q and x, and so many are made
pub record Copying (g : Geometry) (records x₀ : List ℕ) (c v d : ℕ) (p : Progress) (i copies : ℕ) (q : Progress) (x : List ℕ) : Type 0 where
  pub fits : i ≤ g.k
  pub sane : Sane q
  pub counted : copies ≡ count_below i (named_in (layout_of g) (record_at (layout_of g) records) c v)
  pub ran : (zs : List ℕ) → Ran (layout_of g) p (copies_below g c v d i (images x₀ records zs)) q (images x₀ records zs) (images x records zs)

module _ {g : Geometry} {records x₀ : List ℕ} {c v d : ℕ} {p : Progress} where
  -- before the first place
  pub copying_none : Sane p → Copying g records x₀ c v d p 0 0 p x₀
  unfolding steps_below
  copying_none h = record {
    fits = omega arith;
    sane = h;
    counted = sym (count_start (named_in (layout_of g) (record_at (layout_of g) records) c v));
    ran = λ zs. ran_none (layout_of g) p (images x₀ records zs) h;
  }

  module _ {i copies : ℕ} {q : Progress} {x : List ℕ} (w : Copying g records x₀ c v d p i copies q x) (place : i < g.k) where
    -- there is room in the destination
    pub copying_room : copies < g.k
    copying_room = omega (arith, w.counted, count_le i (named_in (layout_of g) (record_at (layout_of g) records) c v))

    -- place i is not named
    pub copying_skips : named_in (layout_of g) (record_at (layout_of g) records) c v i ≡ false → Copying g records x₀ c v d p (i + 1) copies q x
    unfolding copy_from
    copying_skips n =
        let l = layout_of g in
        let is_named = named_in l (record_at l records) c v in
        record {
          fits = omega arith;
          sane = w.sane;
          counted = rw (add-one, count_fail i is_named n) w.counted;
          ran = λ zs.
              let s = images x₀ records zs in
              ran_below l p q q (copy_from l c (page_at l x₀ c) (as_stands (page_at l x₀ c)) (record_at l records) v d) i s (images x records zs) (images x records zs)
              (w.ran zs) (rw n (ran_none l q (images x records zs) w.sane));
        }

    -- it is, and its page, which is still there, is copied
    pub copying_more : named_in (layout_of g) (record_at (layout_of g) records) c v i ≡ true
        → page_at (layout_of g) x c (page_in (layout_of g) v i) ≡ page_at (layout_of g) x₀ c (page_in (layout_of g) v i)
        → {r : Progress} {y : List ℕ}
        → ((rs zs : List ℕ) → Ran (layout_of g) q
        (fed (as_stands (page_at (layout_of g) x c) (v * g.k + i)) (λ xs. program c (d * g.k + copies) (copy_of (layout_of g) (v * g.k + i) (page_at (layout_of g) x c (v * g.k + i)) xs)) ∷ [])
        r (images x rs zs) (images y rs zs))
        → Copying g records x₀ c v d p (i + 1) (copies + 1) r y
    unfolding copy_from
    copying_more n still {r} {y} h =
        let l = layout_of g in
        let is_named = named_in l (record_at l records) c v in
        record {
          fits = omega arith;
          sane = (h [] []).sane;
          counted = rw (add-one, add-one, count_pass i is_named n) (ap suc w.counted);
          ran = λ zs.
              let s = images x₀ records zs in
              ran_below l p q r (copy_from l c (page_at l x₀ c) (as_stands (page_at l x₀ c)) (record_at l records) v d) i s (images x records zs) (images y records zs)
              (w.ran zs) (rw (n, ← w.counted, ← still) (h records zs));
        }

-- the records r₀ are to get phase 1, and have come to r₁; zs are the slots
pub record Begun (g : Geometry) (x₀ r₀ r₁ zs : List ℕ) (c v d : ℕ) (p p₁ : Progress) : Type 0 where
  pub settled : Settled g x₀ r₀
  pub slots : length zs ≡ slots_length (layout_of g)
  pub chip : c ≤ g.n
  pub block : v < g.b
  pub can : collectable (layout_of g) c (page_at (layout_of g) x₀ c) (record_at (layout_of g) r₀) v ≡ true
  pub clean : lowest_clean_block (layout_of g) (page_at (layout_of g) x₀ c) ≡ Some d
  pub first : (cs zs : List ℕ) → Ran (layout_of g) p (plain (collection (phase 1 c v d)) ∷ []) p₁ (images cs r₀ zs) (images cs r₁ zs)

module _ {g : Geometry} {x₀ r₀ r₁ zs : List ℕ} {c v d : ℕ} {p p₁ : Progress} (b : Begun g x₀ r₀ r₁ zs c v d p p₁) where
  abbrev l : Layout
  l = layout_of g

  u : Usable l
  u = usable g x₀ r₀ b.settled.checked

  abbrev s : Images
  s = images x₀ r₀ zs

  f : Sound l s
  f = sound g x₀ r₀ b.settled.checked zs b.slots

  pub chosen : Chosen l s c v d
  chosen = chosen_on l u s f b.settled.at_rest c (omega (arith, b.chip)) v d b.block b.can b.clean

  -- the list of the first half, as the code comes to it
  copies_then : and_then l (plain (collection (phase 1 c v d)) ∷ []) (λ t. copies_below g c v d g.k t ++ (plain (collection (phase 2 c v d)) ∷ [])) s
      ≡ copy_steps l c (page_at l x₀ c) (copy_feed l c s) (record_at l r₀) v d
  unfolding and_then copy_steps apply_all apply
  copies_then = rw (copies_as_stand l u s f c v d chosen, (begun l u s f c v d chosen).records)

  module _ {i copies : ℕ} {q : Progress} {x : List ℕ} (w : Copying g r₁ x₀ c v d p₁ i copies q x) where
    -- what is cut is that list as far as it goes
    pub copying_cut : q.cut ≡ true → Ran l p (copy_steps l c (page_at l x₀ c) (copy_feed l c s) (record_at l r₀) v d) q s (images x r₁ zs)
    copying_cut cut =
        rw (← copies_then)
        (ran_then l p p₁ q (plain (collection (phase 1 c v d)) ∷ []) (λ t. copies_below g c v d g.k t ++ (plain (collection (phase 2 c v d)) ∷ [])) s (images x₀ r₁ zs) (images x r₁ zs)
        (b.first x₀ zs)
        (ran_longer l p₁ q (copies_below g c v d g.k (images x₀ r₁ zs)) (plain (collection (phase 2 c v d)) ∷ []) (images x₀ r₁ zs) (images x r₁ zs)
        (ran_below_cut l p₁ q (copy_from l c (page_at l x₀ c) (as_stands (page_at l x₀ c)) (record_at l r₁) v d) i g.k (images x₀ r₁ zs) (images x r₁ zs) w.fits cut (w.ran zs)) cut))

    -- all copies are made and phase 2 is stored
    pub copying_all : g.k ≤ i → {r : Progress} {r₂ : List ℕ} → Ran l q (plain (collection (phase 2 c v d)) ∷ []) r (images x r₁ zs) (images x r₂ zs)
        → Ran l p (copy_steps l c (page_at l x₀ c) (copy_feed l c s) (record_at l r₀) v d) r s (images x r₂ zs)
    copying_all past {r} {r₂} last =
        let all : i ≡ g.k = omega (arith, w.fits) in
        rw (← copies_then)
        (ran_then l p p₁ r (plain (collection (phase 1 c v d)) ∷ []) (λ t. copies_below g c v d g.k t ++ (plain (collection (phase 2 c v d)) ∷ [])) s (images x₀ r₁ zs) (images x r₂ zs)
        (b.first x₀ zs)
        (ran_append l p₁ q r (copies_below g c v d g.k (images x₀ r₁ zs)) (plain (collection (phase 2 c v d)) ∷ []) (images x₀ r₁ zs) (images x r₁ zs) (images x r₂ zs)
        (rw all at (w.ran zs)) last))

    -- the page of place i and that of the next copy are pages of the chip
    pub copying_places : i < g.k → (v * g.k + i < pages l) × (d * g.k + copies < pages l) × (pages l ≤ 65535)
    unfolding none
    copying_places low =
        (page_in_fits l v i chosen.victim low, page_in_fits l d copies chosen.destination (copying_room w low), u.within.pages_numbered)

    -- while the call is not cut
    module _ (going : q.cut ≡ false) where
      begun_is : images x₀ r₁ zs ≡ apply l (collection (phase 1 c v d)) s
      unfolding apply_all
      begun_is =
          ran_whole l p p₁ (plain (collection (phase 1 c v d)) ∷ []) s (images x₀ r₁ zs) (b.first x₀ zs)
          (ran_going l p₁ q (copies_below g c v d i (images x₀ r₁ zs)) (images x₀ r₁ zs) (images x r₁ zs) (w.ran zs) going)

      now_is : images x r₁ zs ≡ apply_all l (steps_below i (copy_from l c (page_at l x₀ c) (as_stands (page_at l x₀ c)) (record_at l r₀) v d)) (apply l (collection (phase 1 c v d)) s)
      now_is =
          let same : record_at l r₁ ≡ record_at l r₀ = ap (λ (t : Images). record_at l t.records) begun_is ∙ (begun l u s f c v d chosen).records in
          rw (← begun_is, ← same)
          (ran_whole l p₁ q (copies_below g c v d i (images x₀ r₁ zs)) (images x₀ r₁ zs) (images x r₁ zs) (w.ran zs) going)

      state : Sound l (images x r₁ zs) × Copied l s c v d i (images x r₁ zs)
      state =
          rw now_is
          (leads_weaken l (Kept l) (Kept l) (Copied l s c v d i) (λ t. Sound l t × Copied l s c v d i t)
          (steps_below i (copy_from l c (page_at l x₀ c) (as_stands (page_at l x₀ c)) (record_at l r₀) v d)) (apply l (collection (phase 1 c v d)) s) (λ t k. k) (λ t k m. (k.sound, m))
          (copies_below_lem l u s f c v d chosen i w.fits)).ends

      pub copying_stamps : StampsPass g x r₁ c
      copying_stamps = stamps_pass g x r₁ (checked g b.settled.checked.chips_fit.limited (images x r₁ zs) state.0) c b.chip

      -- a page of the victim that is named may be copied
      pub copying_page : (k : ℕ) → k < g.k → named_in l (record_at l r₁) c v k ≡ true → Copyable l x r₁ c (page_in l v k)
      copying_page k place n =
          let t = state.0 in
          let r = record_at l r₁ in
          let here = sound_chip l u (images x r₁ zs) t c (omega (arith, b.chip)) in
          let is_page_lem = page_number_lem l u.within (page_in l v k) (page_in_fits l v k chosen.victim place) in
          let (j, low, names_it) = named_by l r c (page_in l v k) n in
          let stripe = (name_stamped l r (page_at l x c) c (collection_at l r₁) here (page_in l v k) j low is_page_lem names_it).stripe in
          record {
            stripe = rw stripe low;
            sound = rw stripe (record_pass l (r j) (t.stripes.stripe j low));
            named = rw stripe names_it;
          }

      -- it is copied as it stands
      pub copying_stands : (k : ℕ) → k < g.k → named_in l (record_at l r₁) c v k ≡ true → {to : ℕ} {r : Progress} {y : List ℕ}
          → ((rs ws : List ℕ) → Ran l q (fed (copy_feed l c (images x r₁ zs) (v * g.k + k)) (λ xs. program c to (copy_of l (v * g.k + k) (page_at l x c (v * g.k + k)) xs)) ∷ []) r (images x rs ws) (images y rs ws))
          → (rs ws : List ℕ) → Ran l q (fed (as_stands (page_at l x c) (v * g.k + k)) (λ xs. program c to (copy_of l (v * g.k + k) (page_at l x c (v * g.k + k)) xs)) ∷ []) r (images x rs ws) (images y rs ws)
      copying_stands k place n h rs ws =
          rw (copied_as_stands l u (images x r₁ zs) state.0 c (omega (arith, b.chip)) (page_in l v k) (page_number_lem l u.within (page_in l v k) (page_in_fits l v k chosen.victim place)) n) at (h rs ws)

      -- the victim's pages are as they were
      pub copying_still : (k : ℕ) → k < g.k → page_at l x c (page_in l v k) ≡ page_at l x₀ c (page_in l v k)
      copying_still k place =
          state.1.outside (page_in l v k) (in_other_block l d v k (λ same. blocks_differ l u s f c v d chosen (sym same)) place)
