-- The moves of a collection as the code makes them, one place after another, and the list of its end.
use Prim.Native.Nat.{ℕ, ◌+◌, ◌*◌, ◌≤◌, ◌<◌}
use native.Mathlib.Omega.{arith}
use mathlib.Core.Path.{◌≡◌, sym, ◌∙◌}
use mathlib.Core.Logic.{◌≢◌}
use mathlib.Core.Bool.{Bool, true, false}
use mathlib.Core.List.{List, [], ◌∷◌}
use lib.ListN.{length}
use borrow.Author.Tests.{eq-eqb, ne_eqb}
use Rattle.layout.specs.declared.Geometry.{Geometry}
use Rattle.layout.specs.Layout.{Layout, layout_of, pages, page_in, no_chip}
use Rattle.layout.specs.Page.{page_at}
use Rattle.layout.specs.Record.{record_at}
use Rattle.layout.specs.Collection.{Collection, collection_at}
use Rattle.layout.specs.Images.{Images, slots_length}
use Rattle.layout.proofs.Pages.{page_in_fits}
use Rattle.steps.specs.declared.Progress.{Progress}
use Rattle.steps.specs.Store.{stripe}
use Rattle.steps.specs.Steps.{plain, apply_all, and_then, then_below}
use Rattle.steps.specs.Allowance.{Sane, Ran, images}
use Rattle.steps.proofs.Prefixes.{leads_weaken}
use Rattle.steps.proofs.Allowances.{ran_none, ran_whole, ran_cut, ran_then_below}
use Rattle.rules.specs.Open.{repointed, due, ending, move_from, move_steps, finish_of, finish_steps}
use Rattle.rules.proofs.Soundness.Statements.{Usable, Sound}
use Rattle.rules.proofs.Stores.Kept.{Kept}
use Rattle.rules.proofs.Stores.Moving.{stripe_fits}
use Rattle.rules.proofs.Lists.Finish.{Moved, moves_lead_to}
use Rattle.codec.specs.declared.CollectionRecord.{CollectionRecord}
use Rattle.codec.specs.declared.StripeRecord.{StripeRecord}
use Rattle.codec.specs.declared.Spare.{Spare}
use Rattle.codec.specs.Views.{record_from, spare_of, CollectionIs}
use Rattle.names.specs.Checked.{Checked}
use Rattle.names.proofs.Statements.{some_slots, within, usable, stripes, chip_is_sound, sound, checked}
use Rattle.collect.proofs.Underway.{Working, working}

-- ---- the move of one place

module _ {g : Geometry} {chips records : List ℕ} (h : Checked g no_chip chips records) {t : CollectionRecord}
    (is : CollectionIs t (collection_at (layout_of g) records)) (busy : t.phase ≡ 2) {i : ℕ} (place : i < g.k) where
  abbrev l : Layout
  l = layout_of g

  abbrev co : Collection
  co = collection_at l records

  -- the page of the destination, as the code has its number, and whether it is due
  abbrev q : ℕ
  q = t.destination * g.k + i

  abbrev is_due : Bool
  is_due = due l co (page_at l chips t.chip) (record_at l records) q

  -- the collection is under way, and the page is one of the chip
  pub under_way : Working g t
  under_way = working h is (omega arith)

  pub page_fits : q < pages l
  page_fits = page_in_fits l t.destination i under_way.destination place

  -- the definition says the same of it
  due_there : is_due ≡ due l co (page_at l chips co.chip) (record_at l records) (page_in l co.destination i)
  due_there = rw (is.chip, is.destination)

  -- nothing is done where it is not due
  pub no_move : is_due ≡ false → (zs : List ℕ) → move_steps l co i (images chips records zs) ≡ []
  unfolding move_steps move_from
  no_move e zs = rw (sym due_there ∙ e)

  -- where it is due, with the spare u of that page
  module _ (e : is_due ≡ true) {u : Spare} (spare : u ≡ spare_of (page_at l chips t.chip q)) where
    -- its stripe is one of the store's
    pub due_stripe : u.stripe < g.s
    due_stripe =
        rw (spare, is.chip, is.destination)
        (stripe_fits l (record_at l records) (page_at l chips co.chip) co i
        (record {
          within = within g chips records h;
          records = stripes g chips records h;
          chip = chip_is_sound g chips records h co.chip (rw is.chip at under_way.chip);
          busy = sym is.phase ∙ busy;
          fits = place;
          is_due_lem = sym due_there ∙ e;
        }))

    -- one record is stored, and n is it
    pub one_move : (n : StripeRecord) → record_from l n ≡ repointed l t.chip u.stripe u.copied q (record_at l records u.stripe)
        → (zs : List ℕ) → move_steps l co i (images chips records zs) ≡ plain (stripe u.stripe (record_from l n)) ∷ []
    unfolding move_steps move_from
    one_move n new zs = rw (sym due_there ∙ e, new, spare, is.chip, is.destination)

-- ---- all places

-- sound images stay so through the moves, and the collection record stays
moved_sound : (l : Layout) → Usable l → (s t : Images) → Sound l s → (collection_at l s.records).phase ≡ 2 → (i : ℕ) → i ≤ l.K
    → t ≡ apply_all l (then_below l i (move_steps l (collection_at l s.records)) s) s
    → Sound l t × (collection_at l t.records ≡ collection_at l s.records)
moved_sound l u s t f busy i fits e =
    rw e
    (leads_weaken l (Kept l) (Kept l) (Moved l s i) (λ v. Sound l v × (collection_at l v.records ≡ collection_at l s.records))
    (then_below l i (move_steps l (collection_at l s.records)) s) s (λ v k. k) (λ v k m. (k.sound, m.collection))
    (moves_lead_to l u s f busy i fits)).ends

-- the moves of the places below i have brought the progress p and the records x₀ to q and x
pub record Carried (g : Geometry) (chips x₀ : List ℕ) (p : Progress) (i : ℕ) (q : Progress) (x : List ℕ) : Type 0 where
  pub fits : i ≤ g.k
  pub sane : Sane q
  pub ran : (zs : List ℕ) → length zs ≡ slots_length (layout_of g)
      → Ran (layout_of g) p (then_below (layout_of g) i (move_steps (layout_of g) (collection_at (layout_of g) x₀)) (images chips x₀ zs)) q (images chips x₀ zs) (images chips x zs)

module _ {g : Geometry} {chips x₀ : List ℕ} {p : Progress} where
  -- before the first place
  pub carried_none : Sane p → Carried g chips x₀ p 0 p x₀
  unfolding then_below
  carried_none h = record { fits = omega arith; sane = h; ran = λ zs e. ran_none (layout_of g) p (images chips x₀ zs) h }

  module _ {i : ℕ} {q : Progress} {x : List ℕ} (w : Carried g chips x₀ p i q x) where
    -- what is cut makes no move of the places after it
    pub carried_cut : q.cut ≡ true → (zs : List ℕ) → length zs ≡ slots_length (layout_of g)
        → Ran (layout_of g) p (then_below (layout_of g) g.k (move_steps (layout_of g) (collection_at (layout_of g) x₀)) (images chips x₀ zs)) q (images chips x₀ zs) (images chips x zs)
    carried_cut c zs e =
        ran_cut (layout_of g) p q (move_steps (layout_of g) (collection_at (layout_of g) x₀)) i g.k (images chips x₀ zs) (images chips x zs) w.fits c (w.ran zs e)

    module _ (h : Checked g no_chip chips x₀) (busy : (collection_at (layout_of g) x₀).phase ≡ 2) (going : q.cut ≡ false) where
      -- what is not cut has kept the tests and the collection record
      pub carried_sound : Checked g no_chip chips x × (collection_at (layout_of g) x ≡ collection_at (layout_of g) x₀)
      carried_sound =
          let l = layout_of g in
          let (zs, e) = some_slots l in
          let s = images chips x₀ zs in
          let t = images chips x zs in
          let whole = ran_whole l p q (then_below l i (move_steps l (collection_at l x₀)) s) s t (w.ran zs e) going in
          let (f, same) = moved_sound l (usable g chips x₀ h) s t (sound g chips x₀ h zs e) busy i w.fits whole in
          (checked g h.chips_fit.limited t f, same)

      -- one place more
      pub carried_more : {r : Progress} {y : List ℕ} → i < g.k
          → ((zs : List ℕ) → Ran (layout_of g) q (move_steps (layout_of g) (collection_at (layout_of g) x) i (images chips x zs)) r (images chips x zs) (images chips y zs))
          → Carried g chips x₀ p (i + 1) r y
      carried_more {r} {y} place n = record {
        fits = omega arith;
        sane = (n []).sane;
        ran = λ zs e.
            ran_then_below (layout_of g) p q r (move_steps (layout_of g) (collection_at (layout_of g) x₀)) i (images chips x₀ zs) (images chips x zs) (images chips y zs)
            (w.ran zs e) (rw carried_sound.1 at (n zs));
      }

-- ---- the list of the end, by the phase that the code reads

module _ (l : Layout) (s : Images) {t : CollectionRecord} (is : CollectionIs t (collection_at l s.records)) where
  open l use {K}

  abbrev at_end : Collection
  at_end = collection_at l s.records

  -- phase 1
  pub finish_first : t.phase ≡ 1 → finish_steps l s ≡ ending t.chip t.destination
  unfolding finish_steps finish_of
  finish_first e = rw (is.chip, is.destination, eq-eqb at_end.phase 1 (sym is.phase ∙ e))

  -- phase 2
  pub finish_second : t.phase ≡ 2 → finish_steps l s ≡ and_then l (then_below l K (move_steps l at_end) s) (λ v. ending t.chip t.victim) s
  unfolding finish_steps finish_of
  finish_second e =
      rw (is.chip, is.victim, ne_eqb at_end.phase 1 (omega (arith, is.phase)), eq-eqb at_end.phase 2 (sym is.phase ∙ e))

  -- phase 0
  pub finish_idle : t.phase ≢ 1 → t.phase ≢ 2 → finish_steps l s ≡ []
  unfolding finish_steps finish_of
  finish_idle d e = rw (ne_eqb at_end.phase 1 (λ n. d (is.phase ∙ n)), ne_eqb at_end.phase 2 (λ n. e (is.phase ∙ n)))
