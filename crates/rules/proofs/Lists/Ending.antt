-- The last two stores of a collection: a block without names is erased, and phase 0 stored.
use Prim.Native.Nat.{ℕ, ◌+◌, ◌<◌}
use native.Mathlib.Omega.{arith}
use mathlib.Core.Path.{◌≡◌, refl, ap, ◌∙◌}
use mathlib.Core.Logic.{◌≢◌}
use mathlib.Core.Bool.{true, false}
use mathlib.Core.List.{[], ◌∷◌}
use lib.Dec.{eqb}
use borrow.Author.Tests.{eqb-true, eqb-false, ne_eqb}
use Rattle.ranges.proofs.Looks.{by_test}
use Rattle.ranges.proofs.Updates.{at_same}
use Rattle.layout.specs.Layout.{Layout, page_in, no_chip}
use Rattle.layout.specs.Page.{Page, page_at}
use Rattle.layout.specs.Record.{record_at}
use Rattle.layout.specs.Collection.{Collection, collection_at, idle}
use Rattle.layout.specs.Images.{Images}
use Rattle.steps.specs.Store.{erase, collection, apply}
use Rattle.steps.specs.Steps.{plain}
use Rattle.steps.proofs.View.{wiped, page_erased}
use Rattle.steps.proofs.Prefixes.{Leads, leads_one, leads_cons}
use Rattle.rules.specs.Names.{named}
use Rattle.rules.specs.Blocks.{clean_block}
use Rattle.rules.specs.Open.{ending}
use Rattle.rules.proofs.Soundness.Statements.{Usable, Sound, idle_sound, not_collecting}
use Rattle.rules.proofs.Stores.Kept.{Kept, kept_refl, kept_trans, no_copies_yet}
use Rattle.rules.proofs.Stores.Chips.{wiped_clean}
use Rattle.rules.proofs.Stores.Storing.{kept_erase, kept_collection, collection_view}

module _ (l : Layout) where
  open l use {N, K, B}

  -- the collection has ended; t has block b of chip c wiped
  pub record BlockErased (s : Images) (c b : ℕ) (t : Images) : Type 0 where
    pub is_idle : collection_at l t.records ≡ idle
    pub pages : page_at l t.chips c ≡ wiped l b (page_at l s.chips c)

  module _ (u : Usable l) where
    module _ (s : Images) (f : Sound l s) where
      abbrev co : Collection
      co = collection_at l s.records

      module _ (busy : co.phase ≢ 0) (b : ℕ) (block : b < B)
          (free : (i : ℕ) → i < K → named l (record_at l s.records) co.chip (page_in l b i) ≡ false)
          (victim : co.phase ≡ 2 → b ≡ co.victim) where
        abbrev c : ℕ
        c = co.chip

        chip : c < N + 1
        chip = omega (arith, f.stripes.collection.chip busy)

        abbrev t : Images
        t = apply l (erase c b) s

        first : Kept l s t
        first = kept_erase l u s f c b chip block free (λ e. (refl, victim e))

        view : page_at l t.chips c ≡ wiped l b (page_at l s.chips c)
        unfolding apply
        view =
            ap (λ (y : ℕ → ℕ → Page). y c) (page_erased l u.narrow s.chips f.chips c chip b block)
            ∙ at_same c (wiped l b (page_at l s.chips c)) (page_at l s.chips)

        same_collection : collection_at l t.records ≡ co
        unfolding apply
        same_collection = refl

        clean_on : (c' : ℕ) → c' < N + 1 → (b' : ℕ) × (b' < B) × (clean_block l (page_at l t.chips c') b' ≡ true)
        clean_on c' fits = by_test (eqb c c')
            (λ e. (b, block, rw (← eqb-true c c' e, view) (wiped_clean l b (page_at l s.chips c))))
            (λ e. (first.sound.chip c' fits (ne_eqb c' no_chip (omega (arith, u.within.members_high)))).spare
            (rw same_collection (not_collecting co c' (eqb-false c c' e))))

        second : Kept l t (apply l (collection idle) t)
        second =
            kept_collection l u t first.sound idle (idle_sound l) (λ c' fits e. clean_on c' fits) (λ e. absurd (omega arith)) (λ e. absurd (omega arith))
            (no_copies_yet l (record_at l t.records) (page_at l t.chips idle.chip) idle (omega arith))

        ended : BlockErased s c b (apply l (collection idle) t)
        unfolding apply
        ended = record { is_idle = collection_view l u t first.sound idle (idle_sound l); pages = view }

        -- both stores, in order
        pub ending_leads : Leads l (Kept l) (BlockErased s c b) (ending c b) s
        ending_leads =
            leads_cons l (Kept l) (kept_trans l) (BlockErased s c b) (plain (erase c b)) (plain (collection idle) ∷ []) s (kept_refl l s f) first
            (leads_one l (Kept l) (kept_trans l) (BlockErased s c b) (plain (collection idle)) t (kept_refl l t first.sound) second ended)
