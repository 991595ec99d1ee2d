-- The end of a collection, which open and collect share: from sound images in any phase, every cut of it keeps what the images hold.
use Prim.Native.Nat.{ℕ, suc, ◌+◌, ◌≤◌, ◌<◌}
use native.Mathlib.Nat.{le_refl, not-suc-le-zero}
use native.Mathlib.Omega.{arith}
use mathlib.Core.Path.{◌≡◌, refl, sym, ap, ◌∙◌}
use mathlib.Core.Logic.{◌≢◌}
use mathlib.Core.Bool.{true, false}
use mathlib.Core.List.{[]}
use lib.Dec.{eqb}
use borrow.Author.Tests.{eqb-true, eqb-false}
use Rattle.ranges.proofs.Looks.{by_test, both, at_last}
use Rattle.layout.specs.Layout.{Layout, page_in, in_block}
use Rattle.layout.specs.Page.{Page, page_at}
use Rattle.layout.specs.Record.{Record, record_at}
use Rattle.layout.specs.Collection.{Collection, collection_at, idle}
use Rattle.layout.specs.Images.{Images}
use Rattle.layout.proofs.Pages.{same_place, in_own_block, in_other_block}
use Rattle.steps.specs.Store.{apply}
use Rattle.steps.specs.Steps.{and_then, then_below}
use Rattle.steps.proofs.Prefixes.{Leads, leads_nil, leads_one, leads_then, leads_then_below, leads_weaken}
use Rattle.rules.specs.Names.{named}
use Rattle.rules.specs.Open.{ending, due, move_step, move_from, move_steps, finish_of, finish_steps}
use Rattle.rules.proofs.Soundness.Statements.{Usable, CollectionSound, ChipSound, Sound, sound_chip}
use Rattle.rules.proofs.Stores.Kept.{Kept, kept_refl, kept_trans}
use Rattle.rules.proofs.Stores.Moves.{kept_move, move_collection, move_to, move_from_lem, move_other}
use Rattle.rules.proofs.Stores.Twins.{due_at, twin_is, is_twin, due_is, is_due_lem, due_before}
use Rattle.rules.proofs.Lists.Ending.{BlockErased, ending_leads}

module _ (l : Layout) where
  -- what the moves before place i have left of the images s
  pub record Moved (s : Images) (i : ℕ) (t : Images) : Type 0 where
    pub collection : collection_at l t.records ≡ collection_at l s.records
    pub chips : t.chips ≡ s.chips
    pub not_due : (k : ℕ) → k < i → due_at l t k ≡ false

  -- what the end of a collection leaves
  pub record Ended (s t : Images) : Type 0 where
    pub is_idle : collection_at l t.records ≡ idle
    pub wiped_victim : (collection_at l s.records).phase ≡ 2 → BlockErased l s (collection_at l s.records).chip (collection_at l s.records).victim t

module _ (l : Layout) (u : Usable l) where
  open l use {N, K}

  module _ (s : Images) (f : Sound l s) (busy : (collection_at l s.records).phase ≡ 2) where
    abbrev co : Collection
    co = collection_at l s.records

    abbrev c : ℕ
    c = co.chip

    abbrev x : ℕ → Page
    x = page_at l s.chips c

    abbrev r : ℕ → Record
    r = record_at l s.records

    working : co.phase ≢ 0
    working = omega arith

    chip : c < N + 1
    chip = omega (arith, f.stripes.collection.chip working)

    here : ChipSound l r x c co
    here = sound_chip l u s f c chip

    -- a page of the victim is none of the destination
    blocks_apart : (p k : ℕ) → k < K → in_block l co.victim p ≡ true → p ≢ page_in l co.destination k
    blocks_apart p k h inside e =
        both (in_block l co.victim p) inside (rw e (in_other_block l co.victim co.destination k (f.stripes.collection.apart working) h))

    module _ (i : ℕ) (place : i < K) (e : due_at l s i ≡ true) where
      abbrev q : ℕ
      q = page_in l co.destination i

      abbrev t : Images
      t = apply l (move_step l co x r q).store s

      same_chips : t.chips ≡ s.chips
      unfolding apply
      same_chips = refl

      same_collection : collection_at l t.records ≡ co
      same_collection = move_collection l u s f busy i place e

      due_after : (k : ℕ) → due_at l t k ≡ due l co x (record_at l t.records) (page_in l co.destination k)
      unfolding apply
      due_after k = rw same_collection

      moved_not : due_at l t i ≡ false
      moved_not =
          rw (due_after i)
          (by_test (due l co x (record_at l t.records) q)
          (λ h. both (named l (record_at l t.records) c q) (move_to l u s f busy i place e)
          (twin_is l (record_at l t.records) x c (x q).copied q (due_is l co x (record_at l t.records) q h).2).free)
          (λ h. h))

      -- the original of what is due at q stands in the victim
      from_victim : in_block l co.victim (x q).copied ≡ true
      from_victim = (due_is l co x r q e).0

      -- what is due after the move was due before it
      due_earlier : (k : ℕ) → k < K → k ≢ i → due l co x (record_at l t.records) (page_in l co.destination k) ≡ true → due_at l s k ≡ true
      due_earlier k fits other h =
          let q' = page_in l co.destination k in
          let d = due_is l co x (record_at l t.records) q' h in
          due_before l co x r (record_at l t.records) q' h
          (λ n.
          rw (← move_other l u s f busy i place e (x q').copied
          (λ same. both (named l (record_at l t.records) c (x q').copied) n (rw same (move_from_lem l u s f busy i place e)))
          (blocks_apart (x q').copied i place d.0)) n)
          (λ n.
          rw (← move_other l u s f busy i place e q'
          (λ same. blocks_apart (x q).copied k fits from_victim (sym same))
          (λ same. other (same_place l co.destination k co.destination i fits place same).1)) n)

      still_not : (k : ℕ) → k < i → due_at l s k ≡ false → due_at l t k ≡ false
      still_not k below before =
          rw (due_after k)
          (by_test (due l co x (record_at l t.records) (page_in l co.destination k))
          (λ h. both (due_at l s k) (due_earlier k (omega arith) (omega arith) h) before)
          (λ h. h))

    -- the move of place i, or nothing where it is not due
    move_leads : (i : ℕ) → i < K → Moved l s i s → Leads l (Kept l) (Moved l s (suc i)) (move_steps l co i s) s
    unfolding move_steps move_from
    move_leads i place m =
        by_test (due_at l s i)
        (λ e.
        rw e
        (leads_one l (Kept l) (kept_trans l) (Moved l s (suc i)) (move_step l co x r (page_in l co.destination i)) s (kept_refl l s f)
        (kept_move l u s f busy i place e)
        (record {
          collection = same_collection i place e;
          chips = same_chips i place e;
          not_due = λ k below. at_last k i below (λ h. still_not i place e k h (m.not_due k h)) (λ h. rw h (moved_not i place e));
        })))
        (λ e.
        rw e
        (leads_nil l (Kept l) (kept_trans l) (Moved l s (suc i)) s (kept_refl l s f)
        (record { collection = refl; chips = refl; not_due = λ k below. at_last k i below (m.not_due k) (λ h. rw h e) })))

    -- with nothing due, no page of the victim is named
    victim_free : ((k : ℕ) → k < K → due_at l s k ≡ false) → (i : ℕ) → i < K → named l r c (page_in l co.victim i) ≡ false
    victim_free none-due i place = by_test (named l r c (page_in l co.victim i))
        (λ n.
        let one = here.phase_2 busy refl i place n in
        let p = page_in l co.victim i in
        let q = page_in l co.destination one.place in
        let is = one.is_twin in
        both (due_at l s one.place)
        (is_due_lem l co x r q
        (rw is.copied (in_own_block l co.victim i place))
        (rw is.copied n)
        (rw is.copied (is_twin l r x c p q is)))
        (none-due one.place one.fits))
        (λ n. n)

  -- all moves, one after the other
  module _ (s : Images) (f : Sound l s) (busy : (collection_at l s.records).phase ≡ 2) where
    next_move : (i : ℕ) → i < K → (t : Images) → Kept l s t → Moved l s i t → Leads l (Kept l) (Moved l s (suc i)) (move_steps l (collection_at l s.records) i t) t
    next_move i place t k m =
        rw (← m.collection)
        (leads_weaken l (Kept l) (Kept l) (Moved l t (suc i)) (Moved l s (suc i)) (move_steps l (collection_at l t.records) i t) t (λ v h. h)
        (λ v h n. record { collection = n.collection ∙ m.collection; chips = n.chips ∙ m.chips; not_due = n.not_due })
        (move_leads t k.sound (ap (λ (o : Collection). o.phase) m.collection ∙ busy) i place
        (record { collection = refl; chips = refl; not_due = m.not_due })))

    -- those before place i
    pub moves_lead_to : (i : ℕ) → i ≤ K → Leads l (Kept l) (Moved l s i) (then_below l i (move_steps l (collection_at l s.records)) s) s
    moves_lead_to i fits =
        leads_then_below l (Kept l) (kept_trans l) (Moved l s) i (move_steps l (collection_at l s.records)) s (kept_refl l s f)
        (record { collection = refl; chips = refl; not_due = λ k h. absurd (not-suc-le-zero h) })
        (λ k h. next_move k (omega arith))

    -- then the victim is erased
    last_stores : (t : Images) → Kept l s t → Moved l s K t
        → Leads l (Kept l) (BlockErased l s (collection_at l s.records).chip (collection_at l s.records).victim)
        (ending (collection_at l s.records).chip (collection_at l s.records).victim) t
    last_stores t k m =
        let phase : (collection_at l t.records).phase ≡ 2 = ap (λ (o : Collection). o.phase) m.collection ∙ busy in
        let busy' : (collection_at l t.records).phase ≢ 0 = omega arith in
        rw (← m.collection)
        (leads_weaken l (Kept l) (Kept l) (BlockErased l t (collection_at l t.records).chip (collection_at l t.records).victim)
        (BlockErased l s (collection_at l t.records).chip (collection_at l t.records).victim)
        (ending (collection_at l t.records).chip (collection_at l t.records).victim) t (λ v h. h)
        (λ v h n. record { is_idle = n.is_idle; pages = rw m.chips at n.pages })
        (ending_leads l u t k.sound busy' (collection_at l t.records).victim (k.sound.stripes.collection.victim busy')
        (victim_free t k.sound phase m.not_due) (λ e. refl)))

  idle_at_rest : (co : Collection) → CollectionSound l co → co.phase ≡ 0 → co ≡ idle
  idle_at_rest co f e = λ i. record {
    phase = e i;
    chip = (f.at_rest e).0 i;
    victim = (f.at_rest e).1 i;
    destination = (f.at_rest e).2 i;
    rest = f.rest i;
  }

  module _ (s : Images) (f : Sound l s) where
    abbrev was : Collection
    was = collection_at l s.records

    -- phase 1: the destination is erased
    dropped : was.phase ≡ 1 → Leads l (Kept l) (Ended l s) (ending was.chip was.destination) s
    dropped e =
        let busy : was.phase ≢ 0 = omega arith in
        let fits : was.chip < N + 1 = omega (arith, f.stripes.collection.chip busy) in
        leads_weaken l (Kept l) (Kept l) (BlockErased l s was.chip was.destination) (Ended l s) (ending was.chip was.destination) s (λ v h. h)
        (λ v h n. record { is_idle = n.is_idle; wiped_victim = λ two. absurd (omega arith) })
        (ending_leads l u s f busy was.destination (f.stripes.collection.destination busy)
        ((sound_chip l u s f was.chip fits).phase_1 e refl) (λ two. absurd (omega arith)))

    -- phase 2: the moves, and the victim is erased
    carried_out : was.phase ≡ 2
        → Leads l (Kept l) (Ended l s) (and_then l (then_below l K (move_steps l was) s) (λ t. ending was.chip was.victim) s) s
    carried_out e =
        leads_then l (Kept l) (kept_trans l) (Moved l s K) (Ended l s) (then_below l K (move_steps l was) s) (λ t. ending was.chip was.victim) s
        (moves_lead_to s f e K (le_refl K))
        (λ t k m.
        leads_weaken l (Kept l) (Kept l) (BlockErased l s was.chip was.victim) (Ended l s) (ending was.chip was.victim) t (λ v h. h)
        (λ v h n. record { is_idle = n.is_idle; wiped_victim = λ two. n })
        (last_stores s f e t k m))

    -- phase 0: nothing
    rested : was.phase ≢ 1 → was.phase ≢ 2 → Leads l (Kept l) (Ended l s) [] s
    rested d e =
        leads_nil l (Kept l) (kept_trans l) (Ended l s) s (kept_refl l s f)
        (record {
          is_idle = idle_at_rest was f.stripes.collection (omega (arith, f.stripes.collection.phases));
          wiped_victim = λ two. absurd (e two);
        })

    -- from sound images in any phase
    pub finish_leads : Leads l (Kept l) (Ended l s) (finish_steps l s) s
    unfolding finish_steps finish_of
    finish_leads = by_test (eqb was.phase 1)
        (λ e. rw e (dropped (eqb-true was.phase 1 e)))
        (λ e. by_test (eqb was.phase 2)
        (λ h. rw (e, h) (carried_out (eqb-true was.phase 2 h)))
        (λ h. rw (e, h) (rested (eqb-false was.phase 1 e) (eqb-false was.phase 2 h))))
