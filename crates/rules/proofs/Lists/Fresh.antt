-- The images as a finished format left them: every page erased, every record empty, no collection.
use Prim.Native.Nat.{ℕ, suc, ◌+◌, ◌-◌, ◌*◌, ◌≤◌, ◌<◌}
use native.Mathlib.Nat.{zero-mul, suc-mul, not-suc-le-zero}
use native.Mathlib.Decide.{dec_lt}
use native.Mathlib.Omega.{arith}
use mathlib.Core.Path.{◌≡◌, refl, ap, ◌∙◌}
use mathlib.Core.Bool.{true}
use mathlib.Core.List.{[], ◌∷◌, ◌++◌}
use lib.ListN.{length}
use borrow.Author.Tests.{lt-ltb, le-leb, lt-leb}
use Rattle.ranges.proofs.Looks.{by_order, at_last}
use Rattle.octets.proofs.Numbers.{pow_positive}
use Rattle.ranges.proofs.Updates.{at_same, at_other}
use Rattle.layout.specs.Layout.{Layout, limits, pages, record_bytes}
use Rattle.layout.specs.Page.{Page, page_at}
use Rattle.layout.specs.Record.{empty_record, record_at, rest_bytes, bytes_of_record}
use Rattle.layout.specs.Collection.{collection_at, idle, bytes_of_collection}
use Rattle.layout.specs.Images.{Images, lengths, chips_length, records_length, slots_length}
use Rattle.layout.proofs.Pages.{none_fits}
use Rattle.layout.proofs.Codec.{RecordFits, CollectionFits, length_record, length_collection}
use Rattle.steps.specs.Store.{apply, collection}
use Rattle.steps.specs.Steps.{plain, apply_all, steps_below}
use Rattle.steps.proofs.Runs.{apply_append, below_carries}
use Rattle.steps.proofs.View.{erased_page, wiped, page_erased, length_erased, length_recorded, record_stored, collection_stored, records_stay}
use Rattle.rules.specs.Refusals.{checked, buffers_rows}
use Rattle.rules.specs.Calls.{Outcome, format_call, verdict, done}
use Rattle.rules.specs.Format.{erase_block, erase_chip, empty_stripe, format_steps}
use Rattle.rules.proofs.Soundness.Checks.{lengths_are}
use Rattle.rules.proofs.Soundness.Table.{by_check}
use Rattle.rules.proofs.Soundness.Accepted.{buffers_accepted, buffers_pass}
use Rattle.rules.proofs.Lists.CutRule.{verdict_number, cut_rules}

module _ (l : Layout) where
  open l use {N, K, B, S, D}

  pub record Fresh (s : Images) : Type 0 where
    pub chips : length s.chips ≡ chips_length l
    pub records : length s.records ≡ records_length l
    pub slots : length s.slots ≡ slots_length l
    pub page : (c p : ℕ) → c < N + 1 → p < pages l → page_at l s.chips c p ≡ erased_page l
    pub stripe : (j : ℕ) → j < S → record_at l s.records j ≡ empty_record l
    pub collection : collection_at l s.records ≡ idle

  module _ (narrow : D ≤ 4) (some : 1 ≤ D) where
    -- the chips before c are erased, and of chip c the blocks before b; records and slots are as they were
    record ErasedTo (from : Images) (c b : ℕ) (s : Images) : Type 0 where
      chips : length s.chips ≡ chips_length l
      records : s.records ≡ from.records
      slots : s.slots ≡ from.slots
      before : (c' p : ℕ) → c' < c → p < pages l → page_at l s.chips c' p ≡ erased_page l
      here : (p : ℕ) → p < b * K → page_at l s.chips c p ≡ erased_page l

    wiped_here : (b p : ℕ) (x : ℕ → Page) → p < suc b * K → (p < b * K → x p ≡ erased_page l) → wiped l b x p ≡ erased_page l
    unfolding wiped
    wiped_here b p x h before = elim (dec_lt p (b * K)) [
      | yes low ↦ rw (lt-leb (b * K) p low) (before low)
      | no low ↦ rw (le-leb (b * K) p (omega arith), lt-ltb p (b * K + K) (rw suc-mul at h))
    ]

    block_step : (from : Images) (c : ℕ) → c < N + 1 → (b : ℕ) → b < B → (t : Images)
        → ErasedTo from c b t → ErasedTo from c (suc b) (apply_all l (erase_block c b) t)
    unfolding apply_all apply
    block_step from c chip b block t h =
        let view = page_erased l narrow t.chips h.chips c chip b block in
        record {
          chips = length_erased l narrow t.chips h.chips c chip b block ∙ h.chips;
          records = h.records;
          slots = h.slots;
          before = λ c' p low inside.
              rw (view, at_other c (wiped l b (page_at l t.chips c)) (page_at l t.chips) c' (omega arith)) (h.before c' p low inside);
          here = λ p inside.
              rw (view, at_same c (wiped l b (page_at l t.chips c)) (page_at l t.chips)) (wiped_here b p (page_at l t.chips c) inside (h.here p));
        }

    chip_step : (from : Images) (c : ℕ) → c < N + 1 → (t : Images)
        → ErasedTo from c 0 t → ErasedTo from (suc c) 0 (apply_all l (erase_chip l c) t)
    chip_step from c chip t h =
        let e = below_carries l (ErasedTo from c) B (erase_block c) t h (block_step from c chip) in
        record {
          chips = e.chips;
          records = e.records;
          slots = e.slots;
          before = λ c' p low inside. at_last c' c low (λ below. e.before c' p below inside) (λ same. rw same (e.here p inside));
          here = λ p inside. absurd (not-suc-le-zero (rw zero-mul at inside));
        }

    erases : (s : Images) → length s.chips ≡ chips_length l → ErasedTo s (N + 1) 0 (apply_all l (steps_below (N + 1) (erase_chip l)) s)
    erases s long =
        below_carries l (λ c. ErasedTo s c 0) (N + 1) (erase_chip l) s
        (record {
          chips = long;
          records = refl;
          slots = refl;
          before = λ c' p low inside. absurd (not-suc-le-zero low);
          here = λ p inside. absurd (not-suc-le-zero (rw zero-mul at inside));
        })
        (chip_step s)

    -- the records before j are empty; chips and slots are as they were
    record EmptyTo (from : Images) (j : ℕ) (s : Images) : Type 0 where
      records : length s.records ≡ records_length l
      chips : s.chips ≡ from.chips
      slots : s.slots ≡ from.slots
      before : (i : ℕ) → i < j → record_at l s.records i ≡ empty_record l

    empty_fits : RecordFits l (empty_record l)
    unfolding empty_record
    empty_fits = record {
      current = λ m h. (none_fits l);
      old = λ m h. (none_fits l);
      beyond = λ m h. (refl, refl);
      parity = (none_fits l);
      rest = pow_positive (rest_bytes l);
    }

    record_step : (from : Images) (j : ℕ) → j < S → (t : Images) → EmptyTo from j t → EmptyTo from (suc j) (apply_all l (empty_stripe l j) t)
    unfolding apply_all apply
    record_step from j stripe t h =
        let view = record_stored l some t.records h.records j stripe (empty_record l) empty_fits in
        record {
          records =
              length_recorded l some t.records h.records j (omega arith) (bytes_of_record l (empty_record l)) (length_record l some (empty_record l)) ∙ h.records;
          chips = h.chips;
          slots = h.slots;
          before = λ i low.
              at_last i j low
              (λ below. rw (view, at_other j (empty_record l) (record_at l t.records) i (omega arith)) (h.before i below))
              (λ same. rw (same, view, at_same j (empty_record l) (record_at l t.records)));
        }

    empties : (s : Images) → length s.records ≡ records_length l → EmptyTo s S (apply_all l (steps_below S (empty_stripe l)) s)
    empties s long =
        below_carries l (EmptyTo s) S (empty_stripe l) s
        (record { records = long; chips = refl; slots = refl; before = λ i low. absurd (not-suc-le-zero low) })
        (record_step s)

    idle_fits : CollectionFits l idle
    idle_fits = record { victim = pow_positive 2; destination = pow_positive 2; rest = pow_positive (record_bytes l - 6) }

    -- a format's whole list, from any images of the right lengths
    pub formatted : (s : Images) → length s.chips ≡ chips_length l → length s.records ≡ records_length l → length s.slots ≡ slots_length l
        → Fresh (apply_all l (format_steps l) s)
    unfolding format_steps apply_all apply
    formatted s chips records slots =
        let erasing = steps_below (N + 1) (erase_chip l) in
        let emptying = steps_below S (empty_stripe l) in
        let ending = plain (collection idle) ∷ [] in
        let t = apply_all l erasing s in
        let u = apply_all l emptying t in
        let e = erases s chips in
        let r = empties t (ap length e.records ∙ records) in
        rw (apply_append l erasing (emptying ++ ending) s, apply_append l emptying ending t)
        (record {
          chips = ap length r.chips ∙ e.chips;
          records = length_recorded l some u.records r.records S (omega arith) (bytes_of_collection l idle) (length_collection l some idle) ∙ r.records;
          slots = ap length (r.slots ∙ e.slots) ∙ slots;
          page = λ c p chip inside. rw r.chips (e.before c p chip inside);
          stripe = λ j h. rw (records_stay l some u.records r.records idle idle_fits) (r.before j h);
          collection = collection_stored l some u.records r.records idle idle_fits;
        })

-- a format answered done has images of its geometry, and made its whole list
format_done : (l : Layout) (s : Images) (a : ℕ) → verdict (format_call l s a).answer ≡ done
    → (limits l ≡ true) × (lengths l s ≡ true) × ((format_call l s a).images ≡ apply_all l (format_steps l) s)
format_done l s a e =
    let rule = (cut_rules l).format s a in
    by_check (checked (buffers_rows l s))
    (λ passed. by_order a (length (format_steps l))
    (λ less. absurd (omega (arith, ap verdict_number (rw (rule.cutting passed less) at e))))
    (λ more.
    let (fit, long) = buffers_accepted l s passed in
    (fit, long, ap (λ (o : Outcome). o.images) (rule.finishing passed more))))
    (λ r failed. absurd (omega (arith, ap verdict_number (rw (rule.refusing r failed) at e))))

-- what a format answered done leaves
pub format_fresh : (l : Layout) → 1 ≤ l.D → l.D ≤ 4 → (s : Images) (allowance : ℕ) → verdict (format_call l s allowance).answer ≡ done
    → (limits l ≡ true) × Fresh l (format_call l s allowance).images
format_fresh l some narrow s allowance e =
    let (fit, long, is) = format_done l s allowance e in
    let (chips, records, slots) = lengths_are l s long in
    (fit, rw is (formatted l narrow some s chips records slots))

-- and every geometry within the limits has one: an allowance for the whole list is enough
pub format_finishes : (l : Layout) (s : Images) (a : ℕ) → limits l ≡ true → lengths l s ≡ true → length (format_steps l) ≤ a
    → verdict (format_call l s a).answer ≡ done
format_finishes l s a fit long enough = rw (((cut_rules l).format s a).finishing (buffers_pass l s fit long) enough)
