-- The tests of "Sound images" on the records and on the collection record pass exactly where the statements hold.
use Prim.Native.Nat.{ℕ, ◌^◌, ◌<◌}
use native.Mathlib.Decide.{ℕ_discrete}
use native.Mathlib.Omega.{arith}
use mathlib.Core.Path.{◌≡◌, refl}
use mathlib.Core.Logic.{◌≢◌}
use mathlib.Core.Bool.{Bool, true, false, not, cond, ◌&&◌, ◌||◌, and-false}
use mathlib.Core.List.{List, [], ◌∷◌}
use lib.Dec.{leb, ltb, eqb}
use borrow.Author.Tests.{ltb-true, ltb-false, leb-true, eqb-true, eqb-false, not-true, lt-ltb, le-ltb, le-leb, eq-eqb, ne_eqb}
use Rattle.ranges.specs.Look.{all_below, some_below, count_below}
use Rattle.ranges.proofs.Looks.{all_true, all_at, some_false, some_none}
use Rattle.ranges.proofs.Tests.{chain, AllTrue, and_both, both_and, chain_all, cond_equal, cond_equal_by, cond_other, differ, false_not, or_by, under, under_by, unless_equal, unless_equal_by, differ_by, or_else}
use Rattle.layout.specs.Layout.{Layout, none, is_none, pages}
use Rattle.layout.specs.Record.{Record, bit, no_slot, slotted, slot_of}
use Rattle.layout.specs.Collection.{Collection}
use Rattle.rules.specs.Sound.{own_slot, page_number, only_members, old_under_bit, current_under_bit, parity_under, member_sound, slot_sound, record_sound, collection_sound, sound_at, records_sound}
use Rattle.rules.proofs.Soundness.Statements.{Numbered, MemberSound, RecordSound, CollectionSound, RecordsSound}

-- "an old number, or a current one with its bit clear, needs ..": a and b for no old and no current one
needs_by : (a b c p : Bool) → (a ≡ false → p ≡ true) → (b ≡ false → c ≡ false → p ≡ true) → (a && (b || c)) || p ≡ true
needs_by true true c p h k = refl
needs_by true false true p h k = refl
needs_by true false false p h k = k refl refl
needs_by false b c p h k = h refl

module _ (l : Layout) where
  open l use {N, B, S, M}

  -- ---- one record

  number_sound : (p : ℕ) → page_number l p ≡ true → Numbered l p
  number_sound p e d = ltb-true p (pages l) (unless_equal p (none l) (ltb p (pages l)) e d)

  number_pass : (p : ℕ) → Numbered l p → page_number l p ≡ true
  number_pass p h = unless_equal_by p (none l) (ltb p (pages l)) (λ d. lt-ltb p (pages l) (h d))

  member_sound_lem : (r : Record) (m : ℕ) → member_sound l r m ≡ true → MemberSound l r m
  unfolding member_sound
  member_sound_lem r m e =
      let a = r.current m in
      let b = r.old m in
      let p = r.parity in
      let h = chain_all (page_number l a) (page_number l b ∷ only_members l r m ∷ old_under_bit l r m ∷ current_under_bit l r m ∷ parity_under l r m ∷ []) e in
      let needs : is_none l b && (is_none l a || bit r m) ≡ false → p ≢ none l =
      λ f. differ p (none l) (or_else (is_none l b && (is_none l a || bit r m)) (not (is_none l p)) h.1.1.1.1.1.0 f) in
      record {
        current = number_sound a h.0;
        old = number_sound b h.1.0;
        beyond = λ high.
            let n = and_both (is_none l a) (is_none l b) (or_else (ltb m N) (is_none l a && is_none l b) h.1.1.0 (le-ltb m N high)) in
            (eqb-true a (none l) n.0, eqb-true b (none l) n.1);
        old_under_bit_lem = unless_equal b (none l) (bit r m) h.1.1.1.0;
        current_under_bit_lem = λ t.
            let n = and_both (not (is_none l a)) (not (eqb a b)) (under (bit r m) (not (is_none l a) && not (eqb a b)) h.1.1.1.1.0 t) in
            (differ a (none l) n.0, differ a b n.1);
        parity_under_old = λ d. needs (rw (ne_eqb b (none l) d));
        parity_under_current = λ d f. needs (rw (ne_eqb a (none l) d, f, and-false (is_none l b)));
      }

  member_pass : (r : Record) (m : ℕ) → MemberSound l r m → member_sound l r m ≡ true
  unfolding member_sound
  member_pass r m h =
      let a = r.current m in
      let b = r.old m in
      let p = r.parity in
      let members : only_members l r m ≡ true = or_by (ltb m N) (is_none l a && is_none l b)
      (λ f. let n = h.beyond (ltb-false m N f) in both_and (eq-eqb a (none l) n.0) (eq-eqb b (none l) n.1)) in
      let with_bit : current_under_bit l r m ≡ true = under_by (bit r m) (not (is_none l a) && not (eqb a b))
      (λ t. let n = h.current_under_bit_lem t in both_and (differ_by a (none l) n.0) (differ_by a b n.1)) in
      let parity : parity_under l r m ≡ true = needs_by (is_none l b) (is_none l a) (bit r m) (not (is_none l p))
      (λ f. differ_by p (none l) (h.parity_under_old (eqb-false b (none l) f)))
      (λ f g. differ_by p (none l) (h.parity_under_current (eqb-false a (none l) f) g)) in
      rw (number_pass a h.current, number_pass b h.old, members, unless_equal_by b (none l) (bit r m) h.old_under_bit_lem, with_bit, parity)

  pub record_sound_lem : (r : Record) → record_sound l r ≡ true → RecordSound l r
  unfolding record_sound
  record_sound_lem r e =
      let h = chain_all (all_below 6 (member_sound l r)) (page_number l r.parity ∷ ltb r.bitmap (2 ^ N) ∷ slot_sound l r ∷ eqb r.rest 0 ∷ []) e in
      record {
        member = λ m six. member_sound_lem r m (all_at 6 (member_sound l r) h.0 m six);
        parity = number_sound r.parity h.1.0;
        bitmap = ltb-true r.bitmap (2 ^ N) h.1.1.0;
        no_slot_lem = λ z. eqb-true r.slot no_slot (cond_equal r.bitmap 0 (eqb r.slot no_slot) (leb r.slot M) h.1.1.1.0 z);
        slot = λ d. leb-true r.slot M (cond_other r.bitmap 0 (eqb r.slot no_slot) (leb r.slot M) h.1.1.1.0 d);
        rest = eqb-true r.rest 0 h.1.1.1.1.0;
      }

  pub record_pass : (r : Record) → RecordSound l r → record_sound l r ≡ true
  unfolding record_sound
  record_pass r h =
      let slots : slot_sound l r ≡ true = cond_equal_by r.bitmap 0 (eqb r.slot no_slot) (leb r.slot M)
      (λ z. eq-eqb r.slot no_slot (h.no_slot_lem z))
      (λ d. le-leb r.slot M (h.slot d)) in
      rw (
        all_true 6 (member_sound l r) (λ m low. member_pass r m (h.member m low)),
        number_pass r.parity h.parity,
        lt-ltb r.bitmap (2 ^ N) h.bitmap,
        slots,
        eq-eqb r.rest 0 h.rest,
      )

  -- ---- the collection record

  -- the tests in phase 0, and those outside it
  abbrev idle_test : Collection → Bool
  idle_test co = eqb co.chip 0 && eqb co.victim 0 && eqb co.destination 0

  abbrev busy_tests : Collection → List Bool
  busy_tests co = leb co.chip N ∷ ltb co.victim B ∷ ltb co.destination B ∷ not (eqb co.victim co.destination) ∷ []

  abbrev busy_test : Collection → Bool
  busy_test co = chain (leb co.phase 2) (busy_tests co)

  collection_sound_lem : (co : Collection) → collection_sound l co ≡ true → CollectionSound l co
  unfolding collection_sound
  collection_sound_lem co e =
      let h = and_both (eqb co.rest 0) (cond (eqb co.phase 0) (idle_test co) (busy_test co)) e in
      let b : co.phase ≢ 0 → (leb co.phase 2 ≡ true) × AllTrue (busy_tests co) =
      λ d. chain_all (leb co.phase 2) (busy_tests co) (cond_other co.phase 0 (idle_test co) (busy_test co) h.1 d) in
      record {
        rest = eqb-true co.rest 0 h.0;
        at_rest = λ z.
            let n = chain_all (eqb co.chip 0) (eqb co.victim 0 ∷ eqb co.destination 0 ∷ []) (cond_equal co.phase 0 (idle_test co) (busy_test co) h.1 z) in
            (eqb-true co.chip 0 n.0, eqb-true co.victim 0 n.1.0, eqb-true co.destination 0 n.1.1.0);
        phases = elim (ℕ_discrete co.phase 0) [ yes z ↦ omega arith | no d ↦ leb-true co.phase 2 (b d).0 ];
        chip = λ d. leb-true co.chip N (b d).1.0;
        victim = λ d. ltb-true co.victim B (b d).1.1.0;
        destination = λ d. ltb-true co.destination B (b d).1.1.1.0;
        apart = λ d. differ co.victim co.destination (b d).1.1.1.1.0;
      }

  idle_pass : (co : Collection) → CollectionSound l co → co.phase ≡ 0 → idle_test co ≡ true
  idle_pass co h z =
      let n = h.at_rest z in
      rw (eq-eqb co.chip 0 n.0, eq-eqb co.victim 0 n.1, eq-eqb co.destination 0 n.2)

  busy_pass : (co : Collection) → CollectionSound l co → co.phase ≢ 0 → busy_test co ≡ true
  busy_pass co h d =
      rw (
        le-leb co.phase 2 h.phases,
        le-leb co.chip N (h.chip d),
        lt-ltb co.victim B (h.victim d),
        lt-ltb co.destination B (h.destination d),
        ne_eqb co.victim co.destination (h.apart d),
      )

  collection_pass : (co : Collection) → CollectionSound l co → collection_sound l co ≡ true
  unfolding collection_sound
  collection_pass co h =
      both_and (eq-eqb co.rest 0 h.rest) (cond_equal_by co.phase 0 (idle_test co) (busy_test co) (idle_pass co h) (busy_pass co h))

  -- ---- all records

  own_slot_lem : (r : ℕ → Record) (i j : ℕ) → own_slot r j ≡ true → i < j → slotted r j ≡ true → (r i).slot ≢ (r j).slot
  own_slot_lem r i j e low t =
      let taken = slot_of r (r j).slot in
      eqb-false (r i).slot (r j).slot (some_none j taken (not-true (some_below j taken) (under (slotted r j) (not (some_below j taken)) e t)) i low)

  slot_own : (r : ℕ → Record) (j : ℕ) → ((i : ℕ) → i < j → slotted r j ≡ true → (r i).slot ≢ (r j).slot) → own_slot r j ≡ true
  slot_own r j h =
      let taken = slot_of r (r j).slot in
      under_by (slotted r j) (not (some_below j taken))
      (λ t. false_not (some_below j taken) (some_false j taken (λ i low. ne_eqb (r i).slot (r j).slot (h i low t))))

  -- the test of all records, one way and the other
  pub records_sound_lem : (r : ℕ → Record) (co : Collection) → records_sound l r co ≡ true → RecordsSound l r co
  unfolding records_sound
  records_sound_lem r co e =
      let h = chain_all (all_below S (sound_at l r)) (all_below S (own_slot r) ∷ leb (count_below S (slotted r)) M ∷ collection_sound l co ∷ []) e in
      record {
        stripe = λ j low. record_sound_lem (r j) (all_at S (sound_at l r) h.0 j low);
        own = λ i j less low. own_slot_lem r i j (all_at S (own_slot r) h.1.0 j low) less;
        few = leb-true (count_below S (slotted r)) M h.1.1.0;
        collection = collection_sound_lem co h.1.1.1.0;
      }

  pub records_pass : (r : ℕ → Record) (co : Collection) → RecordsSound l r co → records_sound l r co ≡ true
  unfolding records_sound
  records_pass r co h =
      rw (
        all_true S (sound_at l r) (λ j low. record_pass (r j) (h.stripe j low)),
        all_true S (own_slot r) (λ j low. slot_own r j (λ i less. h.own i j less low)),
        le-leb (count_below S (slotted r)) M h.few,
        collection_pass co h.collection,
      )
