-- A copy in place of its original, in one record: the record stays sound.
use Prim.Native.Nat.{ℕ, ◌<◌}
use mathlib.Core.Path.{◌≡◌, refl, sym, ◌∙◌}
use mathlib.Core.Logic.{◌≢◌}
use lib.Dec.{eqb}
use borrow.Author.Tests.{eqb-true, eqb-false, eq-eqb, ne_eqb}
use Rattle.ranges.proofs.Looks.{by_test, by_same}
use Rattle.ranges.proofs.Updates.{at_same, at_other}
use Rattle.layout.specs.Layout.{Layout, none, pages}
use Rattle.layout.specs.Rotation.{parity_chip, member_on}
use Rattle.layout.specs.Record.{Record}
use Rattle.layout.proofs.Rotations.{other_chip_member}
use Rattle.layout.proofs.Records.{same_bit}
use Rattle.rules.specs.Names.{main_number, side_number}
use Rattle.rules.specs.Open.{moved, repointed}
use Rattle.rules.proofs.Soundness.Statements.{Numbered, MemberSound, RecordSound}
use Rattle.rules.proofs.Stores.Stays.{Stays, stays_same, stays_numbered, member_stays, member_same}

-- a number with q for p
module _ (p q : ℕ) where
  pub moved_here : moved p q p ≡ q
  moved_here = rw (eq-eqb p p refl)

  pub moved_other : (a : ℕ) → a ≢ p → moved p q a ≡ a
  moved_other a d = rw (ne_eqb a p d)

  pub by_moved {ℓ} : {P : Type ℓ} (a : ℕ) → (a ≡ p → moved p q a ≡ q → P) → (a ≢ p → moved p q a ≡ a → P) → P
  by_moved a here other = by_same a p (λ e. here e (rw e moved_here)) (λ d. other d (moved_other a d))

  -- it meets no other number
  moved_apart : (a b : ℕ) → a ≢ q → b ≢ q → a ≢ b → moved p q a ≢ moved p q b
  moved_apart a b da db d e = by_moved a
      (λ ea ma. by_moved b (λ eb mb. d (ea ∙ sym eb)) (λ _ mb. db (sym mb ∙ sym e ∙ ma)))
      (λ _ ma. by_moved b (λ eb mb. da (sym ma ∙ e ∙ mb)) (λ _ mb. d (sym ma ∙ e ∙ mb)))

module _ (l : Layout) where
  module _ (c j p q : ℕ) (r : Record) where
    abbrev r' : Record
    r' = repointed l c j p q r

    pub repointed_bitmap : r'.bitmap ≡ r.bitmap
    unfolding repointed
    repointed_bitmap = by_test (eqb c (parity_chip l j)) (λ t. rw t) (λ t. rw t)

    pub repointed_slot : r'.slot ≡ r.slot
    unfolding repointed
    repointed_slot = by_test (eqb c (parity_chip l j)) (λ t. rw t) (λ t. rw t)

    repointed_rest : r'.rest ≡ r.rest
    unfolding repointed
    repointed_rest = by_test (eqb c (parity_chip l j)) (λ t. rw t) (λ t. rw t)

    -- on chip c
    pub repointed_main : main_number l c j r' ≡ moved p q (main_number l c j r)
    unfolding repointed main_number
    repointed_main = by_test (eqb c (parity_chip l j)) (λ t. rw t) (λ t. rw (t, at_same))

    pub repointed_side : p ≢ none l → side_number l c j r' ≡ moved p q (side_number l c j r)
    unfolding repointed side_number
    repointed_side d = by_test (eqb c (parity_chip l j)) (λ t. rw t (sym (moved_other p q (none l) (λ e. d (sym e))))) (λ t. rw (t, at_same))

    -- on another chip
    pub repointed_other : (c' : ℕ) → c' ≢ c → (main_number l c' j r' ≡ main_number l c' j r) × (side_number l c' j r' ≡ side_number l c' j r)
    unfolding repointed main_number side_number
    repointed_other c' d = by_test (eqb c (parity_chip l j))
        (λ t. rw (t, ne_eqb c' (parity_chip l j) (λ e. d (e ∙ sym (eqb-true c (parity_chip l j) t)))) (refl, refl))
        (λ t. by_test (eqb c' (parity_chip l j))
        (λ t'. rw (t, t') (refl, refl))
        (λ t'.
        let n = member_on l j c in
        let other = other_chip_member l j c c' (eqb-false c (parity_chip l j) t) (eqb-false c' (parity_chip l j) t') d in
        rw (t, t') (at_other n (moved p q (r.current n)) r.current (member_on l j c') other, at_other n (moved p q (r.old n)) r.old (member_on l j c') other)))

    -- what becomes of the two numbers of member m
    by_member {ℓ} : {P : Type ℓ} (m : ℕ)
        → (r'.current m ≡ r.current m → r'.old m ≡ r.old m → P)
        → (main_number l c j r ≡ r.current m → side_number l c j r ≡ r.old m → r'.current m ≡ moved p q (r.current m) → r'.old m ≡ moved p q (r.old m) → P)
        → P
    unfolding repointed main_number side_number
    by_member m same changed = by_test (eqb c (parity_chip l j))
        (λ t. same (rw t) (rw t))
        (λ t. by_same m (member_on l j c)
        (λ e. changed (rw (t, e)) (rw (t, e)) (rw (t, e, at_same)) (rw (t, e, at_same)))
        (λ d. same
        (rw t (at_other (member_on l j c) (moved p q (r.current (member_on l j c))) r.current m d))
        (rw t (at_other (member_on l j c) (moved p q (r.old (member_on l j c))) r.old m d))))

    by_parity {ℓ} : {P : Type ℓ} → (r'.parity ≡ r.parity → P) → (r'.parity ≡ moved p q r.parity → P) → P
    unfolding repointed
    by_parity same changed = by_test (eqb c (parity_chip l j)) (λ t. changed (rw t)) (λ t. same (rw t))

    module _ (original : p ≢ none l) (copy : q < pages l) (copy_page : q ≢ none l) where
      stays_moved : {a a' : ℕ} → Numbered l a → a' ≡ moved p q a → Stays l a a'
      stays_moved {a} h e = by_moved p q a
          (λ same to. (λ n. absurd (original (sym same ∙ n)), λ _. rw (e, to) (copy, copy_page)))
          (λ _ to. stays_same l h (e ∙ to))

      still_none : {a a' : ℕ} → a ≡ none l → a' ≡ moved p q a → a' ≡ none l
      still_none n to = (stays_moved (λ d. absurd (d n)) to).0 n

      pub repointed_beyond : (m : ℕ) → (r.current m ≡ none l) × (r.old m ≡ none l) → (r'.current m ≡ none l) × (r'.old m ≡ none l)
      repointed_beyond m n = by_member m (λ ec eo. (ec ∙ n.0, eo ∙ n.1)) (λ _ _ ec eo. (still_none n.0 ec, still_none n.1 eo))

      module _ (f : RecordSound l r) (main : main_number l c j r ≢ q) (side : side_number l c j r ≢ q) where
        parity_stays : Stays l r.parity r'.parity
        parity_stays = by_parity (stays_same l f.parity) (stays_moved f.parity)

        repointed_member : (m : ℕ) → MemberSound l r m → MemberSound l r' m
        repointed_member m g =
            let bits = same_bit r r' repointed_bitmap m in
            by_member m
            (λ ec eo. member_same l r r' m bits parity_stays ec eo g)
            (λ em es ec eo. member_stays l r r' m bits parity_stays (stays_moved g.current ec) (stays_moved g.old eo)
            (λ d e. moved_apart p q (r.current m) (r.old m) (λ z. main (em ∙ z)) (λ z. side (es ∙ z)) d (sym ec ∙ e ∙ eo))
            g)

        -- the record is as sound as before
        pub repointed_sound : RecordSound l r'
        repointed_sound = record {
          member = λ m h. repointed_member m (f.member m h);
          parity = stays_numbered l parity_stays;
          bitmap = rw repointed_bitmap f.bitmap;
          no_slot_lem = λ e. repointed_slot ∙ f.no_slot_lem (sym repointed_bitmap ∙ e);
          slot = λ d. rw repointed_slot (f.slot (λ e. d (repointed_bitmap ∙ e)));
          rest = repointed_rest ∙ f.rest;
        }
