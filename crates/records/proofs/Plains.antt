-- The soundness of a record. Of one with nothing in the partial parity: that it is sound, how many page numbers it has, and how many on the
-- lost chip.
use Prim.Native.Nat.{ℕ, ◌+◌, ◌-◌, ◌^◌, ◌≤◌, ◌<◌}
use native.Mathlib.Nat.{add-zero}
use native.Mathlib.Omega.{arith}
use mathlib.Core.Path.{◌≡◌, refl}
use mathlib.Core.Bool.{Bool, true, false, cond, ◌&&◌, and-false, or-true}
use lib.Dec.{ltb, eqb}
use lib.Pow.{pow_pos}
use borrow.Author.Tests.{lt-ltb, eq-eqb, ne_eqb}
use Rattle.ranges.specs.Look.{count_below}
use Rattle.ranges.proofs.Looks.{by_test, by_same, all_true}
use Rattle.ranges.proofs.Counts.{count_zero, count_le, count_less}
use Rattle.ranges.proofs.Tallies.{count_from}
use Rattle.ranges.proofs.Tests.{unless_equal_by}
use Rattle.layout.specs.Layout.{Layout, none, is_none, pages}
use Rattle.layout.specs.Record.{Record, bit}
use Rattle.layout.specs.Rotation.{parity_chip, member_on}
use Rattle.layout.proofs.Records.{bits_of_none}
use Rattle.layout.proofs.Rotations.{member_on_fits}
use Rattle.rules.specs.Names.{main_number, side_number}
use Rattle.rules.specs.Sound.{member_sound, record_sound, sound_at}
use Rattle.codec.specs.Scan.{current_given, Plain}
use Rattle.codec.specs.declared.StripeRecord.{StripeRecord}
use Rattle.codec.specs.Views.{record_from, ended}
use Rattle.names.specs.Stamps.{has_old, record_names, names_on}

-- ---- any record

-- it is sound where it ends in zeros and its fields are
pub ended_sound : (l : Layout) (r : Record) → eqb r.rest 0 && record_sound l (ended r) ≡ record_sound l r
unfolding record_sound member_sound bit ended
ended_sound l r = by_test (eqb r.rest 0) (λ t. rw t) (λ t. rw (t, and-false))

-- of one that was read, with the code's two tests
pub sound_seen : (l : Layout) (r : ℕ → Record) (j : ℕ) (e : StripeRecord) {ends passes : Bool} → record_from l e ≡ ended (r j) → ends ≡ eqb (r j).rest 0
    → passes ≡ record_sound l (record_from l e) → ends && passes ≡ sound_at l r j
sound_seen l r j e same ends passes = rw (ends, passes, same) (ended_sound l (r j))

-- ---- one that is plain

one_most : (b : Bool) → cond b 0 1 ≤ 1
one_most true = omega arith
one_most false = omega arith

module _ {l : Layout} {e : Record} {names : ℕ} (p : Plain l e names) where
  open l use {N}

  -- it is sound about each member
  plain_member : (m : ℕ) → m < 6 → member_sound l e m ≡ true
  unfolding member_sound
  plain_member m h =
      let no_old = eq-eqb (e.old m) (none l) (p.old m h) in
      let no_bit = bits_of_none e p.bitmap m in
      by_same (e.current m) (none l)
      (λ q. rw (no_bit, no_old, eq-eqb (e.current m) (none l) q, or-true))
      (λ d.
      let (member, page, committed) = p.current m h d in
      rw (no_bit, no_old, ne_eqb (e.current m) (none l) d, lt-ltb (e.current m) (pages l) page, lt-ltb m N member, ne_eqb e.parity (none l) committed))

  -- it has few page numbers
  pub plain_few : names ≤ 7
  plain_few = omega (arith, p.counted, count_le 6 (current_given l e), one_most (is_none l e.parity))

  -- so it is sound
  pub plain_sound : record_sound l e ≡ true
  unfolding record_sound
  plain_sound =
      let members = all_true 6 (member_sound l e) plain_member in
      let parity = unless_equal_by e.parity (none l) (ltb e.parity (pages l)) (λ d. lt-ltb e.parity (pages l) (p.parity d)) in
      rw (members, parity, p.bitmap, lt-ltb 0 (2 ^ N) (pow_pos N), p.slot, p.rest)

  -- and it has the current page numbers and that of the parity page
  pub plain_names : names ≡ record_names l e
  unfolding record_names
  plain_names =
      let olds = count_zero 6 (has_old l e) (λ m h. rw (eq-eqb (e.old m) (none l) (p.old m h))) in
      rw (olds, add-zero) p.counted

  -- where there is one for each chip, every member and the parity have theirs
  module _ (few : N ≤ 6) (full : names ≡ N + 1) where
    -- no member beyond N has one
    within_n : count_below 6 (current_given l e) ≡ count_below N (current_given l e)
    within_n =
        let six : N + (6 - N) ≡ 6 = omega arith in
        let none_beyond = count_zero (6 - N) (λ i. current_given l e (N + i)) (λ i h. by_same (e.current (N + i)) (none l)
        (λ q. rw (eq-eqb (e.current (N + i)) (none l) q))
        (λ d. absurd (omega (arith, p.current (N + i) (omega arith) d)))) in
        omega (arith, rw six at (count_from N (6 - N) (current_given l e)))

    member_there : (m : ℕ) → m < N → is_none l (e.current m) ≡ false
    member_there m h = by_test (is_none l (e.current m))
        (λ t.
        let fewer = count_less N (current_given l e) m h (rw t) in
        let most = one_most (is_none l e.parity) in
        absurd (omega (arith, p.counted, within_n)))
        (λ t. t)

    parity_there : is_none l e.parity ≡ false
    parity_there = by_test (is_none l e.parity)
        (λ t. let none = rw t at p.counted in absurd (omega (arith, within_n, count_le N (current_given l e))))
        (λ t. t)

    -- so the record has one number on each chip
    pub plain_full : (r : ℕ → Record) (j c : ℕ) → e ≡ r j → c ≤ N → names_on l r j c ≡ 1
    unfolding main_number side_number
    plain_full r j c is low = rw (← is) (by_same c (parity_chip l j)
        (λ q. rw (eq-eqb c (parity_chip l j) q, parity_there, eq-eqb (none l) (none l) refl))
        (λ d.
        let m = member_on l j c in
        let member = member_on_fits l j c (omega arith) d in
        rw (ne_eqb c (parity_chip l j) d, member_there m member, eq-eqb (e.old m) (none l) (p.old m (omega arith)))))
