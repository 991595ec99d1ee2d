-- The log with one ticket more, where nothing stood behind its end.
use Prim.Native.Nat.{ℕ, suc, ◌+◌, ◌<◌}
use native.Mathlib.Numerals.{add-one}
use native.Mathlib.Omega.{arith}
use mathlib.Core.Path.{◌≡◌, refl, ap, ◌∙◌}
use mathlib.Core.Logic.{◌≢◌}
use mathlib.Core.Bool.{true, false, cond}
use mathlib.Core.List.{List}
use borrow.Author.Tests.{eqb-true}
use Rattle.std.specs.Prelude.{Some}
use Rattle.ranges.specs.Look.{last_below, when_found}
use Rattle.ranges.specs.Update.{at}
use Rattle.ranges.proofs.Looks.{by_test, by_order, by_found, at_last, both, all_true, all_at, first_at, first_is, first_none, last_at, last_here, last_skips, last_cong}
use Rattle.ranges.proofs.Updates.{at_same, at_other}
use Rattle.layout.specs.Layout.{Layout}
use Rattle.rules.specs.Tickets.{ticket_of, is_empty, ticket_sound, is_for, weight_of}
use Rattle.rules.specs.Log.{places, bytes_at, ticket_at, log_end, log_length, log_sound, latest, standing}
use Rattle.rules.proofs.Data.Log.{end_fits}

-- "An empty ticket .. can't be added"
sound_full : (xs : List ℕ) → ticket_sound (ticket_of xs) ≡ true → is_empty (ticket_of xs) ≡ false
unfolding ticket_sound
sound_full xs h =
    by_test (is_empty (ticket_of xs)) (λ e. both false (rw (eqb-true (ticket_of xs).kind _ e) at h) refl) (λ e. e)

module _ (l : Layout) where
  -- the log of f ends at t, and the log of g has this ticket more
  pub record Grown (ticket : List ℕ) (t : ℕ) (f g : ℕ → List ℕ) : Type 0 where
    pub longer : log_length l g ≡ t + 1
    pub sound : log_sound l g ≡ true
    -- "the latest in the log stands": this ticket for its lot and bag, and for any other what stood
    pub stands : (lot bag : ℕ) → standing l g lot bag ≡ cond (is_for lot bag (ticket_of ticket)) (weight_of (ticket_of ticket)) (standing l f lot bag)

  -- the place behind the end is empty too, or there is none
  abbrev pub ClearBehind : ℕ → (ℕ → List ℕ) → Type 0
  ClearBehind t f = t + 1 < places l → is_empty (ticket_at l f (t + 1)) ≡ true

  pub length_before : (f : ℕ → List ℕ) (t : ℕ) → log_end l f ≡ Some t → log_length l f ≡ t
  unfolding log_length when_found
  length_before f t end = rw end

  module _ (ticket : List ℕ) (t : ℕ) (f g : ℕ → List ℕ) (end : log_end l f ≡ Some t) (put : bytes_at l g ≡ at t ticket (bytes_at l f))
      (right : ticket_sound (ticket_of ticket) ≡ true) (clear : ClearBehind t f) where
    here : ticket_at l g t ≡ ticket_of ticket
    here = ap (λ (b : ℕ → List ℕ). ticket_of (b t)) put ∙ ap ticket_of (at_same t ticket (bytes_at l f))

    elsewhere : (u : ℕ) → u ≢ t → ticket_at l g u ≡ ticket_at l f u
    elsewhere u d = ap (λ (b : ℕ → List ℕ). ticket_of (b u)) put ∙ ap ticket_of (at_other t ticket (bytes_at l f) u d)

    -- neither it nor one before it is empty, and the next is
    full : (u : ℕ) → u < t + 1 → is_empty (ticket_at l g u) ≡ false
    unfolding log_end
    full u h = at_last u t (omega arith)
        (λ b. ap is_empty (elsewhere u (omega arith)) ∙ (first_at _ _ t end).2 u b)
        (λ q. rw q (ap is_empty here ∙ sound_full ticket right))

    longer : log_length l g ≡ t + 1
    unfolding log_length log_end when_found
    longer = by_order (t + 1) (places l)
        (λ less. rw (first_is (places l) (λ u. is_empty (ticket_at l g u)) (t + 1) less (ap is_empty (elsewhere (t + 1) (omega arith)) ∙ clear less) full))
        (λ more. rw (first_none (places l) (λ u. is_empty (ticket_at l g u)) (λ u h. full u (omega arith))) (omega (arith, end_fits l f t end)))

    still_sound : log_sound l f ≡ true → log_sound l g ≡ true
    unfolding log_sound
    still_sound sound =
        rw longer
        (all_true (t + 1) (λ u. ticket_sound (ticket_at l g u)) (λ u h. at_last u t (omega arith)
        (λ b. ap ticket_sound (elsewhere u (omega arith)) ∙ all_at _ _ sound u (rw (length_before f t end) b))
        (λ q. rw q (ap ticket_sound here ∙ right))))

    module _ (lot bag : ℕ) where
      -- the search from the end meets the ticket first, and then the log as it was
      latest_now : latest l g lot bag ≡ last_below (suc t) (λ u. is_for lot bag (ticket_at l g u))
      unfolding latest
      latest_now = rw (longer, add-one)

      latest_before : last_below t (λ u. is_for lot bag (ticket_at l g u)) ≡ latest l f lot bag
      unfolding latest
      latest_before =
          rw (length_before f t end)
          (last_cong t (λ u. is_for lot bag (ticket_at l g u)) (λ u. is_for lot bag (ticket_at l f u)) (λ u h. ap (is_for lot bag) (elsewhere u (omega arith))))

      latest_low : (u : ℕ) → latest l f lot bag ≡ Some u → u < t
      unfolding latest
      latest_low u q = rw (length_before f t end) at (last_at _ _ u q)

      stands : standing l g lot bag ≡ cond (is_for lot bag (ticket_of ticket)) (weight_of (ticket_of ticket)) (standing l f lot bag)
      unfolding standing when_found
      stands = by_test (is_for lot bag (ticket_of ticket))
          (λ e. rw (e, latest_now, last_here t (λ u. is_for lot bag (ticket_at l g u)) (ap (is_for lot bag) here ∙ e)) (ap weight_of here))
          (λ e.
          rw (e, latest_now, last_skips t (λ u. is_for lot bag (ticket_at l g u)) (ap (is_for lot bag) here ∙ e), latest_before)
          (by_found (latest l f lot bag)
          (λ u q. let low = latest_low u q in rw q (ap weight_of (elsewhere u (omega arith))))
          (λ q. rw q)))

    pub grown : log_sound l f ≡ true → Grown ticket t f g
    grown sound = record { longer = longer; sound = still_sound sound; stands = stands }
