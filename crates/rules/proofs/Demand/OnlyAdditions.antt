-- The log of a book whose pages are written by additions alone.
use Prim.Native.Nat.{ℕ, ◌+◌, ◌%◌, ◌≤◌, ◌<◌}
use native.Mathlib.Nat.{mul-pos, mod-lt}
use native.Mathlib.Omega.{arith}
use mathlib.Core.Path.{◌≡◌, refl, sym, ap, ◌∙◌}
use mathlib.Core.Bool.{Bool, true, false}
use mathlib.Core.List.{List, [], ◌∷◌, ◌++◌}
use lib.ListN.{replicate}
use lib.Dec.{eqb}
use borrow.Author.Tests.{eqb-true}
use Rattle.std.specs.Prelude.{Some, Err}
use Rattle.ranges.specs.Look.{all_below}
use Rattle.ranges.specs.Update.{at}
use Rattle.ranges.proofs.Looks.{by_test, first_is}
use Rattle.ranges.proofs.Updates.{at_other}
use Rattle.octets.proofs.Units.{unit_replicate}
use Rattle.layout.specs.Layout.{Layout, no_chip}
use Rattle.layout.specs.Images.{Images}
use Rattle.layout.proofs.Limits.{Within}
use Rattle.rules.specs.declared.Refusal.TheVariants.{Tickets, FullLog}
use Rattle.rules.specs.Tickets.{ticket_bytes, ticket_of, is_empty, ticket_sound}
use Rattle.rules.specs.Log.{per_page, places, bytes_at, ticket_at, log_end, log_length, log_sound, log_open, contents}
use Rattle.rules.specs.Refusals.{Row, refusal_number, checked, buffers_rows, images_rows, settled_rows, add_rows}
use Rattle.rules.specs.Calls.{Call, open_call_lem, write_call_lem, commit_call_lem, collect_call_lem, add_call_lem, query_call}
use Rattle.rules.specs.Book.{finished}
use Rattle.rules.proofs.Soundness.Table.{AllPass, lacks, not_passed, rows_passed, from_below, both_passed}
use Rattle.rules.proofs.Data.Log.{some_tickets, all_tickets}
use Rattle.rules.proofs.Data.NewTicket.{ClearBehind, Grown, length_before}

-- a call that writes a page with bytes of its own choice
abbrev pub is_write : Call → Bool
is_write (open_call_lem lost a) = false
is_write (write_call_lem lost page xs a) = true
is_write (commit_call_lem lost j a) = false
is_write (collect_call_lem lost c a) = false
is_write (add_call_lem lost ticket a) = false
is_write (query_call q) = false

-- no call of the list is one, so additions alone write pages
abbrev pub OnlyAdds : List Call → Type 0
OnlyAdds [] = Unit
OnlyAdds (call ∷ calls) = (is_write call ≡ false) × OnlyAdds calls

-- a page of zeros has no ticket
zeros_empty : is_empty (ticket_of (replicate ticket_bytes 0)) ≡ true
unfolding ticket_of
zeros_empty = refl

module _ (l : Layout) where
  open l use {N, S}

  -- no ticket of the log breaks the rules, and nothing stands behind its end
  pub record Tidy (f : ℕ → List ℕ) : Type 0 where
    pub sound : log_sound l f ≡ true
    pub clear : (t : ℕ) → log_length l f ≤ t → t < places l → is_empty (ticket_at l f t) ≡ true

  -- ---- a finished format

  module _ (w : Within l) where
    finished_empty : (t : ℕ) → is_empty (ticket_at l (finished l) t) ≡ true
    unfolding bytes_at
    finished_empty t =
        let e = unit_replicate (per_page l) ticket_bytes (t % per_page l) 0 (mod-lt t (some_tickets l w)) in
        ap (λ xs. is_empty (ticket_of xs)) (rw (all_tickets l w) at e) ∙ zeros_empty

    some_places : 0 < places l
    some_places = mul-pos (mul-pos (omega (arith, w.members_low)) w.stripes_low) (some_tickets l w)

    finished_end : log_end l (finished l) ≡ Some 0
    unfolding log_end
    finished_end = first_is (places l) (λ t. is_empty (ticket_at l (finished l) t)) 0 some_places (finished_empty 0) (λ t h. absurd (omega arith))

    pub finished_tidy : Tidy (finished l)
    unfolding log_sound all_below
    finished_tidy = record {
      sound = rw (length_before l (finished l) 0 finished_end);
      clear = λ t past inside. finished_empty t;
    }

  -- ---- one ticket more

  module _ (f : ℕ → List ℕ) (tidy : Tidy f) (t : ℕ) (end : log_end l f ≡ Some t) where
    pub tidy_behind : ClearBehind l t f
    tidy_behind inside = tidy.clear (t + 1) (omega (arith, length_before l f t end)) inside

    pub tidy_grown : (ticket : List ℕ) (g : ℕ → List ℕ) → bytes_at l g ≡ at t ticket (bytes_at l f) → Grown l ticket t f g → Tidy g
    tidy_grown ticket g put grown = record {
      sound = grown.sound;
      clear = λ u past inside.
          let behind : t < u = omega (arith, grown.longer) in
          ap (λ (b : ℕ → List ℕ). is_empty (ticket_of (b u))) put
          ∙ ap (λ xs. is_empty (ticket_of xs)) (at_other t ticket (bytes_at l f) u (omega arith))
          ∙ tidy.clear u (omega (arith, length_before l f t end)) inside;
    }

  -- ---- an addition to a log that is sound

  -- a refusal with 11 is none of the rows above, one of which says that no chip is lost
  not_above : (s : Images) (lost : ℕ) (first more : List Row) → checked ((settled_rows l s lost ++ first) ++ more) ≡ Err Tickets
      → lacks (refusal_number Tickets) first ≡ true → (AllPass first → eqb lost no_chip ≡ true) → (lost ≡ no_chip) × (checked more ≡ Err Tickets)
  unfolding settled_rows images_rows buffers_rows
  not_above s lost first more e other whole =
      let (above, below) = from_below (settled_rows l s lost ++ first) more Tickets other e in
      (eqb-true lost no_chip (whole (rows_passed first (both_passed (settled_rows l s lost) first above).1)), below)

  -- row 11 is of the ticket and of the log: here of the ticket
  pub refused_alone : (s : Images) (lost : ℕ) (ticket : List ℕ) → log_sound l (contents l s no_chip) ≡ true
      → checked (add_rows l s lost ticket) ≡ Err Tickets → ticket_sound (ticket_of ticket) ≡ false
  unfolding add_rows
  refused_alone s lost ticket sound e =
      let (none_lost, below) = not_above s lost _ _ e refl (λ h. h.1.0) in
      by_test (ticket_sound (ticket_of ticket))
      (λ right. not_passed Tickets (sym (from_below ((log_open l (contents l s no_chip), FullLog) ∷ []) [] Tickets refl (rw (right, none_lost, sound) at below)).1))
      (λ wrong. wrong)
