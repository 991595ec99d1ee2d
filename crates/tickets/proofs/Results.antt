-- From what the parts of a call bring to its one equation.
use Prim.Native.Nat.{ℕ, ◌^◌, ◌≤◌, ◌<◌, min}
use native.Mathlib.Omega.{arith}
use mathlib.Core.Path.{◌≡◌, refl, sym, ap, ◌∙◌}
use mathlib.Core.Bool.{Bool, true, false}
use mathlib.Core.List.{List, [], ◌∷◌, ◌++◌}
use lib.ListN.{length}
use lib.Dec.{lit≤, eqb}
use borrow.Author.Tests.{eqb-true}
use Rattle.std.specs.Prelude.{Option, Some, None, Result, Ok, Err, ok_or, unwrap_or, is_ok}
use Rattle.std.specs.Result.{result_err}
use Rattle.std.proofs.lemmas.List.{append_assoc}
use Rattle.ranges.specs.Look.{when_found}
use Rattle.ranges.proofs.Looks.{both, first_at}
use Rattle.layout.specs.declared.Geometry.{Geometry}
use Rattle.layout.specs.Layout.{Layout, layout_of, no_chip}
use Rattle.layout.specs.Images.{Images}
use Rattle.layout.proofs.Limits.{places_most}
use Rattle.steps.specs.declared.Progress.{Progress}
use Rattle.steps.specs.Steps.{reading}
use Rattle.steps.specs.Allowance.{started, Ran}
use Rattle.rules.specs.declared.Refusal.{Refusal}
use Rattle.rules.specs.declared.Refusal.TheVariants.{Data, Tickets, FullLog}
use Rattle.rules.specs.Refusals.{Check, Row, checked, chip_set_row, images_rows, settled_rows, log_row, find_rows, add_rows}
use Rattle.rules.specs.Tickets.{ticket_bytes, ticket_of, is_empty, ticket_sound}
use Rattle.rules.specs.Log.{places, falls_in, ticket_at, contents, log_end, log_open, log_reads, with_ticket, add_steps}
use Rattle.rules.specs.Write.{write_steps}
use Rattle.rules.specs.Calls.{Outcome, add_call, find_call}
use Rattle.rules.proofs.Soundness.Table.{rows_passed, below_passed, below_failed}
use Rattle.rules.specs.Capacitor.{write_needs}
use Rattle.rules.proofs.Capacitor.{stores_needed}
use Rattle.rules.proofs.Lists.Answers.{answer_of, call_refused, call_ran}
use Rattle.looks.specs.declared.Look.{Look}
use Rattle.looks.specs.Looks.{look_of}
use Rattle.looks.proofs.Passing.{told_of, found_told, top_refused, mid_refused, below_decide, look_passed, settled_images, ImagesFit, images_fit, Ready, ready}
use Rattle.ticket_log.specs.declared.Walk.{Walk}
use Rattle.ticket_log.specs.Walks.{walk_of}
use Rattle.ticket_log.proofs.Walking.{told_broken, told_whole}

-- a search that finds nothing is refused with its row
nothing_found : {A : Type 0} (w : Option A) (row : Refusal) {r : Refusal} → ok_or w row ≡ Err r → (w ≡ None) × (row ≡ r)
nothing_found {A} None row e = (refl, ap (λ (x : Result A Refusal). unwrap_or (result_err x) row) e)
nothing_found {A} (Some x) row e = both _ refl (ap (λ (y : Result A Refusal). is_ok y) e)

-- the rows of an addition about what is given
abbrev pub given_rows : List ℕ → ℕ → List Row
given_rows ticket lost = (eqb (length ticket) ticket_bytes, Data) ∷ chip_set_row lost ∷ (ticket_sound (ticket_of ticket), Tickets) ∷ []

-- what an addition relies on whose rows have passed as far as they are about what is given
pub record AddReady (g : Geometry) (s : Images) (lost : ℕ) (ticket : List ℕ) (look : Look) : Type 0 where
  pub top : checked (settled_rows (layout_of g) s lost) ≡ Ok tt
  pub given : checked (given_rows ticket lost) ≡ Ok tt
  pub ready : Ready g s look
  pub fit : ImagesFit g s
  pub whole : length ticket ≡ ticket_bytes

module _ (g : Geometry) (s : Images) (lost : ℕ) where
  abbrev l : Layout
  l = layout_of g

  -- ---- find

  module _ (lot bag : ℕ) where
    pub find_refused : {r : Refusal} → checked (images_rows l s lost) ≡ Err r → Err r ≡ find_call l s lost lot bag
    unfolding find_call find_rows
    find_refused {r} e = rw (below_failed (images_rows l s lost) (log_row l s lost ∷ []) r e)

    pub find_broken : {w : Option Walk} {k : Result Walk Refusal} {r : Refusal} → checked (images_rows l s lost) ≡ Ok tt → w ≡ walk_of l s lost lot bag
        → k ≡ ok_or w Tickets → k ≡ Err r → Err r ≡ find_call l s lost lot bag
    unfolding find_call find_rows
    find_broken {w} e told f h =
        let none = nothing_found w Tickets (sym f ∙ h) in
        rw (below_passed (images_rows l s lost) (log_row l s lost ∷ []) e, told_broken l s lost lot bag told none.0, sym none.1)

    pub find_done : {w : Option Walk} {x : Walk} → checked (images_rows l s lost) ≡ Ok tt → w ≡ walk_of l s lost lot bag → w ≡ Some x
        → Ok (record { counts = reading x.reads; standing = x.standing; origin = x.origin }) ≡ find_call l s lost lot bag
    unfolding find_call find_rows
    find_done e told h =
        let t = told_whole l s lost lot bag told h in
        rw (below_passed (images_rows l s lost) (log_row l s lost ∷ []) e, t.0, t.2, t.3, t.4)

  -- ---- add

  module _ (ticket : List ℕ) where
    abbrev log_rows : List Row
    log_rows = log_row l s lost ∷ (log_open l (contents l s lost), FullLog) ∷ []

    pub add_ready : {given : Result Look Refusal} {look : Look} {k : Check} → given ≡ look_of l s lost (checked (settled_rows l s lost)) → given ≡ Ok look
        → k ≡ checked (given_rows ticket lost) → k ≡ Ok tt → AddReady g s lost ticket look
    add_ready seen found e f =
        let passed = sym e ∙ f in
        let h = rows_passed (given_rows ticket lost) passed in
        let top = look_passed l s lost seen found in
        record {
          top = top;
          given = passed;
          ready = ready g s lost seen found (eqb-true lost no_chip h.1.0);
          fit = images_fit g s lost (settled_images l s lost top);
          whole = eqb-true (length ticket) ticket_bytes h.0;
        }

    -- the rows as the code goes through them
    rows_split : checked (add_rows l s lost ticket) ≡ checked ((settled_rows l s lost ++ given_rows ticket lost) ++ log_rows)
    unfolding add_rows
    rows_split =
        let free = (eqb (length ticket) ticket_bytes, Data) ∷ chip_set_row lost ∷ [] in
        ap checked
        (append_assoc (settled_rows l s lost) free ((ticket_sound (ticket_of ticket), Tickets) ∷ log_rows)
        ∙ sym (append_assoc (settled_rows l s lost) (given_rows ticket lost) log_rows))

    module _ (a : ℕ) where
      refused_by : {r : Refusal} → checked ((settled_rows l s lost ++ given_rows ticket lost) ++ log_rows) ≡ Err r
          → ◌≡◌ {A = Outcome} (record { answer = Err r; images = s }) (add_call l s lost ticket a)
      unfolding add_call
      refused_by {r} e = call_refused l (reading (log_reads l s lost)) s a (add_steps l lost ticket) (add_rows l s lost ticket) r (rows_split ∙ e)

      -- refused by rows 1 to 6, by the rows about what is given
      pub add_first : {r : Refusal} → checked (settled_rows l s lost) ≡ Err r → ◌≡◌ {A = Outcome} (record { answer = Err r; images = s }) (add_call l s lost ticket a)
      add_first e = refused_by (top_refused (settled_rows l s lost) (given_rows ticket lost) log_rows e)

      pub add_second : {r : Refusal} → checked (settled_rows l s lost) ≡ Ok tt → checked (given_rows ticket lost) ≡ Err r
          → ◌≡◌ {A = Outcome} (record { answer = Err r; images = s }) (add_call l s lost ticket a)
      add_second e f = refused_by (mid_refused (settled_rows l s lost) (given_rows ticket lost) log_rows e f)

      module _ {look : Look} (e : AddReady g s lost ticket look) {w : Option Walk} (lot bag : ℕ) (told : w ≡ walk_of l s lost lot bag) where
        -- the rows about the log decide
        log_decides : checked ((settled_rows l s lost ++ given_rows ticket lost) ++ log_rows) ≡ checked log_rows
        log_decides = below_decide (settled_rows l s lost) (given_rows ticket lost) log_rows e.top e.given

        pub add_broken : {k : Result Walk Refusal} {r : Refusal} → k ≡ ok_or w Tickets → k ≡ Err r
            → ◌≡◌ {A = Outcome} (record { answer = Err r; images = s }) (add_call l s lost ticket a)
        add_broken f h =
            let none = nothing_found w Tickets (sym f ∙ h) in
            refused_by (log_decides ∙ rw (told_broken l s lost lot bag told none.0, none.1))

        pub add_full : {x : Walk} {k : Result ℕ Refusal} {r : Refusal} → w ≡ Some x → k ≡ ok_or x.end FullLog → k ≡ Err r
            → ◌≡◌ {A = Outcome} (record { answer = Err r; images = s }) (add_call l s lost ticket a)
        unfolding log_open
        add_full {x} h f full =
            let t = told_whole l s lost lot bag told h in
            refused_by (log_decides ∙ rw (t.0, t.1) (found_told x.end FullLog ∙ ap told_of (sym f ∙ full)))

        -- the end of the log is one of its places
        pub end_inside : {x : Walk} → w ≡ Some x → (t : ℕ) → x.end ≡ Some t → t < places l
        unfolding log_end
        end_inside h t end =
            let is = (told_whole l s lost lot bag told h).1 ∙ end in
            (first_at (places l) (λ t. is_empty (ticket_at l (contents l s lost) t)) t is).0

        pub add_ran : {x : Walk} {p q : Progress} {u : Images} → w ≡ Some x → (t : ℕ) → x.end ≡ Some t → p ≡ started (reading x.reads) (min a (2 ^ 59))
            → Ran l p (write_steps l (falls_in l t) (with_ticket l (contents l s lost) ticket t) s) q s u
            → ◌≡◌ {A = Outcome} (record { answer = Ok (answer_of q); images = u }) (add_call l s lost ticket a)
        unfolding add_call log_open add_steps when_found
        add_ran h t end begun ran =
            let is = told_whole l s lost lot bag told h in
            let at_end = is.1 ∙ end in
            let page = with_ticket l (contents l s lost) ticket t in
            let passed : checked (add_rows l s lost ticket) ≡ Ok tt = rows_split ∙ log_decides ∙ rw (is.0, at_end) in
            let short : length (write_steps l (falls_in l t) page s) ≤ write_needs l = rw at_end at ((stores_needed l (lit≤ tt) (lit≤ tt)).add s lost ticket passed) in
            call_ran l (reading (log_reads l s lost)) s a (add_steps l lost ticket) (add_rows l s lost ticket) (write_steps l (falls_in l t) page s)
            passed (rw at_end) (omega (arith, short, places_most l e.fit.within_limits))
            (begun ∙ ap (λ (n : ℕ). started (reading n) (min a (2 ^ 59))) (sym is.2)) ran
