-- From what the parts of a call bring to its one equation.
use Prim.Native.Nat.{ℕ, ◌+◌, ◌*◌, ◌/◌, ◌%◌, ◌^◌, ◌≤◌, ◌<◌, min}
use native.Mathlib.Nat.{mul-le-mul}
use native.Mathlib.Omega.{arith}
use mathlib.Core.Path.{◌≡◌, refl, sym, ap, ◌∙◌}
use mathlib.Core.Logic.{◌≢◌}
use mathlib.Core.Bool.{Bool, true, false}
use mathlib.Core.List.{List, [], ◌∷◌, ◌++◌}
use lib.ListN.{length}
use lib.Dec.{lit≤, ltb, leb}
use borrow.Author.Tests.{eq-eqb, eqb-true}
use Rattle.std.specs.Prelude.{Option, Some, Result, Ok, Err, ok_or}
use Rattle.ranges.specs.Look.{when_found}
use Rattle.layout.specs.declared.Geometry.{Geometry}
use Rattle.layout.specs.Layout.{Layout, layout_of, no_chip}
use Rattle.layout.specs.Page.{page_at}
use Rattle.layout.specs.Record.{record_at, has_slot}
use Rattle.layout.specs.Images.{Images}
use Rattle.layout.proofs.Limits.{Within, places_most, blocks_most}
use Rattle.layout.proofs.Rotations.{stripe_fits, member_fits}
use Rattle.steps.specs.declared.Progress.{Progress}
use Rattle.steps.specs.Steps.{Step, no_counts}
use Rattle.steps.specs.Allowance.{started, Sane, Ran}
use Rattle.steps.proofs.Allowances.{ran_none}
use Rattle.rules.specs.declared.Refusal.{Refusal}
use Rattle.rules.specs.declared.Refusal.TheVariants.{Request, Work}
use Rattle.rules.specs.Refusals.{Check, Row, unless, checked, page_rows, chip_set_row, collectable_on, buffers_rows, images_rows, settled_rows, read_rows, write_rows, commit_rows, collect_rows}
use Rattle.rules.specs.Open.{finish_steps, open_steps}
use Rattle.rules.specs.Read.{fetch_member, fetch}
use Rattle.rules.specs.Format.{format_steps}
use Rattle.rules.specs.Collect.{victim_of, collect_block, collect_steps}
use Rattle.collect.proofs.Rooms.{collect_found}
use Rattle.rules.specs.Commit.{commit_steps}
use Rattle.rules.specs.Write.{write_member, write_steps}
use Rattle.rules.specs.Calls.{Outcome, outcome, ReadOutcome, read_into, format_call, open_call, read_call, write_call, commit_call, collect_call}
use Rattle.rules.proofs.Soundness.Table.{rows_passed, below_passed, below_failed, both_passed}
use Rattle.rules.proofs.Soundness.Accepted.{write_accepted}
use Rattle.rules.specs.Capacitor.{write_needs, open_needs, StoresNeeded}
use Rattle.rules.proofs.Lists.Needed.{format_length, open_length}
use Rattle.rules.proofs.Capacitor.{stores_needed}
use Rattle.rules.proofs.Lists.EachCall.{open_lost}
use Rattle.rules.proofs.Lists.Answers.{answer_of, call_refused, call_ran}
use Rattle.looks.specs.declared.Look.{Look}
use Rattle.looks.specs.Looks.{below, look_of}
use Rattle.looks.proofs.Passing.{told_of, told_by, found_told, rows_below, rows_told, top_refused, mid_refused, below_decide, look_passed, PageReady, page_ready, Ready, ready}
use Rattle.rules.specs.declared.Origin.{Origin}

-- ---- format

format_short : (l : Layout) → Within l → length (format_steps l) ≤ 2 ^ 59
format_short l w =
    let blocks : (l.N + 1) * l.B ≤ 7 * 65535 = mul-le-mul {n₂ = 7} {m₂ = 65535} (omega (arith, w.members_high)) (blocks_most l w) in
    omega (arith, format_length l, w.stripes_high)

module _ (l : Layout) (s : Images) (a : ℕ) where
  pub format_refused : {r : Refusal} → checked (buffers_rows l s) ≡ Err r → ◌≡◌ {A = Outcome} (record { answer = Err r; images = s }) (format_call l s a)
  unfolding format_call
  format_refused {r} e = call_refused l no_counts s a (λ t. format_steps l) (buffers_rows l s) r e

  pub format_ran : {p q : Progress} {t : Images} → Within l → checked (buffers_rows l s) ≡ Ok tt → p ≡ started no_counts (min a (2 ^ 59))
      → Ran l p (format_steps l) q s t → ◌≡◌ {A = Outcome} (record { answer = Ok (answer_of q); images = t }) (format_call l s a)
  unfolding format_call
  format_ran w e begun h = call_ran l no_counts s a (λ t. format_steps l) (buffers_rows l s) (format_steps l) e refl (format_short l w) begun h

-- ---- open

module _ (l : Layout) (s : Images) (lost a : ℕ) where
  pub open_refused : {r : Refusal} → checked (images_rows l s lost) ≡ Err r → ◌≡◌ {A = Outcome} (record { answer = Err r; images = s }) (open_call l s lost a)
  unfolding open_call
  open_refused {r} e = call_refused l no_counts s a (open_steps l lost) (images_rows l s lost) r e

  -- with a chip lost there is no store
  pub open_nothing : {p : Progress} → checked (images_rows l s lost) ≡ Ok tt → lost ≢ no_chip → p ≡ started no_counts (min a (2 ^ 59)) → Sane p
      → ◌≡◌ {A = Outcome} (record { answer = Ok (answer_of p); images = s }) (open_call l s lost a)
  unfolding open_call
  open_nothing {p} e d begun sane = call_ran l no_counts s a (open_steps l lost) (images_rows l s lost) [] e (open_lost l s lost d) (omega arith) begun (ran_none l p s sane)

  -- else it is the end of the collection
  pub open_finished : {p q : Progress} {t : Images} → Within l → checked (images_rows l s lost) ≡ Ok tt → lost ≡ no_chip → p ≡ started no_counts (min a (2 ^ 59))
      → Ran l p (finish_steps l s) q s t → ◌≡◌ {A = Outcome} (record { answer = Ok (answer_of q); images = t }) (open_call l s lost a)
  unfolding open_call open_steps
  open_finished w e none_lost begun h =
      let named = eq-eqb lost no_chip none_lost in
      let most : length (finish_steps l s) ≤ open_needs l = rw named at (open_length l lost s) in
      call_ran l no_counts s a (open_steps l lost) (images_rows l s lost) (finish_steps l s) e (rw named) (omega (arith, most, places_most l w)) begun h

-- a read that passes its rows
pub record ReadReady (g : Geometry) (s : Images) (page : ℕ) (buffer : List ℕ) : Type 0 where
  pub ready : PageReady g s page
  pub whole : length buffer ≡ g.w

-- no list of these calls is as long as the most that the code counts down from
short : (l : Layout) (k : ℕ) → k ≤ write_needs l → l.K ≤ 128 → k ≤ 2 ^ 59
short l k h low = omega arith

-- the rows of commit and collect below rows 1 to 6, up to row 9
abbrev pub free_rows : Bool → ℕ → List Row
free_rows fits lost = (fits, Request) ∷ chip_set_row lost ∷ []

-- what a write relies on whose rows have passed
pub record WriteReady (g : Geometry) (s : Images) (lost page : ℕ) (xs : List ℕ) (look : Look) : Type 0 where
  pub rows : checked (write_rows (layout_of g) s lost page xs) ≡ Ok tt
  pub ready : Ready g s look
  pub stripe : page / g.n < g.s
  pub member : page % g.n < g.n
  pub whole : length xs ≡ g.w

-- and a commit or a collect whose rows up to row 9 have passed
pub record FreeReady (g : Geometry) (s : Images) (lost : ℕ) (fits : Bool) (look : Look) : Type 0 where
  pub rows : checked (settled_rows (layout_of g) s lost ++ free_rows fits lost) ≡ Ok tt
  pub ready : Ready g s look
  pub fit : fits ≡ true

module _ (g : Geometry) (s : Images) (lost : ℕ) where
  abbrev l : Layout
  l = layout_of g

  -- the stores that a call needs that has passed its rows
  needed : StoresNeeded l
  needed = stores_needed l (lit≤ tt) (lit≤ tt)

  -- ---- read

  module _ (page : ℕ) (buffer : List ℕ) where
    abbrev page_ones : List Row
    page_ones = page_rows l page (length buffer)

    -- rows 7 and 8 decide where those above have passed
    pub read_told : {k : Check} → checked (images_rows l s lost) ≡ Ok tt → k ≡ checked page_ones → checked (read_rows l s lost page buffer) ≡ k
    unfolding read_rows
    read_told e f = below_passed (images_rows l s lost) page_ones e ∙ sym f

    pub read_first : {r : Refusal} → checked (images_rows l s lost) ≡ Err r → checked (read_rows l s lost page buffer) ≡ Err r
    unfolding read_rows
    read_first {r} e = below_failed (images_rows l s lost) page_ones r e

    pub read_ready : checked (read_rows l s lost page buffer) ≡ Ok tt → ReadReady g s page buffer
    unfolding read_rows
    read_ready e =
        let rest = (both_passed (images_rows l s lost) page_ones e).1 in
        record {
          ready = page_ready g s lost page _ e;
          whole = eqb-true (length buffer) g.w (rows_passed page_ones rest).1.0;
        }

    pub read_refused : {r : Refusal} → checked (read_rows l s lost page buffer) ≡ Err r
        → ◌≡◌ {A = ReadOutcome} (record { answer = Err r; buffer = buffer }) (read_call l s lost page buffer)
    unfolding read_call
    read_refused e = rw e

    pub read_done : {bytes : List ℕ} {reads : ℕ} {origin : Origin} → checked (read_rows l s lost page buffer) ≡ Ok tt
        → record { bytes = bytes; reads = reads; origin = origin } ≡ fetch_member l s lost (page / g.n) (page % g.n)
        → ◌≡◌ {A = ReadOutcome} (record { answer = Ok (record { counts = (record { reads = reads; programs = 0; erases = 0; stores = 0 }); origin = origin }); buffer = bytes }) (read_call l s lost page buffer)
    unfolding read_call fetch
    read_done e f = rw e (ap read_into f)

  -- ---- write, commit and collect

  -- a call with rows below rows 1 to 6 in two parts, refused by rows 1 to 6, or by the first part
  module _ (mid last : List Row) (steps : Images → List Step) (a : ℕ) where
    abbrev Turned : Refusal → Type 0
    Turned r = ◌≡◌ {A = Outcome} (record { answer = Err r; images = s }) (outcome l (checked ((settled_rows l s lost ++ mid) ++ last)) no_counts a steps s)

    turned_first : {r : Refusal} → checked (settled_rows l s lost) ≡ Err r → Turned r
    turned_first {r} e = call_refused l no_counts s a steps ((settled_rows l s lost ++ mid) ++ last) r (top_refused (settled_rows l s lost) mid last e)

    turned_second : {r : Refusal} → checked (settled_rows l s lost) ≡ Ok tt → checked mid ≡ Err r → Turned r
    turned_second {r} e f = call_refused l no_counts s a steps ((settled_rows l s lost ++ mid) ++ last) r (mid_refused (settled_rows l s lost) mid last e f)

  module _ (page : ℕ) (xs : List ℕ) where
    abbrev page_rows_of : List Row
    page_rows_of = page_rows l page (length xs)

    pub write_ready : {given : Result Look Refusal} {look : Look} {k more : Check} → given ≡ look_of l s lost (checked (settled_rows l s lost)) → given ≡ Ok look
        → k ≡ checked page_rows_of → k ≡ Ok tt → more ≡ checked (chip_set_row lost ∷ []) → more ≡ Ok tt → WriteReady g s lost page xs look
    unfolding write_rows
    write_ready seen found e f h i =
        let rows = below_decide (settled_rows l s lost) page_rows_of (chip_set_row lost ∷ []) (look_passed l s lost seen found) (sym e ∙ f) ∙ sym h ∙ i in
        let (none_lost, o) = write_accepted l s lost page xs rows in
        record {
          rows = rows;
          ready = ready g s lost seen found none_lost;
          stripe = stripe_fits l o.settled.within page o.page;
          member = member_fits l o.settled.within page;
          whole = o.whole;
        }

    -- what the look and each of the later rows come to is what the rows come to
    pub write_told : {given : Result Look Refusal} {k more : Check} → given ≡ look_of l s lost (checked (settled_rows l s lost))
        → k ≡ below (told_by given) (checked page_rows_of) → more ≡ below k (checked (chip_set_row lost ∷ [])) → more ≡ checked (write_rows l s lost page xs)
    unfolding write_rows
    write_told seen e f =
        f ∙ rw (rows_told l s lost (settled_rows l s lost) page_rows_of seen e)
        (sym (rows_below (settled_rows l s lost ++ page_rows_of) (chip_set_row lost ∷ [])))

    pub write_refused : (a : ℕ) (r : Refusal) → checked (write_rows l s lost page xs) ≡ Err r
        → ◌≡◌ {A = Outcome} (record { answer = Err r; images = s }) (write_call l s lost page xs a)
    unfolding write_call
    write_refused a r e = call_refused l no_counts s a (write_steps l page xs) (write_rows l s lost page xs) r e

    -- refused by rows 1 to 6, by 7 and 8, by 9
    module _ (a : ℕ) {r : Refusal} where
      pub write_first : checked (settled_rows l s lost) ≡ Err r → ◌≡◌ {A = Outcome} (record { answer = Err r; images = s }) (write_call l s lost page xs a)
      unfolding write_call write_rows
      write_first e = turned_first page_rows_of (chip_set_row lost ∷ []) (write_steps l page xs) a e

      pub write_second : checked (settled_rows l s lost) ≡ Ok tt → checked page_rows_of ≡ Err r
          → ◌≡◌ {A = Outcome} (record { answer = Err r; images = s }) (write_call l s lost page xs a)
      unfolding write_call write_rows
      write_second e f = turned_second page_rows_of (chip_set_row lost ∷ []) (write_steps l page xs) a e f

      pub write_third : checked (settled_rows l s lost) ≡ Ok tt → checked page_rows_of ≡ Ok tt → checked (chip_set_row lost ∷ []) ≡ Err r
          → ◌≡◌ {A = Outcome} (record { answer = Err r; images = s }) (write_call l s lost page xs a)
      unfolding write_rows
      write_third e f h = write_refused a r (below_decide (settled_rows l s lost) page_rows_of (chip_set_row lost ∷ []) e f ∙ h)

    pub write_ran : (a : ℕ) {look : Look} {p q : Progress} {t : Images} → WriteReady g s lost page xs look → p ≡ started no_counts (min a (2 ^ 59))
        → Ran l p (write_member l (page / g.n) (page % g.n) xs s) q s t → ◌≡◌ {A = Outcome} (record { answer = Ok (answer_of q); images = t }) (write_call l s lost page xs a)
    unfolding write_call write_steps
    write_ran a e begun h =
        call_ran l no_counts s a (write_steps l page xs) (write_rows l s lost page xs) (write_steps l page xs s) e.rows refl
        (short l (length (write_steps l page xs s)) (needed.write s lost page xs e.rows) e.ready.store.within_limits.places_high) begun h

  module _ (fits : Bool) where
    pub free_ready : {given : Result Look Refusal} {look : Look} {k : Check} → given ≡ look_of l s lost (checked (settled_rows l s lost)) → given ≡ Ok look
        → k ≡ checked (free_rows fits lost) → k ≡ Ok tt → FreeReady g s lost fits look
    free_ready seen found e f =
        let free = sym e ∙ f in
        let h = rows_passed (free_rows fits lost) free in
        record {
          rows = below_passed (settled_rows l s lost) (free_rows fits lost) (look_passed l s lost seen found) ∙ free;
          ready = ready g s lost seen found (eqb-true lost no_chip h.1.0);
          fit = h.0;
        }

  module _ (j a : ℕ) where
    abbrev slot_rows : List Row
    slot_rows = (has_slot (record_at l s.records j), Work) ∷ []

    -- refused by rows 1 to 6, by 7 and 9
    module _ {r : Refusal} where
      pub commit_first : checked (settled_rows l s lost) ≡ Err r → ◌≡◌ {A = Outcome} (record { answer = Err r; images = s }) (commit_call l s lost j a)
      unfolding commit_call commit_rows
      commit_first e = turned_first (free_rows (ltb j g.s) lost) slot_rows (commit_steps l j) a e

      pub commit_second : checked (settled_rows l s lost) ≡ Ok tt → checked (free_rows (ltb j g.s) lost) ≡ Err r
          → ◌≡◌ {A = Outcome} (record { answer = Err r; images = s }) (commit_call l s lost j a)
      unfolding commit_call commit_rows
      commit_second e f = turned_second (free_rows (ltb j g.s) lost) slot_rows (commit_steps l j) a e f

    module _ {look : Look} (e : FreeReady g s lost (ltb j g.s) look) where
      -- row 10 decides
      commit_last : checked (commit_rows l s lost j) ≡ checked slot_rows
      unfolding commit_rows
      commit_last = below_passed (settled_rows l s lost ++ free_rows (ltb j g.s) lost) slot_rows e.rows

      pub commit_slotless : {r : Refusal} → checked slot_rows ≡ Err r → ◌≡◌ {A = Outcome} (record { answer = Err r; images = s }) (commit_call l s lost j a)
      unfolding commit_call
      commit_slotless {r} f = call_refused l no_counts s a (commit_steps l j) (commit_rows l s lost j) r (commit_last ∙ f)

      pub commit_ran : {p q : Progress} {t : Images} → has_slot (record_at l s.records j) ≡ true → p ≡ started no_counts (min a (2 ^ 59))
          → Ran l p (commit_steps l j s) q s t → ◌≡◌ {A = Outcome} (record { answer = Ok (answer_of q); images = t }) (commit_call l s lost j a)
      unfolding commit_call
      commit_ran f begun h =
          let passed : checked (commit_rows l s lost j) ≡ Ok tt = commit_last ∙ rw f in
          call_ran l no_counts s a (commit_steps l j) (commit_rows l s lost j) (commit_steps l j s) passed refl
          (short l (length (commit_steps l j s)) (omega (arith, needed.commit s lost j passed)) e.ready.store.within_limits.places_high) begun h

  module _ (c a : ℕ) where
    abbrev victim : Option ℕ
    victim = victim_of l c (page_at l s.chips c) (record_at l s.records)

    abbrev victim_rows : List Row
    victim_rows = (collectable_on l s c, Work) ∷ []

    -- refused by rows 1 to 6, by 7 and 9
    module _ {r : Refusal} where
      pub collect_first : checked (settled_rows l s lost) ≡ Err r → ◌≡◌ {A = Outcome} (record { answer = Err r; images = s }) (collect_call l s lost c a)
      unfolding collect_call collect_rows
      collect_first e = turned_first (free_rows (leb c g.n) lost) victim_rows (collect_steps l c) a e

      pub collect_second : checked (settled_rows l s lost) ≡ Ok tt → checked (free_rows (leb c g.n) lost) ≡ Err r
          → ◌≡◌ {A = Outcome} (record { answer = Err r; images = s }) (collect_call l s lost c a)
      unfolding collect_call collect_rows
      collect_second e f = turned_second (free_rows (leb c g.n) lost) victim_rows (collect_steps l c) a e f

    module _ {look : Look} (e : FreeReady g s lost (leb c g.n) look) where
      -- row 10 decides
      collect_last : (found : Option ℕ) → victim ≡ found → checked (collect_rows l s lost c) ≡ unless (when_found found (λ b. true) false) Work (Ok tt)
      unfolding collect_rows
      collect_last found f = below_passed (settled_rows l s lost ++ free_rows (leb c g.n) lost) victim_rows e.rows ∙ rw f

      pub collect_nothing : {found : Option ℕ} {k : Result ℕ Refusal} {r : Refusal} → found ≡ victim → k ≡ ok_or found Work → k ≡ Err r
          → ◌≡◌ {A = Outcome} (record { answer = Err r; images = s }) (collect_call l s lost c a)
      unfolding collect_call when_found
      collect_nothing {found} {r = r} f h i =
          call_refused l no_counts s a (collect_steps l c) (collect_rows l s lost c) r (collect_last found (sym f) ∙ found_told found Work ∙ ap told_of (sym h ∙ i))

      pub collect_ran : {p q : Progress} {t : Images} (v : ℕ) → victim ≡ Some v → p ≡ started no_counts (min a (2 ^ 59))
          → Ran l p (collect_block l c v s) q s t → ◌≡◌ {A = Outcome} (record { answer = Ok (answer_of q); images = t }) (collect_call l s lost c a)
      unfolding collect_call when_found
      collect_ran {p} {q} {t} v f begun h =
          let ran : Ran l p (collect_steps l c s) q s t = rw (collect_found l s c f) h in
          let passed = collect_last (Some v) f in
          call_ran l no_counts s a (collect_steps l c) (collect_rows l s lost c) (collect_steps l c s) passed refl
          (short l (length (collect_steps l c s)) (omega (arith, needed.collect s lost c passed)) e.ready.store.within_limits.places_high) begun ran
