-- Document 02, 1, under demand 3: what is found is the book's, an addition that is done puts its ticket at the end of the book's log, and
-- one that is not leaves the log. Where additions alone write pages, the log is never refused and nothing stands behind its end.
use Rattle.std.specs.Prelude.{Result, Some, Ok, Err}
use Rattle.rules.specs.declared.Refusal.{Refusal}
use Prim.Native.Nat.{ℕ, ◌*◌, ◌≤◌, ◌<◌}
use native.Mathlib.Nat.{mul-pos}
use native.Mathlib.Omega.{arith}
use mathlib.Core.Path.{◌≡◌, refl, sym, ap, ◌∙◌}
use mathlib.Core.Logic.{◌≢◌}
use mathlib.Core.Bool.{Bool, true, false}
use mathlib.Core.List.{List, [], ◌∷◌, ◌++◌}
use lib.ListN.{length, replicate, length-replicate}
use Rattle.ranges.specs.Look.{when_found}
use Rattle.ranges.specs.Update.{at}
use Rattle.ranges.proofs.Looks.{by_test, both}
use Rattle.ranges.proofs.Updates.{at_other}
use Rattle.layout.specs.Layout.{Layout, no_chip, chip_bytes}
use Rattle.layout.specs.Images.{Images}
use Rattle.layout.proofs.Limits.{Within}
use Rattle.steps.specs.declared.Counts.{Counts}
use Rattle.steps.specs.Steps.{Step, reading}
use Rattle.rules.specs.Refusals.{Check, checked, images_rows, page_rows, log_row, read_rows, find_rows, add_rows}
use Rattle.rules.specs.declared.Refusal.TheVariants.{Tickets}
use Rattle.rules.specs.declared.Origin.{Origin}
use Rattle.rules.specs.declared.Origin.TheVariants.{Unwritten}
use Rattle.rules.specs.declared.Reading.{Reading}
use Rattle.rules.specs.Tickets.{ticket_bytes, ticket_of, ticket_sound}
use Rattle.rules.specs.Log.{falls_in, bytes_at, log_end, log_sound, standing, log_origin, with_ticket, contents, origins, log_reads, add_steps}
use Rattle.rules.specs.Calls.{ReadOutcome, read_call, find_call, add_call, Call, open_call_lem, write_call_lem, commit_call_lem, collect_call_lem, add_call_lem, query_call, Verdict, done, cut, refused, outcome, verdict, ended}
use Rattle.rules.specs.Book.{Book, completed, writes, booked, noted}
use Rattle.rules.specs.Demand.{World, called, called_all, chip_taken, AllName, origin_owed, TellsTheOrigin, FindsTheBook, Finished, start, AfterBothLists}
use Rattle.rules.proofs.Soundness.Statements.{Usable}
use Rattle.rules.proofs.Soundness.Table.{by_check, below_passed, both_passed}
use Rattle.rules.proofs.Soundness.Accepted.{add_accepted}
use Rattle.rules.proofs.Data.Log.{SamePages, end_fits, page_fits, end_same, sound_same, standing_same, origin_same, with_bytes, contents_whole}
use Rattle.rules.proofs.Data.NewTicket.{ClearBehind, Grown, grown}
use Rattle.rules.proofs.Lists.CutRule.{verdict_number}
use Rattle.rules.proofs.Demand.Invariant.{Inv, cut_keeps, refused_keeps}
use Rattle.rules.proofs.Demand.Alive.{call_inv}
use Rattle.rules.proofs.Demand.Taken.{call_stays}
use Rattle.rules.proofs.Demand.Events.{usable, start_holds, first_holds, owed_too, origins_told}
use Rattle.rules.proofs.Demand.OnlyAdditions.{is_write, OnlyAdds, Tidy, finished_tidy, tidy_behind, tidy_grown, refused_alone}

module _ (l : Layout) where
  open l use {N, W, S}

  -- the ticket is where the log ended; every other place, and every page but that one, is as it was
  pub record Added (ticket : List ℕ) (before after : Book) : Type 0 where
    pub place : ℕ
    pub end : log_end l before ≡ Some place
    pub tickets : bytes_at l after ≡ at place ticket (bytes_at l before)
    pub pages : (i : ℕ) → i ≢ falls_in l place → after i ≡ before i
    -- the log is longer by it and it stands; but where a page was written with something behind the end, that comes to light
    pub grows : ClearBehind l place before → Grown l ticket place before after

  -- what a finished format and a first list leave
  abbrev pub reached : Finished l → List Call → World
  reached f first = called_all l first (start l f)

  -- what an addition there is answered, and what it leaves
  abbrev pub add_verdict : World → ℕ → List ℕ → ℕ → Verdict
  add_verdict x lost ticket a = (ended l (add_call_lem lost ticket a) x.images).verdict

  abbrev pub after_add : World → ℕ → List ℕ → ℕ → World
  after_add x lost ticket a = called l (add_call_lem lost ticket a) x

  -- "a cut addition leaves the log as it was, whichever chip dies later": what is found after it, with a chip taken and calls that name it, is
  -- what the book had before it; how its pages are got is told by the records, in which a commit that the addition owed may have been made
  abbrev pub LeavesTheLog : Type 0
  LeavesTheLog =
      (f : Finished l) (first : List Call) (lost : ℕ) (ticket : List ℕ) (a : ℕ) → add_verdict (reached f first) lost ticket a ≢ done
      → (c : ℕ) → c ≤ N → (bytes : List ℕ) → length bytes ≡ chip_bytes l → (second : List Call) → AllName c second
      → FindsTheBook l c
      (record {
        images = (called_all l second (chip_taken l c bytes (after_add (reached f first) lost ticket a))).images;
        book = (reached f first).book;
        written = (reached f first).written;
      })

  -- every question that names that chip is answered from the book's log, and none is refused
  abbrev pub Answers : ℕ → World → Type 0
  Answers lost x =
      (lot bag : ℕ) → (n : Counts)
      × (find_call l x.images lost lot bag ≡ Ok (record { counts = n; standing = standing l x.book lot bag; origin = log_origin l x.book (origin_owed l lost x) lot bag }))

  pub record TicketsKept : Type 0 where
    -- a question is answered from the book's log and says how it was got, with no chip dead or any one
    pub finds : AfterBothLists l (FindsTheBook l)
    -- an addition that is done puts its ticket at the end of the book's log
    pub adds : (f : Finished l) (first : List Call) (lost : ℕ) (ticket : List ℕ) (a : ℕ) → add_verdict (reached f first) lost ticket a ≡ done
        → Added ticket (reached f first).book (after_add (reached f first) lost ticket a).book
    -- one that is cut or refused leaves the book
    pub keeps : (x : World) (lost : ℕ) (ticket : List ℕ) (a : ℕ) → add_verdict x lost ticket a ≢ done → (after_add x lost ticket a).book ≡ x.book
    pub leaves : LeavesTheLog
    -- where additions alone wrote pages, no ticket of the log breaks the rules, and nothing stands behind its end
    pub tidy : (f : Finished l) (first : List Call) → OnlyAdds first → Tidy l (reached f first).book
    -- so every question is answered, with no chip dead
    pub answered : (f : Finished l) (first : List Call) → OnlyAdds first → Answers no_chip (reached f first)
    -- and with any one
    pub answered_taken : (f : Finished l) (first : List Call) → OnlyAdds first → (c : ℕ) → c ≤ N → (bytes : List ℕ) → length bytes ≡ chip_bytes l
        → (second : List Call) → AllName c second → Answers c (called_all l second (chip_taken l c bytes (reached f first)))
    -- and an addition that is done makes the log longer by its ticket, which stands
    pub grows_always : (f : Finished l) (first : List Call) → OnlyAdds first → (lost : ℕ) (ticket : List ℕ) (a : ℕ) → add_verdict (reached f first) lost ticket a ≡ done
        → (t : ℕ) × (log_end l (reached f first).book ≡ Some t) × Grown l ticket t (reached f first).book (after_add (reached f first) lost ticket a).book
    -- and one that is refused with 11 is refused for its own ticket
    pub refused_alone : (f : Finished l) (first : List Call) → OnlyAdds first → (lost : ℕ) (ticket : List ℕ)
        → checked (add_rows l (reached f first).images lost ticket) ≡ Err Tickets → ticket_sound (ticket_of ticket) ≡ false

  -- how a read says that its page was got
  abbrev origin_in : Result Reading Refusal → Origin
  origin_in (Ok x) = x.origin
  origin_in (Err r) = Unwritten

  -- a read that is done passed rows 1 to 5, gave what the page reads as, and said how it was got
  read_done : (s : Images) (lost i : ℕ) (buffer : List ℕ) (n : Counts) (o : Origin) (ys : List ℕ)
      → ◌≡◌ {A = ReadOutcome} (read_call l s lost i buffer) (record { answer = Ok (record { counts = n; origin = o }); buffer = ys })
      → (checked (images_rows l s lost) ≡ Ok tt) × (contents l s lost i ≡ ys) × (origins l s lost i ≡ o)
  unfolding read_call read_rows
  read_done s lost i buffer n o ys e = by_check (checked (read_rows l s lost i buffer))
      (λ passed. (
        (both_passed (images_rows l s lost) (page_rows l i (length buffer)) passed).0,
        ap (λ (x : ReadOutcome). x.buffer) (rw passed at e),
        ap (λ (x : ReadOutcome). origin_in x.answer) (rw passed at e),
      ))
      (λ r failed. let h = rw failed at e in let z : ◌≡◌ {A = ℕ} 0 1 = cc (ap (λ (x : ReadOutcome). x.answer) h) in absurd (omega arith))

  -- so where every page reads as the book has it, so does the log
  module _ (w : Within l) (lost : ℕ) (x : World) (reads : TellsTheOrigin l lost x) where
    page_read : (i : ℕ) → i < N * S
        → (checked (images_rows l x.images lost) ≡ Ok tt) × (contents l x.images lost i ≡ x.book i) × (origins l x.images lost i ≡ origin_owed l lost x i)
    page_read i h =
        let (n, e) = reads i h (replicate W 0) (length-replicate W 0) in
        read_done x.images lost i (replicate W 0) n (origin_owed l lost x i) (x.book i) e

    rows_read : checked (images_rows l x.images lost) ≡ Ok tt
    rows_read = (page_read 0 (mul-pos (omega (arith, w.members_low)) w.stripes_low)).0

    same_pages : SamePages l (contents l x.images lost) x.book
    same_pages i h = (page_read i h).1

    same_origins : (i : ℕ) → i < N * S → origins l x.images lost i ≡ origin_owed l lost x i
    same_origins i h = (page_read i h).2

    pub finds_book : FindsTheBook l lost x
    unfolding find_call find_rows
    finds_book lot bag = (
      reading (log_reads l x.images lost),
      rw (
        below_passed (images_rows l x.images lost) (log_row l x.images lost ∷ []) rows_read,
        sound_same l w (contents l x.images lost) x.book same_pages,
      )
          (by_test (log_sound l x.book)
          (λ t.
          rw (
            t,
            standing_same l w (contents l x.images lost) x.book same_pages lot bag,
            origin_same l w (contents l x.images lost) x.book same_pages (origins l x.images lost) (origin_owed l lost x) same_origins lot bag,
          ))
          (λ t. rw t)),
    )

  -- an addition answered done passed its rows
  done_passed : (check : Check) (n : Counts) (a : ℕ) (steps : Images → List Step) (s : Images) → verdict (outcome l check n a steps s).answer ≡ done → check ≡ Ok tt
  done_passed (Ok tt) n a steps s e = refl
  done_passed (Err r) n a steps s e = absurd (omega (arith, ap verdict_number e))

  -- the book with a ticket at the end of its log
  added : Within l → (book : Book) (ticket : List ℕ) (t : ℕ) → log_end l book ≡ Some t → length (book (falls_in l t)) ≡ W → length ticket ≡ ticket_bytes
      → ticket_sound (ticket_of ticket) ≡ true → log_sound l book ≡ true → Added ticket book (at (falls_in l t) (with_ticket l book ticket t) book)
  added w book ticket t end page whole right sound =
      let after = at (falls_in l t) (with_ticket l book ticket t) book in
      let put = with_bytes l w book ticket t page whole in
      record {
        place = t;
        end = end;
        tickets = put;
        pages = λ i other. at_other (falls_in l t) (with_ticket l book ticket t) book i other;
        grows = λ clear. grown l ticket t book after end put right clear sound;
      }

  add_done : Within l → (lost : ℕ) (ticket : List ℕ) (a : ℕ) (x : World) → Inv l x.images x.book x.written
      → add_verdict x lost ticket a ≡ done → Added ticket x.book (after_add x lost ticket a).book
  unfolding called ended add_call writes booked completed when_found
  add_done w lost ticket a x f e =
      let s = x.images in
      let passed = done_passed (checked (add_rows l s lost ticket)) (reading (log_reads l s lost)) a (add_steps l lost ticket) s e in
      let o = (add_accepted l s lost ticket passed).1 in
      let (t, found) = o.end in
      let end = sym (end_same l w (contents l s no_chip) x.book f.reads) ∙ found in
      let sound = sym (sound_same l w (contents l s no_chip) x.book f.reads) ∙ o.log in
      let page = page_fits l w t (end_fits l x.book t end) in
      let whole = ap length (sym (f.reads (falls_in l t) page)) ∙ contents_whole l w s f.sound (falls_in l t) page in
      rw (e, end) (added w x.book ticket t end whole o.whole o.sound sound)

  -- a call that is cut or refused
  not_done : (call : Call) (v : Verdict) → v ≢ done → (book : Book) (written : ℕ → Bool) → (booked l call v book ≡ book) × (noted l call v book written ≡ written)
  unfolding booked noted
  not_done call done d book written = absurd (d refl)
  not_done call cut d book written = cut_keeps (writes l call book) book written
  not_done call refused d book written = refused_keeps (writes l call book) book written

  add_keeps : (x : World) (lost : ℕ) (ticket : List ℕ) (a : ℕ) → add_verdict x lost ticket a ≢ done
      → ((after_add x lost ticket a).book ≡ x.book) × ((after_add x lost ticket a).written ≡ x.written)
  unfolding called
  add_keeps x lost ticket a d = not_done (add_call_lem lost ticket a) (add_verdict x lost ticket a) d x.book x.written

  -- ---- where additions alone write pages

  by_done : {P : Type 0} (v : Verdict) → (v ≡ done → P) → (v ≢ done → P) → P
  by_done done is other = is refl
  by_done cut is other = other (λ e. absurd (omega (arith, ap verdict_number e)))
  by_done refused is other = other (λ e. absurd (omega (arith, ap verdict_number e)))

  added_tidy : (ticket : List ℕ) (before after : Book) → Tidy l before → Added ticket before after → Tidy l after
  added_tidy ticket before after tidy h =
      tidy_grown l before tidy h.place h.end ticket after h.tickets (h.grows (tidy_behind l before tidy h.place h.end))

  call_tidy : Within l → (call : Call) → is_write call ≡ false → (x : World) → Inv l x.images x.book x.written → Tidy l x.book
      → Tidy l (called l call x).book
  unfolding called writes booked
  call_tidy w (open_call_lem lost a) ok x f tidy = tidy
  call_tidy w (write_call_lem lost page xs a) ok x f tidy = both true refl ok
  call_tidy w (commit_call_lem lost j a) ok x f tidy = tidy
  call_tidy w (collect_call_lem lost c a) ok x f tidy = tidy
  call_tidy w (add_call_lem lost ticket a) ok x f tidy = by_done (add_verdict x lost ticket a)
      (λ e. added_tidy ticket x.book (after_add x lost ticket a).book tidy (add_done w lost ticket a x f e))
      (λ d. rw (add_keeps x lost ticket a d).0 tidy)
  call_tidy w (query_call q) ok x f tidy = tidy

  calls_tidy : Usable l → (first : List Call) → OnlyAdds first → (x : World) → Inv l x.images x.book x.written → Tidy l x.book → Tidy l (called_all l first x).book
  unfolding called_all
  calls_tidy u [] only x f tidy = tidy
  calls_tidy u (call ∷ first) only x f tidy =
      calls_tidy u first only.1 (called l call x) (call_inv l u call x f) (call_tidy u.within call only.0 x f tidy)

  -- a question about a log that is sound is answered
  answers : (c : ℕ) (x : World) → FindsTheBook l c x → log_sound l x.book ≡ true → Answers c x
  answers c x finds sound lot bag = rw sound at (finds lot bag)

  -- one call more; and calls that name the chip that is taken, which change nothing
  one_more : (first : List Call) (call : Call) (x : World) → called_all l (first ++ (call ∷ [])) x ≡ called l call (called_all l first x)
  unfolding called_all
  one_more [] call x = refl
  one_more (c ∷ first) call x = one_more first call (called l c x)

  second_keeps : Usable l → (c : ℕ) → c ≤ N → (second : List Call) → AllName c second → (x : World) → called_all l second x ≡ x
  unfolding called_all
  second_keeps u c chip [] naming x = refl
  second_keeps u c chip (call ∷ second) naming x =
      second_keeps u c chip second naming.1 (called l call x) ∙ call_stays l u c chip call naming.0 x

  module _ (some : 1 ≤ l.D) (narrow : l.D ≤ 4) where
    found : AfterBothLists l (FindsTheBook l)
    found = owed_too l (TellsTheOrigin l) (FindsTheBook l) (λ f. finds_book (usable l some narrow f).within) (origins_told l some narrow)

    left : LeavesTheLog
    unfolding chip_taken
    left f first lost ticket a d c chip bytes whole second naming lot bag =
        let y = chip_taken l c bytes (after_add (reached f first) lost ticket a) in
        let still = second_keeps (usable l some narrow f) c chip second naming y in
        let kept = add_keeps (reached f first) lost ticket a d in
        rw (
          one_more first (add_call_lem lost ticket a) (start l f),
          ap (λ (x : World). x.book) still ∙ kept.0,
          ap (λ (x : World). x.written) still ∙ kept.1,
        ) at
        (found.one_chip_taken f (first ++ (add_call_lem lost ticket a ∷ [])) c chip bytes whole second naming lot bag)

    module _ (f : Finished l) (first : List Call) (only : OnlyAdds first) where
      kept_tidy : Tidy l (reached f first).book
      kept_tidy = calls_tidy (usable l some narrow f) first only (start l f) (start_holds l some narrow f) (finished_tidy l (usable l some narrow f).within)

      taken_answers : (c : ℕ) → c ≤ N → (bytes : List ℕ) → length bytes ≡ chip_bytes l
          → (second : List Call) → AllName c second → Answers c (called_all l second (chip_taken l c bytes (reached f first)))
      unfolding chip_taken
      taken_answers c chip bytes whole second naming =
          let y = chip_taken l c bytes (reached f first) in
          answers c (called_all l second y) (found.one_chip_taken f first c chip bytes whole second naming)
          (rw (second_keeps (usable l some narrow f) c chip second naming y) kept_tidy.sound)

    pub tickets_kept : TicketsKept
    tickets_kept = record {
      finds = found;
      adds = λ f first lost ticket a. add_done (usable l some narrow f).within lost ticket a (reached f first) (first_holds l some narrow f first);
      keeps = λ x lost ticket a d. (add_keeps x lost ticket a d).0;
      leaves = left;
      tidy = kept_tidy;
      answered = λ f first only. answers no_chip (reached f first) (found.no_chip_taken f first) (kept_tidy f first only).sound;
      answered_taken = taken_answers;
      grows_always = λ f first only lost ticket a e.
          let x = reached f first in
          let h = add_done (usable l some narrow f).within lost ticket a x (first_holds l some narrow f first) e in
          (h.place, h.end, h.grows (tidy_behind l x.book (kept_tidy f first only) h.place h.end));
      refused_alone = λ f first only lost ticket.
          let x = reached f first in
          let same = sound_same l (usable l some narrow f).within (contents l x.images no_chip) x.book (first_holds l some narrow f first).reads in
          refused_alone l x.images lost ticket (same ∙ (kept_tidy f first only).sound);
    }
