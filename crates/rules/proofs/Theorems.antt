-- The theorems of the argument, for every geometry: what holds of every call by the definitions alone.
use Prim.Native.Nat.{ℕ, ◌+◌, ◌*◌, ◌≤◌, ◌<◌}
use native.Mathlib.Omega.{arith}
use mathlib.Core.Path.{◌≡◌, refl, ap}
use mathlib.Core.Logic.{◌≢◌, ◌↔◌}
use mathlib.Core.Bool.{true}
use mathlib.Core.List.{List}
use lib.ListN.{length}
use lib.Seq.{take_all}
use lib.Dec.{lit≤, eqb}
use borrow.Author.Tests.{eqb-true, eqb-false, ltb-true, ltb-false}
use Rattle.std.specs.Prelude.{Some, None, Ok, Err}
use Rattle.ranges.proofs.Looks.{by_test}
use Rattle.layout.specs.declared.Geometry.{Geometry}
use Rattle.layout.specs.Layout.{Layout, layout_of, no_chip, limits}
use Rattle.layout.specs.Rotation.{stripe_of}
use Rattle.layout.specs.Page.{Page, page_at}
use Rattle.layout.specs.Record.{Record, has_slot, record_at}
use Rattle.layout.specs.Collection.{Collection, collection_at}
use Rattle.layout.specs.Images.{Images, lengths}
use Rattle.layout.proofs.Limits.{Within, within}
use Rattle.steps.specs.declared.Counts.{Counts}
use Rattle.steps.specs.Steps.{Step, no_counts, made, is_cut, apply_all, reading}
use Rattle.steps.proofs.Prefixes.{EndsIn, Every, every_nil, Closes}
use Rattle.rules.specs.Refusals.{Check, checked, records_check, spares_check, images_rows, write_rows, commit_rows, collect_rows, add_rows, lost_named, find_rows}
use Rattle.rules.specs.declared.Origin.{Origin}
use Rattle.rules.specs.declared.Origin.TheVariants.{Direct}
use Rattle.rules.specs.Blocks.{lowest_clean_block}
use Rattle.rules.specs.Sound.{records_sound, chip_sound, is_lost}
use Rattle.rules.specs.Format.{format_steps}
use Rattle.rules.specs.Open.{open_steps}
use Rattle.rules.specs.Collect.{victim_of, collect_steps}
use Rattle.rules.specs.Place.{place_of}
use Rattle.rules.specs.Costs.{cheapest}
use Rattle.rules.specs.Commit.{commit_steps}
use Rattle.rules.specs.Partial.{lowest_free_slot}
use Rattle.rules.specs.Write.{commit_owed, write_steps}
use Rattle.rules.specs.Read.{fetch}
use Rattle.rules.specs.Tickets.{ticket_bytes, ticket_of, ticket_sound}
use Rattle.rules.specs.Log.{falls_in, log_end, log_sound, with_ticket, contents, log_reads, add_steps}
use Rattle.rules.specs.Calls.{Verdict, done, cut, refused, verdict, run, outcome, format_call, read_call, write_call, add_call}
use Rattle.rules.specs.Demand.{ReadGives, TellsTheOrigin, AfterBothLists, Demand3}
use Rattle.rules.specs.Capacitor.{StoresNeeded}
use Rattle.rules.proofs.Soundness.Statements.{Usable, usable, RecordsSound, ChipSound, SoundBut, Sound, sound_chip, rest_collects}
use Rattle.rules.proofs.Soundness.Checks.{lengths_are, images_sound, lengths_pass, records_check_pass, spares_check_pass}
use Rattle.rules.proofs.Soundness.Accepted.{images_accepted, read_passes, WriteAccepted, write_accepted, write_passes, add_accepted, add_passes, commit_accepted, collect_accepted, find_accepted, find_passes}
use Rattle.rules.proofs.Soundness.RecordChecks.{records_sound_lem, records_pass}
use Rattle.rules.proofs.Soundness.ChipChecks.{chip_sound_lem, chip_pass}
use Rattle.rules.proofs.Data.Carries.{Carries, Wrote}
use Rattle.rules.proofs.Space.Room.{victim_found, free_slot_lem, stripe_to_commit}
use Rattle.rules.proofs.Lists.Fresh.{formatted, format_finishes}
use Rattle.rules.proofs.Lists.Collecting.{destination, collect_leads}
use Rattle.rules.proofs.Lists.EachCall.{open_lost, open_every, collect_every, commit_every, write_ends, write_every, add_writes, add_ends, add_every}
use Rattle.rules.proofs.Lists.CutRule.{verdict_number, CutRules, cut_rules}
use Rattle.rules.proofs.Capacitor.{stores_needed}
use Rattle.rules.proofs.Lists.FreshSound.{fresh_sound}
use Rattle.rules.proofs.Lists.Committing.{StoresRecord, Committed, commit_closes}
use Rattle.rules.proofs.Lists.Writing.{write_closes}
use Rattle.rules.proofs.Demand.Invariant.{no_copies_at_rest}
use Rattle.rules.proofs.Demand.Events.{origins_told, demand_3}
use Rattle.rules.proofs.Demand.Origins.{OriginsSay, origins_say}
use Rattle.rules.proofs.Demand.Tickets.{TicketsKept, tickets_kept}

module _ (l : Layout) where
  open l use {N, W, S}

  -- Tests and statements: the checks of rows 4 and 5 pass exactly where the statements hold.
  pub record TestsAreStatements : Type 0 where
    pub records : (r : ℕ → Record) (co : Collection) → (records_sound l r co ≡ true) ↔ RecordsSound l r co
    pub chip : (r : ℕ → Record) (x : ℕ → Page) (c : ℕ) (co : Collection) → (chip_sound l r x c co ≡ true) ↔ ChipSound l r x c co
    pub images : (s : Images) (lost : ℕ)
        → ((lengths l s ≡ true) × (records_check l s ≡ true) × (spares_check l s lost ≡ true)) ↔ SoundBut l (is_lost lost) s

  -- Soundness is kept: by every prefix of the list of every call but format that is not refused, and by a format's whole list.
  pub record SoundnessKept : Type 0 where
    pub format : (s : Images) → limits l ≡ true → lengths l s ≡ true → Sound l (apply_all l (format_steps l) s)
    pub open_call_lem : (s : Images) (lost : ℕ) → checked (images_rows l s lost) ≡ Ok tt → Every l (SoundBut l (is_lost lost)) (open_steps l lost s) s
    pub write : (s : Images) (lost page : ℕ) (xs : List ℕ) → checked (write_rows l s lost page xs) ≡ Ok tt → Every l (Sound l) (write_steps l page xs s) s
    pub commit : (s : Images) (lost j : ℕ) → checked (commit_rows l s lost j) ≡ Ok tt → Every l (Sound l) (commit_steps l j s) s
    pub collect : (s : Images) (lost c : ℕ) → checked (collect_rows l s lost c) ≡ Ok tt → Every l (Sound l) (collect_steps l c s) s
    pub add : (s : Images) (lost : ℕ) (ticket : List ℕ) → checked (add_rows l s lost ticket) ≡ Ok tt → Every l (Sound l) (add_steps l lost ticket s) s

  -- Room: in sound images at rest nothing is looked for in vain.
  pub record RoomIn (s : Images) : Type 0 where
    pub place : (c : ℕ) → c ≤ N → place_of l (page_at l s.chips c) ≡ None
        → (v : ℕ) × (victim_of l c (page_at l s.chips c) (record_at l s.records) ≡ Some v)
        × (p : ℕ) × (place_of l (page_at l (apply_all l (collect_steps l c s) s).chips c) ≡ Some p)
    pub destination : (c : ℕ) → c ≤ N → (d : ℕ) × (lowest_clean_block l (page_at l s.chips c) ≡ Some d)
    pub slot : (i : ℕ) × (lowest_free_slot l (record_at l s.records) ≡ Some i)
    pub stripe : (j : ℕ) → commit_owed l (record_at l s.records) j ≡ true → (k : ℕ) × (cheapest l (record_at l s.records) ≡ Some k)
    -- "No write is refused for want of space."
    pub accepted : (page : ℕ) (xs : List ℕ) → page < N * S → length xs ≡ W → checked (write_rows l s no_chip page xs) ≡ Ok tt
    -- nor an addition, where the ticket and the log are sound and the log has an end
    pub adds_accepted : (ticket : List ℕ) → length ticket ≡ ticket_bytes → ticket_sound (ticket_of ticket) ≡ true → log_sound l (contents l s no_chip) ≡ true
        → (t : ℕ) → log_end l (contents l s no_chip) ≡ Some t → checked (add_rows l s no_chip ticket) ≡ Ok tt
    -- no list stops short: that of a write and that of a commit end in the record that they are for
    pub writes : (page : ℕ) (xs : List ℕ) → page < N * S → length xs ≡ W
        → EndsIn (StoresRecord (stripe_of l page)) (write_steps l page xs s) × Wrote l page xs s (apply_all l (write_steps l page xs s) s)
    pub commits : (j : ℕ) → j < S → has_slot (record_at l s.records j) ≡ true
        → EndsIn (StoresRecord j) (commit_steps l j s) × Committed l j s (apply_all l (commit_steps l j s) s)

  -- page i of t reads as in s
  abbrev pub ReadsAs : Images → Images → ℕ → Type 0
  ReadsAs s t i = (o : Origin) × (ys : List ℕ) × ReadGives l s no_chip i o ys × ReadGives l t no_chip i o ys

  -- Reading back: a write that is done put its data into its page, and every other page reads as before; one that is cut changed no page.
  pub record ReadsBack (s : Images) (page : ℕ) (xs : List ℕ) (v : Verdict) (t : Images) : Type 0 where
    pub here : v ≡ done → ReadGives l t no_chip page Direct xs
    pub elsewhere : v ≡ done → (i : ℕ) → i < N * S → i ≢ page → ReadsAs s t i
    pub cut_short : v ≡ cut → (i : ℕ) → i < N * S → ReadsAs s t i

  pub tests_are_statements : TestsAreStatements
  tests_are_statements = record {
    records = λ r co. (records_sound_lem l r co, records_pass l r co);
    chip = λ r x c co. (chip_sound_lem l r x c co, chip_pass l r x c co);
    images = λ s lost. (
      λ h. images_sound l s (is_lost lost) h.0 h.1 h.2,
      λ f. (lengths_pass l s (is_lost lost) f, records_check_pass l s (is_lost lost) f, spares_check_pass l s (is_lost lost) f),
    );
  }

  -- The whole of it.
  pub record Argument : Type 0 where
    pub tests : TestsAreStatements
    pub soundness : SoundnessKept
    pub room : limits l ≡ true → (s : Images) → Sound l s → (collection_at l s.records).phase ≡ 0 → RoomIn s
    pub reading_back : (s : Images) (lost page : ℕ) (xs : List ℕ) (a : ℕ)
        → ReadsBack s page xs (verdict (write_call l s lost page xs a).answer) (write_call l s lost page xs a).images
    -- an addition is read back as the write of the page that it falls in
    pub adding_back : (s : Images) (lost : ℕ) (ticket : List ℕ) (a t : ℕ) → log_end l (contents l s lost) ≡ Some t
        → ReadsBack s (falls_in l t) (with_ticket l (contents l s lost) ticket t) (verdict (add_call l s lost ticket a).answer) (add_call l s lost ticket a).images
    -- in images that are sound but for the lost chip, a question is refused exactly where a ticket of the log breaks the rules
    pub questions : limits l ≡ true → (s : Images) (lost : ℕ) → lost_named l lost ≡ true → SoundBut l (is_lost lost) s
        → (checked (find_rows l s lost) ≡ Ok tt) ↔ (log_sound l (contents l s lost) ≡ true)
    pub cut_rule : CutRules l
    pub demand_3 : Demand3 l
    -- over the same lists, every read says how its page was got
    pub origins : AfterBothLists l (TellsTheOrigin l)
    -- what that is, sentence by sentence
    pub origins_say : OriginsSay l
    pub tickets : TicketsKept l
    -- how big a capacitor: the stores that each call needs, and that with so many it is done
    pub stores : StoresNeeded l
    -- demand 3 has something to start from, in every geometry within the limits
    pub starts : limits l ≡ true → (s : Images) → lengths l s ≡ true → (a : ℕ) → length (format_steps l) ≤ a
        → verdict (format_call l s a).answer ≡ done

module _ (l : Layout) (some : 1 ≤ l.D) (narrow : l.D ≤ 4) where
  open l use {N, W, S}

  in_limits : Within l → Usable l
  in_limits = usable l some narrow

  open_kept : (s : Images) (lost : ℕ) → checked (images_rows l s lost) ≡ Ok tt → Every l (SoundBut l (is_lost lost)) (open_steps l lost s) s
  open_kept s lost passed k =
      let o = images_accepted l s lost passed in
      by_test (eqb lost no_chip)
      (λ e.
      let none_lost = eqb-true lost no_chip e in
      rw none_lost (open_every l (in_limits o.within) s (rw none_lost at o.sound) no_chip k).sound)
      (λ e. rw (open_lost l s lost (eqb-false lost no_chip e)) (every_nil l (SoundBut l (is_lost lost)) s o.sound k))

  pub soundness_kept : SoundnessKept l
  soundness_kept = record {
    format = λ s fit long.
        let n = lengths_are l s long in
        fresh_sound l (within l fit) (apply_all l (format_steps l) s) (formatted l narrow some s n.0 n.1 n.2);
    open_call_lem = open_kept;
    write = λ s lost page xs passed.
        let o = (write_accepted l s lost page xs passed).1 in write_every l (in_limits o.settled.within) s page xs o;
    commit = λ s lost j passed k.
        let o = (commit_accepted l s lost j passed).1 in (commit_every l (in_limits o.settled.within) s j o k).sound;
    collect = λ s lost c passed k.
        let o = (collect_accepted l s lost c passed).1 in (collect_every l (in_limits o.settled.within) s c o k).sound;
    add = λ s lost ticket passed.
        let o = (add_accepted l s lost ticket passed).1 in add_every l (in_limits o.settled.within) s lost ticket passed;
  }

  pub room_in : Within l → (s : Images) → Sound l s → (collection_at l s.records).phase ≡ 0 → RoomIn l s
  room_in w s f rest = record {
    place = λ c chip nowhere.
        let chip' : c < N + 1 = omega arith in
        let (v, victim) =
        victim_found l w (record_at l s.records) (page_at l s.chips c) c (collection_at l s.records) chip' f.stripes (sound_chip l (in_limits w) s f c chip')
        (rest_collects (collection_at l s.records) c rest) nowhere in
        let after = (collect_leads l (in_limits w) s f rest c chip' v victim).ends in
        (v, victim, after.place, after.found);
    destination = λ c chip. destination l (in_limits w) s f rest c (omega arith);
    slot = let free = free_slot_lem l w (record_at l s.records) (collection_at l s.records) f.stripes in (free.0, free.1);
    stripe = λ j owed. let least = stripe_to_commit l w (record_at l s.records) j owed in (least.0, least.1);
    accepted = λ page xs inside whole.
        write_passes l s page xs (record { settled = record { within = w; sound = f; at_rest = rest }; page = inside; whole = whole });
    adds_accepted = λ ticket whole sound log t end.
        add_passes l s ticket (record { settled = record { within = w; sound = f; at_rest = rest }; whole = whole; sound = sound; log = log; end = (t, end) });
    writes = λ page xs inside whole. let c = write_closes l (in_limits w) page inside xs whole s f rest in (c.last, c.whole);
    commits = λ j fits has. let c = commit_closes l (in_limits w) j fits s f rest has in (c.last, c.whole);
  }

  sound_reads : Within l → (s : Images) → Sound l s → (i : ℕ) → i < N * S → ReadGives l s no_chip i (fetch l s no_chip i).origin (fetch l s no_chip i).bytes
  unfolding read_call
  sound_reads w s f i inside buffer whole = (
    record { reads = (fetch l s no_chip i).reads; programs = 0; erases = 0; stores = 0 },
    rw (read_passes l s no_chip i buffer (record { within = w; named = refl; sound = f; page = inside; whole = whole })),
  )

  -- pages that are fetched alike read alike
  read_as : Within l → (s t : Images) → Sound l s → Sound l t → (i : ℕ) → i < N * S → fetch l t no_chip i ≡ fetch l s no_chip i → ReadsAs l s t i
  read_as w s t f g i inside e = ((fetch l s no_chip i).origin, (fetch l s no_chip i).bytes, sound_reads w s f i inside, rw e at (sound_reads w t g i inside))

  module _ (s : Images) (page : ℕ) (xs : List ℕ) where
    refused_back : ReadsBack l s page xs refused s
    refused_back = record {
      here = λ e. absurd (omega (arith, ap verdict_number e));
      elsewhere = λ e. absurd (omega (arith, ap verdict_number e));
      cut_short = λ e. absurd (omega (arith, ap verdict_number e));
    }

    -- a list that is that of a write
    module _ (o : WriteAccepted l s page xs) (L : Step → Type 0) (list : List Step) (h : Closes l (Carries l) (Wrote l page xs) L list s) where
      cut_back : (a : ℕ) → a < length list → ReadsBack l s page xs cut (apply_all l (made a list) s)
      cut_back a less =
          let c = h.cut a less in
          record {
            here = λ e. absurd (omega (arith, ap verdict_number e));
            elsewhere = λ e. absurd (omega (arith, ap verdict_number e));
            cut_short = λ e i inside.
                read_as o.settled.within s (apply_all l (made a list) s) o.settled.sound c.sound i inside (c.reads (no_copies_at_rest l s o.settled.at_rest) i inside);
          }

      done_back : ReadsBack l s page xs done (apply_all l list s)
      done_back =
          let t = apply_all l list s in
          let w = h.whole in
          record {
            here = λ e. rw w.here at (sound_reads o.settled.within t w.sound page o.page);
            elsewhere = λ e i inside other.
                read_as o.settled.within s t o.settled.sound w.sound i inside (w.elsewhere (no_copies_at_rest l s o.settled.at_rest) i inside other);
            cut_short = λ e. absurd (omega (arith, ap verdict_number e));
          }

    reads_back_by : (L : Step → Type 0) (check : Check) (n : Counts) (a : ℕ) (steps : Images → List Step)
        → (check ≡ Ok tt → WriteAccepted l s page xs × Closes l (Carries l) (Wrote l page xs) L (steps s) s)
        → ReadsBack l s page xs (verdict (outcome l check n a steps s).answer) (outcome l check n a steps s).images
    unfolding run
    reads_back_by L (Ok tt) n a steps h =
        let (o, ends) = h refl in
        by_test (is_cut a (steps s))
        (λ e. rw e (cut_back o L (steps s) ends a (ltb-true a (length (steps s)) e)))
        (λ e. rw (e, take_all a (steps s) (ltb-false a (length (steps s)) e)) (done_back o L (steps s) ends))
    reads_back_by L (Err r) n a steps h = refused_back

  -- from any sound images: a write that is not refused has been given some
  pub reads_back : (s : Images) (lost page : ℕ) (xs : List ℕ) (a : ℕ)
      → ReadsBack l s page xs (verdict (write_call l s lost page xs a).answer) (write_call l s lost page xs a).images
  unfolding write_call
  reads_back s lost page xs a =
      reads_back_by s page xs (StoresRecord (stripe_of l page)) (checked (write_rows l s lost page xs)) no_counts a (write_steps l page xs)
      (λ passed. let o = (write_accepted l s lost page xs passed).1 in (o, write_ends l (in_limits o.settled.within) s page xs o))

  pub adds_back : (s : Images) (lost : ℕ) (ticket : List ℕ) (a t : ℕ) → log_end l (contents l s lost) ≡ Some t
      → ReadsBack l s (falls_in l t) (with_ticket l (contents l s lost) ticket t) (verdict (add_call l s lost ticket a).answer) (add_call l s lost ticket a).images
  unfolding add_call
  adds_back s lost ticket a t end =
      reads_back_by s (falls_in l t) (with_ticket l (contents l s lost) ticket t) (StoresRecord (stripe_of l (falls_in l t))) (checked (add_rows l s lost ticket))
      (reading (log_reads l s lost)) a (add_steps l lost ticket)
      (λ passed.
      let o = add_writes l s lost ticket passed t end in
      (o, add_ends l (in_limits o.settled.within) s lost ticket passed t end))

  pub argument_of : Argument l
  argument_of = record {
    tests = tests_are_statements l;
    soundness = soundness_kept;
    room = λ fit. room_in (within l fit);
    reading_back = reads_back;
    adding_back = adds_back;
    questions = λ fit s lost named sound. (
      λ passed. (find_accepted l s lost passed).1,
      find_passes l s lost (record { within = within l fit; named = named; sound = sound }),
    );
    cut_rule = cut_rules l;
    demand_3 = demand_3 l some narrow;
    origins = origins_told l some narrow;
    origins_say = origins_say l;
    tickets = tickets_kept l some narrow;
    stores = stores_needed l some narrow;
    starts = λ fit s long a enough. format_finishes l s a fit long enough;
  }

-- for every geometry of document 01, whose page numbers take two bytes
pub argument : (g : Geometry) → Argument (layout_of g)
argument g = argument_of (layout_of g) (lit≤ tt) (lit≤ tt)
