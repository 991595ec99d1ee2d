-- What a call that passes its checks may rely on; and of reading, finding, writing and adding, that nothing more is asked.
use Prim.Native.Nat.{ℕ, ◌+◌, ◌*◌, ◌<◌}
use native.Mathlib.Omega.{arith}
use mathlib.Core.Path.{◌≡◌, refl, ◌∙◌}
use mathlib.Core.Logic.{◌≢◌}
use mathlib.Core.Bool.{true}
use mathlib.Core.List.{List, ◌++◌}
use lib.ListN.{length}
use lib.Dec.{eqb}
use borrow.Author.Tests.{ltb-true, leb-true, eqb-true, lt-ltb, eq-eqb}
use Rattle.std.specs.Prelude.{Some, Ok, Err}
use Rattle.ranges.specs.Look.{when_found}
use Rattle.ranges.proofs.Looks.{when_found_lem}
use Rattle.layout.specs.Layout.{Layout, no_chip, limits}
use Rattle.layout.specs.Page.{page_at}
use Rattle.layout.specs.Record.{has_slot, record_at}
use Rattle.layout.specs.Collection.{collection_at}
use Rattle.layout.specs.Images.{Images, lengths}
use Rattle.layout.proofs.Limits.{Within, limited, within as in_limits}
use Rattle.rules.specs.Collect.{victim_of}
use Rattle.rules.specs.declared.Refusal.{Refusal}
use Rattle.rules.specs.Tickets.{ticket_bytes, ticket_of, ticket_sound}
use Rattle.rules.specs.Log.{contents, log_end, log_sound, log_open}
use Rattle.rules.specs.Refusals.{Row, checked, lost_named, buffers_rows, images_rows, settled_rows, read_rows, write_rows, commit_rows, collect_rows, find_rows, add_rows}
use Rattle.rules.proofs.Soundness.Statements.{SoundBut, Sound}
use Rattle.rules.proofs.Soundness.Table.{by_check, AllPass, rows_passed, rows_pass, below_passed, both_passed}
use Rattle.rules.proofs.Soundness.Checks.{images_sound, lengths_pass, records_check_pass, spares_check_pass}
use Rattle.rules.specs.Sound.{is_lost}

module _ (l : Layout) where
  open l use {N, W, S}

  pub record OpenAccepted (s : Images) (lost : ℕ) : Type 0 where
    pub within : Within l
    pub named : lost_named l lost ≡ true
    pub sound : SoundBut l (is_lost lost) s

  pub record ReadAccepted (s : Images) (lost i : ℕ) (buffer : List ℕ) : Type 0 where
    pub within : Within l
    pub named : lost_named l lost ≡ true
    pub sound : SoundBut l (is_lost lost) s
    pub page : i < N * S
    pub whole : length buffer ≡ W

  -- what write, add, commit and collect rely on alike: no chip is lost, and no collection is under way
  pub record Settled (s : Images) : Type 0 where
    pub within : Within l
    pub sound : Sound l s
    pub at_rest : (collection_at l s.records).phase ≡ 0

  pub record WriteAccepted (s : Images) (i : ℕ) (xs : List ℕ) : Type 0 where
    pub settled : Settled s
    pub page : i < N * S
    pub whole : length xs ≡ W

  -- what the rows of an addition ask of its ticket and of the log
  pub record AddAccepted (s : Images) (ticket : List ℕ) : Type 0 where
    pub settled : Settled s
    pub whole : length ticket ≡ ticket_bytes
    pub sound : ticket_sound (ticket_of ticket) ≡ true
    pub log : log_sound l (contents l s no_chip) ≡ true
    pub end : (t : ℕ) × (log_end l (contents l s no_chip) ≡ Some t)

  pub record CommitAccepted (s : Images) (j : ℕ) : Type 0 where
    pub settled : Settled s
    pub stripe : j < S
    pub slot : has_slot (record_at l s.records j) ≡ true

  pub record CollectAccepted (s : Images) (c : ℕ) : Type 0 where
    pub settled : Settled s
    pub chip : c < N + 1
    pub victim : (b : ℕ) × (victim_of l c (page_at l s.chips c) (record_at l s.records) ≡ Some b)

  -- rows 1 and 2
  pub buffers_accepted : (s : Images) → checked (buffers_rows l s) ≡ Ok tt → (limits l ≡ true) × (lengths l s ≡ true)
  unfolding buffers_rows
  buffers_accepted s e = let h = rows_passed (buffers_rows l s) e in (h.0, h.1.0)

  pub buffers_pass : (s : Images) → limits l ≡ true → lengths l s ≡ true → checked (buffers_rows l s) ≡ Ok tt
  unfolding buffers_rows
  buffers_pass s fit long = rows_pass (buffers_rows l s) (fit, (long, tt))

  -- rows 1 to 5: open has no more
  pub images_accepted : (s : Images) (lost : ℕ) → checked (images_rows l s lost) ≡ Ok tt → OpenAccepted s lost
  unfolding images_rows buffers_rows
  images_accepted s lost e =
      let h = rows_passed (images_rows l s lost) e in
      record {
        within = in_limits l h.0;
        named = h.1.1.0;
        sound = images_sound l s (is_lost lost) h.1.0 h.1.1.1.0 h.1.1.1.1.0;
      }

  images_pass : (s : Images) (lost : ℕ) → OpenAccepted s lost → checked (images_rows l s lost) ≡ Ok tt
  unfolding images_rows buffers_rows
  images_pass s lost h =
      rows_pass (images_rows l s lost)
      (limited l h.within, (lengths_pass l s (is_lost lost) h.sound, (h.named, (records_check_pass l s (is_lost lost) h.sound, (spares_check_pass l s (is_lost lost) h.sound, tt)))))

  -- the rows of a call below rows 1 to 5
  images_then : (s : Images) (lost : ℕ) (more : List Row) → checked (images_rows l s lost ++ more) ≡ Ok tt → OpenAccepted s lost × AllPass more
  images_then s lost more e =
      let (above, below) = both_passed (images_rows l s lost) more e in
      (images_accepted s lost above, rows_passed more below)

  images_and : (s : Images) (lost : ℕ) (more : List Row) → OpenAccepted s lost → AllPass more → checked (images_rows l s lost ++ more) ≡ Ok tt
  images_and s lost more h a = below_passed (images_rows l s lost) more (images_pass s lost h) ∙ rows_pass more a

  -- read
  pub read_passes : (s : Images) (lost page : ℕ) (buffer : List ℕ) → ReadAccepted s lost page buffer → checked (read_rows l s lost page buffer) ≡ Ok tt
  unfolding read_rows
  read_passes s lost page buffer h =
      images_and s lost _ (record { within = h.within; named = h.named; sound = h.sound })
      (lt-ltb page (N * S) h.page, (eq-eqb (length buffer) W h.whole, tt))

  -- find
  pub find_accepted : (s : Images) (lost : ℕ) → checked (find_rows l s lost) ≡ Ok tt → OpenAccepted s lost × (log_sound l (contents l s lost) ≡ true)
  unfolding find_rows
  find_accepted s lost e = let (o, h) = images_then s lost _ e in (o, h.0)

  pub find_passes : (s : Images) (lost : ℕ) → OpenAccepted s lost → log_sound l (contents l s lost) ≡ true → checked (find_rows l s lost) ≡ Ok tt
  unfolding find_rows
  find_passes s lost h sound = images_and s lost _ h (sound, tt)

  -- rows 1 to 6, with no chip lost
  pub settled_accepted : (s : Images) (lost : ℕ) → checked (settled_rows l s lost) ≡ Ok tt → lost ≡ no_chip → Settled s
  unfolding settled_rows
  settled_accepted s lost e none_lost =
      let (o, h) = images_then s lost _ e in
      record {
        within = o.within;
        sound = rw none_lost at o.sound;
        at_rest = eqb-true (collection_at l s.records).phase 0 h.0;
      }

  settled_pass : (s : Images) → Settled s → checked (settled_rows l s no_chip) ≡ Ok tt
  unfolding settled_rows
  settled_pass s h =
      images_and s no_chip _ (record { within = h.within; named = refl; sound = h.sound })
      (eq-eqb (collection_at l s.records).phase 0 h.at_rest, tt)

  -- the rows of a call below rows 1 to 6, in two parts, one of which says that no chip is lost
  settled_then : (s : Images) (lost : ℕ) (first more : List Row) → checked ((settled_rows l s lost ++ first) ++ more) ≡ Ok tt
      → (AllPass first → AllPass more → eqb lost no_chip ≡ true) → (lost ≡ no_chip) × Settled s × AllPass first × AllPass more
  settled_then s lost first more e whole =
      let (above, rest) = both_passed (settled_rows l s lost ++ first) more e in
      let (top, mid) = both_passed (settled_rows l s lost) first above in
      let a = rows_passed first mid in
      let b = rows_passed more rest in
      let none_lost = eqb-true lost no_chip (whole a b) in
      (none_lost, settled_accepted s lost top none_lost, a, b)

  settled_and : (s : Images) (first more : List Row) → Settled s → AllPass first → AllPass more → checked ((settled_rows l s no_chip ++ first) ++ more) ≡ Ok tt
  settled_and s first more h a b =
      below_passed (settled_rows l s no_chip ++ first) more (below_passed (settled_rows l s no_chip) first (settled_pass s h) ∙ rows_pass first a)
      ∙ rows_pass more b

  -- write
  pub write_accepted : (s : Images) (lost page : ℕ) (xs : List ℕ) → checked (write_rows l s lost page xs) ≡ Ok tt → (lost ≡ no_chip) × WriteAccepted s page xs
  unfolding write_rows
  write_accepted s lost page xs e =
      let (none_lost, settled, h, _) = settled_then s lost _ _ e (λ a b. b.0) in
      (none_lost, record { settled = settled; page = ltb-true page (N * S) h.0; whole = eqb-true (length xs) W h.1.0 })

  pub write_passes : (s : Images) (page : ℕ) (xs : List ℕ) → WriteAccepted s page xs → checked (write_rows l s no_chip page xs) ≡ Ok tt
  unfolding write_rows
  write_passes s page xs h =
      settled_and s _ _ h.settled (lt-ltb page (N * S) h.page, (eq-eqb (length xs) W h.whole, tt)) (refl, tt)

  -- add
  pub add_accepted : (s : Images) (lost : ℕ) (ticket : List ℕ) → checked (add_rows l s lost ticket) ≡ Ok tt → (lost ≡ no_chip) × AddAccepted s ticket
  unfolding add_rows log_open
  add_accepted s lost ticket e =
      let (none_lost, settled, h, log) = settled_then s lost _ _ e (λ a b. a.1.0) in (
        none_lost,
        record {
          settled = settled;
          whole = eqb-true (length ticket) ticket_bytes h.0;
          sound = log.0;
          log = rw none_lost at log.1.0;
          end = when_found_lem (log_end l (contents l s no_chip)) (rw none_lost at log.1.1.0);
        },
      )

  pub add_passes : (s : Images) (ticket : List ℕ) → AddAccepted s ticket → checked (add_rows l s no_chip ticket) ≡ Ok tt
  unfolding add_rows log_open when_found
  add_passes s ticket h =
      settled_and s _ _ h.settled (eq-eqb (length ticket) ticket_bytes h.whole, (refl, tt)) (h.sound, (h.log, (rw h.end.1, tt)))

  -- commit
  pub commit_accepted : (s : Images) (lost j : ℕ) → checked (commit_rows l s lost j) ≡ Ok tt → (lost ≡ no_chip) × CommitAccepted s j
  unfolding commit_rows
  commit_accepted s lost j e =
      let (none_lost, settled, h, work) = settled_then s lost _ _ e (λ a b. a.1.0) in
      (none_lost, record { settled = settled; stripe = ltb-true j S h.0; slot = work.0 })

  -- collect
  pub collect_accepted : (s : Images) (lost c : ℕ) → checked (collect_rows l s lost c) ≡ Ok tt → (lost ≡ no_chip) × CollectAccepted s c
  unfolding collect_rows
  collect_accepted s lost c e =
      let (none_lost, settled, h, work) = settled_then s lost _ _ e (λ a b. a.1.0) in (
        none_lost,
        record {
          settled = settled;
          chip = omega (arith, leb-true c N h.0);
          victim = when_found_lem (victim_of l c (page_at l s.chips c) (record_at l s.records)) work.0;
        },
      )

-- with a chip named, a call whose rows ask for none is refused
pub lost_refused : (lost : ℕ) (rows : List Row) → lost ≢ no_chip → (checked rows ≡ Ok tt → lost ≡ no_chip) → (r : Refusal) × (checked rows ≡ Err r)
lost_refused lost rows d accepted = by_check (checked rows) (λ e. absurd (d (accepted e))) (λ r e. (r, e))
