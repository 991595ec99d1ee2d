-- "no write from sound images ever needs more than 4 × K + 9 stores, no commit more than 2 × K + 4, and no collection more than 2 × K + 2":
-- what a collection needs is known once its copies are made, and what a write needs once the commit that it may owe is.
use Prim.Native.Nat.{ℕ, ◌+◌, ◌*◌, ◌≤◌, ◌<◌}
use native.Mathlib.Nat.{le_of_lt}
use native.Mathlib.Omega.{arith}
use mathlib.Core.Path.{◌≡◌, refl, ap}
use mathlib.Core.Logic.{◌≢◌}
use mathlib.Core.Bool.{true}
use mathlib.Core.List.{List, []}
use lib.ListN.{length, length-append}
use Rattle.ranges.specs.Look.{when_found}
use Rattle.ranges.proofs.Looks.{by_test}
use Rattle.layout.specs.Layout.{Layout}
use Rattle.layout.specs.Rotation.{parity_chip, member_chip, member_of, stripe_of}
use Rattle.layout.specs.Page.{Page, page_at}
use Rattle.layout.specs.Record.{Record, record_at}
use Rattle.layout.specs.Collection.{Collection, collection_at}
use Rattle.layout.specs.Images.{Images}
use Rattle.layout.proofs.Rotations.{parity_chip_fits, page_chip_fits}
use Rattle.steps.specs.declared.Counts.{Counts}
use Rattle.steps.specs.Steps.{Step, apply_all, and_then}
use Rattle.steps.proofs.Prefixes.{every_whole}
use Rattle.rules.specs.Refusals.{Check, checked, write_rows, commit_rows, collect_rows, add_rows}
use Rattle.std.specs.Prelude.{Ok, Err}
use Rattle.rules.specs.Open.{finish_steps}
use Rattle.rules.specs.Collect.{copy_steps, copy_feed, collectable, named_count, victim_of, collect_block, collect_steps}
use Rattle.rules.specs.Place.{place_of}
use Rattle.rules.specs.Room.{room_steps, at_place, placed}
use Rattle.rules.specs.Costs.{cheapest}
use Rattle.rules.specs.Parity.{commit_at}
use Rattle.rules.specs.Commit.{commit_steps}
use Rattle.rules.specs.Partial.{write_at}
use Rattle.rules.specs.Write.{commit_owed, owed_steps, write_member, write_steps}
use Rattle.rules.specs.Log.{log_end, contents, add_steps}
use Rattle.rules.specs.Calls.{Call, open_call_lem, write_call_lem, commit_call_lem, collect_call_lem, add_call_lem, query_call, done, refused, verdict, query_verdict, Outcome, query_rows, ended}
use Rattle.rules.specs.Capacitor.{allowance_of, write_needs, commit_needs, collect_needs, needs, StoresNeeded}
use Rattle.rules.proofs.Soundness.Statements.{Usable, usable, Sound}
use Rattle.rules.proofs.Soundness.Table.{by_check}
use Rattle.rules.proofs.Soundness.Accepted.{write_accepted, add_accepted, commit_accepted, collect_accepted}
use Rattle.rules.proofs.Stores.Kept.{Kept}
use Rattle.rules.proofs.Data.Carries.{Carries}
use Rattle.rules.proofs.Space.Room.{victim_spares}
use Rattle.rules.proofs.Lists.Needed.{found_length, format_length, open_length, commit_at_length, write_at_length, copies_length, finish_length}
use Rattle.rules.proofs.Lists.CutRule.{CutRule, CutRules, cut_rules}
use Rattle.rules.proofs.Lists.Copying.{Chosen, AllCopied, copies_lead}
use Rattle.rules.proofs.Lists.Collecting.{destination, chosen_on, victim_collectable}
use Rattle.rules.proofs.Lists.Finish.{moves_lead_to}
use Rattle.rules.proofs.Lists.Writing.{owed_leads}

module _ (l : Layout) (u : Usable l) where
  open l use {N, K, B}

  module _ (s : Images) (f : Sound l s) (rest : (collection_at l s.records).phase ≡ 0) where
    module _ (c : ℕ) (chip : c < N + 1) where
      abbrev r : ℕ → Record
      r = record_at l s.records

      abbrev x : ℕ → Page
      x = page_at l s.chips c

      -- the copies are made on images t: as many moves as copies, at most
      ends_in : (v d : ℕ) (t : Images) → Sound l t → Chosen l s c v d → AllCopied l s c v d t → length (finish_steps l t) ≤ named_count l c x r v + 2
      unfolding finish_steps named_count
      ends_in v d t g o a =
          let busy : (collection_at l t.records).phase ≡ 2 = ap (λ (co : Collection). co.phase) a.collection in
          finish_length l (collection_at l t.records) t (named_count l c x r v) (rw a.collection a.full) (rw a.collection a.ahead)
          (λ i place. (moves_lead_to l u t g busy i (le_of_lt place)).ends.chips) (le_of_lt o.fewer) busy

      -- the collection of a block: two stores for each named page, a copy and a move, and four more
      block_needs : (v : ℕ) → v < B → collectable l c x r v ≡ true → length (collect_block l c v s) ≤ 2 * named_count l c x r v + 4
      unfolding collect_block when_found and_then
      block_needs v block can =
          let (d, clean) = destination l u s f rest c chip in
          let o = chosen_on l u s f rest c chip v d block can clean in
          let copies = copy_steps l c x (copy_feed l c s) r v d in
          let led = copies_lead l u s f c v d o in
          let last = ends_in v d (apply_all l copies s) (every_whole l (Kept l s) copies s led.along).sound o led.ends in
          rw (clean, length-append) (omega (arith, copies_length l c x (copy_feed l c s) r v d, last))

      -- of a chip: its victim has a page that is not named
      collect_most : length (collect_steps l c s) ≤ collect_needs l
      unfolding collect_steps
      collect_most =
          found_length (victim_of l c x r) (collect_needs l) (λ v. collect_block l c v s) []
          (λ v victim.
          let (block, can) = victim_collectable l c x r v victim in
          omega (arith, block_needs v block can, victim_spares l u.within r x c v can))
          (λ none. omega arith)

      -- the room that is made for a page
      room_most : length (room_steps l c s) ≤ collect_needs l
      unfolding room_steps
      room_most = found_length (place_of l x) (collect_needs l) (λ p. []) (collect_steps l c s) (λ p e. omega arith) (λ e. collect_most)

      -- a list at a place, with the collection that it may need
      placed_most : (k : ℕ) (fill : ℕ → Images → List Step) → ((p : ℕ) (t : Images) → length (fill p t) ≤ k) → length (placed l c fill s) ≤ collect_needs l + k
      unfolding placed and_then at_place
      placed_most k fill h =
          let t = apply_all l (room_steps l c s) s in
          let last = found_length (place_of l (page_at l t.chips c)) k (λ p. fill p t) [] (λ p e. h p t) (λ e. omega arith) in
          rw length-append (omega (arith, room_most, last))

    commit_most : (j : ℕ) → length (commit_steps l j s) ≤ commit_needs l
    unfolding commit_steps
    commit_most j = let all = placed_most (parity_chip l j) (parity_chip_fits l j) 2 (commit_at l j) (commit_at_length l j) in omega (arith, all)

    -- the commit that a write may owe
    owed_most : (j : ℕ) → length (owed_steps l j s) ≤ commit_needs l
    unfolding owed_steps
    owed_most j =
        let r = record_at l s.records in
        by_test (commit_owed l r j)
        (λ e. rw e (found_length (cheapest l r) (commit_needs l) (λ k. commit_steps l k s) [] (λ k found. commit_most k) (λ none. omega arith)))
        (λ e. rw e (omega arith))

  -- after it the images are sound and at rest again
  write_most : (s : Images) → Sound l s → (collection_at l s.records).phase ≡ 0 → (page : ℕ) (xs : List ℕ) → length (write_steps l page xs s) ≤ write_needs l
  unfolding write_steps write_member and_then
  write_most s f rest page xs =
      let j = stripe_of l page in
      let m = member_of l page in
      let t = apply_all l (owed_steps l j s) s in
      let owed = owed_leads l u j s f rest in
      let carried : Carries l s t = every_whole l (Carries l s) (owed_steps l j s) s owed.along in
      let last = placed_most t carried.sound owed.ends.rest (member_chip l j m) (page_chip_fits l u.within page) 3 (write_at l j m xs) (write_at_length l j m xs) in
      rw length-append (omega (arith, owed_most s f rest j, last))

-- a call that is not refused, and is allowed as many stores as its list has, is done
enough_done : (l : Layout) (check : Check) (n : Counts) (a : ℕ) (xs : List Step) (s : Images) (o : Outcome) → CutRule l check n a xs s o → (check ≡ Ok tt → length xs ≤ a)
    → verdict o.answer ≢ refused → verdict o.answer ≡ done
enough_done l check n a xs s o rule allowed taken = by_check check
    (λ e. ap (λ (x : Outcome). verdict x.answer) (rule.finishing e (allowed e)))
    (λ r e. absurd (taken (ap (λ (x : Outcome). verdict x.answer) (rule.refusing r e))))

module _ (l : Layout) (some : 1 ≤ l.D) (narrow : l.D ≤ 4) where
  write_short : (s : Images) (lost page : ℕ) (xs : List ℕ) → checked (write_rows l s lost page xs) ≡ Ok tt → length (write_steps l page xs s) ≤ write_needs l
  write_short s lost page xs passed =
      let o = (write_accepted l s lost page xs passed).1.settled in write_most l (usable l some narrow o.within) s o.sound o.at_rest page xs

  commit_short : (s : Images) (lost j : ℕ) → checked (commit_rows l s lost j) ≡ Ok tt → length (commit_steps l j s) ≤ commit_needs l
  commit_short s lost j passed =
      let o = (commit_accepted l s lost j passed).1.settled in commit_most l (usable l some narrow o.within) s o.sound o.at_rest j

  collect_short : (s : Images) (lost c : ℕ) → checked (collect_rows l s lost c) ≡ Ok tt → length (collect_steps l c s) ≤ collect_needs l
  collect_short s lost c passed =
      let h = (collect_accepted l s lost c passed).1 in
      let o = h.settled in
      collect_most l (usable l some narrow o.within) s o.sound o.at_rest c h.chip

  -- an addition is a write of the page that it falls in
  add_short : (s : Images) (lost : ℕ) (ticket : List ℕ) → checked (add_rows l s lost ticket) ≡ Ok tt → length (add_steps l lost ticket s) ≤ write_needs l
  unfolding add_steps
  add_short s lost ticket passed =
      let o = (add_accepted l s lost ticket passed).1.settled in
      found_length (log_end l (contents l s lost)) (write_needs l) _ _ (λ t end. write_most l (usable l some narrow o.within) s o.sound o.at_rest _ _) (λ none. omega arith)

  abbrev rules : CutRules l
  rules = cut_rules l

  query_enough : (check : Check) → query_verdict check ≢ refused → query_verdict check ≡ done
  query_enough (Ok tt) taken = refl
  query_enough (Err r) taken = absurd (taken refl)

  enough : (call : Call) (s : Images) → needs l call ≤ allowance_of call → (ended l call s).verdict ≢ refused → (ended l call s).verdict ≡ done
  unfolding needs ended
  enough (open_call_lem lost a) s = λ allowed. enough_done l _ _ a _ s _ (rules.open_call_lem s lost a) (λ e. omega (arith, allowed, open_length l lost s))
  enough (write_call_lem lost page xs a) s = λ allowed. enough_done l _ _ a _ s _ (rules.write s lost page xs a) (λ e. omega (arith, allowed, write_short s lost page xs e))
  enough (commit_call_lem lost j a) s = λ allowed. enough_done l _ _ a _ s _ (rules.commit s lost j a) (λ e. omega (arith, allowed, commit_short s lost j e))
  enough (collect_call_lem lost c a) s = λ allowed. enough_done l _ _ a _ s _ (rules.collect s lost c a) (λ e. omega (arith, allowed, collect_short s lost c e))
  enough (add_call_lem lost ticket a) s = λ allowed. enough_done l _ _ a _ s _ (rules.add s lost ticket a) (λ e. omega (arith, allowed, add_short s lost ticket e))
  enough (query_call q) s = λ allowed. query_enough (checked (query_rows l q s))

  pub stores_needed : StoresNeeded l
  stores_needed = record {
    write = write_short;
    commit = commit_short;
    collect = collect_short;
    add = add_short;
    open_call_lem = λ s lost. open_length l lost s;
    format = format_length l;
    enough = enough;
  }
