-- How long the list of a call can be.
use Prim.Native.Nat.{ℕ, ◌+◌, ◌*◌, ◌≤◌}
use native.Mathlib.Nat.{mul-one}
use native.Mathlib.Omega.{arith}
use mathlib.Core.Bool.{Bool, true, false, cond}
use mathlib.Core.List.{List, [], ◌∷◌}
use lib.ListN.{length, length-append}
use lib.Dec.{eqb}
use Rattle.std.specs.Prelude.{Option, Some, None}
use Rattle.ranges.specs.Look.{count_below, when_found}
use Rattle.ranges.proofs.Looks.{by_test}
use Rattle.layout.specs.Layout.{Layout, page_in}
use Rattle.layout.specs.Rotation.{parity_chip, member_chip, member_of, stripe_of}
use Rattle.layout.specs.Page.{page_at}
use Rattle.layout.specs.Record.{record_at}
use Rattle.layout.specs.Collection.{Collection, collection_at}
use Rattle.layout.specs.Images.{Images}
use Rattle.steps.specs.Store.{program}
use Rattle.steps.specs.Steps.{Step, plain, apply_all, and_then, then_below}
use Rattle.steps.proofs.Lengths.{length_below, length_then_below}
use Rattle.rules.specs.Format.{erase_chip, erase_block, empty_stripe, format_steps}
use Rattle.rules.specs.Blocks.{named_in, lowest_clean_block}
use Rattle.rules.specs.Fetch.{fed}
use Rattle.rules.specs.Collect.{copy_of, copy_from, copy_steps, copy_feed, victim_of, collect_block, collect_steps}
use Rattle.rules.specs.Place.{place_of}
use Rattle.rules.specs.Room.{room_steps, at_place, placed}
use Rattle.rules.specs.Costs.{cheapest}
use Rattle.rules.specs.Parity.{commit_at}
use Rattle.rules.specs.Commit.{commit_steps}
use Rattle.rules.specs.Partial.{data_page, lowest_free_slot, slot_stores, slot_steps, write_at}
use Rattle.rules.specs.Write.{commit_owed, owed_steps, write_member, write_steps}
use Rattle.rules.specs.Log.{falls_in, log_end, with_ticket, contents, add_steps}
use Rattle.rules.specs.Open.{due, move_step, move_from, move_steps, ending, finish_of, finish_steps}

at_most_one : (b : Bool) (x : Step) → length (cond b (x ∷ []) []) ≤ 1
at_most_one true x = omega arith
at_most_one false x = omega arith

-- what is found and what is not make lists of at most n steps
found_length : (x : Option ℕ) (n : ℕ) (f : ℕ → List Step) (other : List Step) → ((i : ℕ) → length (f i) ≤ n) → length other ≤ n → length (when_found x f other) ≤ n
unfolding when_found
found_length (Some i) n f other h rest = h i
found_length None n f other h rest = rest

module _ (l : Layout) where
  open l use {N, K, B, S}

  -- a format: each block, each record, phase 0
  pub format_length : length (format_steps l) ≤ (N + 1) * B + S + 1
  unfolding format_steps
  format_length =
      let blocks = length_below B (N + 1) (erase_chip l) (λ c low. rw mul-one at (length_below 1 B (erase_block c) (λ b h. omega arith))) in
      let stripes = rw mul-one at (length_below 1 S (empty_stripe l) (λ j h. omega arith)) in
      rw (length-append, length-append) (omega arith)

  move_length : (co : Collection) (i : ℕ) (s : Images) → length (move_steps l co i s) ≤ 1
  unfolding move_steps move_from
  move_length co i s =
      let x = page_at l s.chips co.chip in
      let r = record_at l s.records in
      at_most_one (due l co x r (page_in l co.destination i)) (move_step l co x r (page_in l co.destination i))

  finish_of_lem : (s : Images) (co : Collection) (one two : Bool)
      → length (cond one (ending co.chip co.destination) (cond two (and_then l (then_below l K (move_steps l co) s) (λ t. ending co.chip co.victim) s) [])) ≤ K + 2
  unfolding and_then
  finish_of_lem s co true two = omega arith
  finish_of_lem s co false true =
      let moves = rw mul-one at (length_then_below l 1 K (move_steps l co) s (move_length co)) in rw length-append (omega arith)
  finish_of_lem s co false false = omega arith

  -- the end of a collection: each place of the destination, an erase, phase 0
  pub finish_length : (s : Images) → length (finish_steps l s) ≤ K + 2
  unfolding finish_steps finish_of
  finish_length s =
      let co = collection_at l s.records in
      finish_of_lem s co (eqb co.phase 1) (eqb co.phase 2)

  copy_length : (c v d i : ℕ) (s : Images) → length (copy_from l c (page_at l s.chips c) (copy_feed l c s) (record_at l s.records) v d i) ≤ 1
  unfolding copy_from
  copy_length c v d i s =
      let x = page_at l s.chips c in
      let r = record_at l s.records in
      at_most_one (named_in l r c v i)
      (fed (copy_feed l c s (page_in l v i)) (λ xs. program c (page_in l d (count_below i (named_in l r c v))) (copy_of l (page_in l v i) (x (page_in l v i)) xs)))

  collect_of : (c v : ℕ) (s : Images) (destination : Option ℕ)
      → length (when_found destination (λ d. and_then l (copy_steps l c (page_at l s.chips c) (copy_feed l c s) (record_at l s.records) v d) (finish_steps l) s) []) ≤ 2 * K + 4
  unfolding when_found and_then copy_steps
  collect_of c v s (Some d) =
      let x = page_at l s.chips c in
      let r = record_at l s.records in
      let copies = rw mul-one at (length_below 1 K (copy_from l c x (copy_feed l c s) r v d) (λ i low. copy_length c v d i s)) in
      let rest = finish_length (apply_all l (copy_steps l c x (copy_feed l c s) r v d) s) in
      rw (length-append, length-append) (omega arith)
  collect_of c v s None = omega arith

  -- the collection of a block: phase 1, each of its places, phase 2, and its end
  block_length : (c v : ℕ) (s : Images) → length (collect_block l c v s) ≤ 2 * K + 4
  unfolding collect_block
  block_length c v s = collect_of c v s (lowest_clean_block l (page_at l s.chips c))

  -- and of a chip
  pub collect_length : (c : ℕ) (s : Images) → length (collect_steps l c s) ≤ 2 * K + 4
  unfolding collect_steps
  collect_length c s =
      found_length (victim_of l c (page_at l s.chips c) (record_at l s.records)) (2 * K + 4) (λ v. collect_block l c v s) [] (λ v. block_length c v s) (omega arith)

  -- a list at a place, with the collection that it may need
  placed_length : (c k : ℕ) (f : ℕ → Images → List Step) (s : Images) → ((p : ℕ) (t : Images) → length (f p t) ≤ k) → length (placed l c f s) ≤ 2 * K + 4 + k
  unfolding placed and_then room_steps at_place
  placed_length c k f s h =
      let t = apply_all l (room_steps l c s) s in
      let room = found_length (place_of l (page_at l s.chips c)) (2 * K + 4) (λ p. []) (collect_steps l c s) (λ p. omega arith) (collect_length c s) in
      let last = found_length (place_of l (page_at l t.chips c)) k (λ p. f p t) [] (λ p. h p t) (omega arith) in
      rw length-append (omega arith)

  -- a commit: a place, its program and its record
  pub commit_length : (j : ℕ) (s : Images) → length (commit_steps l j s) ≤ 2 * K + 6
  unfolding commit_steps commit_at
  commit_length j s =
      let all = placed_length (parity_chip l j) 2 (commit_at l j) s (λ p t. omega arith) in
      omega arith

  owed_length : (j : ℕ) (s : Images) → length (owed_steps l j s) ≤ 2 * K + 6
  unfolding owed_steps
  owed_length j s =
      let r = record_at l s.records in
      by_test (commit_owed l r j)
      (λ e. rw e (found_length (cheapest l r) (2 * K + 6) (λ k. commit_steps l k s) [] (λ k. commit_length k s) (omega arith)))
      (λ e. rw e (omega arith))

  write_at_length : (j m : ℕ) (xs : List ℕ) (p : ℕ) (s : Images) → length (write_at l j m xs p s) ≤ 3
  unfolding write_at and_then slot_steps
  write_at_length j m xs p s =
      let t = apply_all l (plain (program (member_chip l j m) p (data_page l j m xs)) ∷ []) s in
      let r = record_at l t.records in
      let last = found_length (lowest_free_slot l r) 2 (slot_stores l j m xs p t (r j)) [] (λ i. omega arith) (omega arith) in
      rw length-append (omega arith)

  -- a write: the commit that may be owed, a place, its program, its slot, its record
  pub write_length : (page : ℕ) (xs : List ℕ) (s : Images) → length (write_steps l page xs s) ≤ 4 * K + 13
  unfolding write_steps write_member and_then
  write_length page xs s =
      let j = stripe_of l page in
      let m = member_of l page in
      let t = apply_all l (owed_steps l j s) s in
      let first = owed_length j s in
      let last = placed_length (member_chip l j m) 3 (write_at l j m xs) t (write_at_length j m xs) in
      rw length-append (omega arith)

  -- an addition makes no more stores than a write
  pub add_length : (lost : ℕ) (ticket : List ℕ) (s : Images) → length (add_steps l lost ticket s) ≤ 4 * K + 13
  unfolding add_steps
  add_length lost ticket s =
      found_length (log_end l (contents l s lost)) (4 * K + 13) (λ t. write_steps l (falls_in l t) (with_ticket l (contents l s lost) ticket t) s) []
      (λ t. write_length (falls_in l t) (with_ticket l (contents l s lost) ticket t) s) (omega arith)
