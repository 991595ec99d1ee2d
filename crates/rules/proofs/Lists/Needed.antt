-- How long lists and their parts are, by the definitions alone.
use Prim.Native.Nat.{ℕ, ◌+◌, ◌≤◌, ◌<◌}
use native.Mathlib.Nat.{mul-one}
use native.Mathlib.Omega.{arith}
use mathlib.Core.Path.{◌≡◌, refl, ap, ◌∙◌}
use mathlib.Core.Bool.{Bool, true, false, cond}
use mathlib.Core.List.{List, [], ◌∷◌}
use lib.ListN.{length, length-append}
use lib.Dec.{eqb}
use borrow.Author.Tests.{eq-eqb, ne_eqb}
use Rattle.std.specs.Prelude.{Option, Some, None}
use Rattle.ranges.specs.Look.{count_below, when_found}
use Rattle.ranges.proofs.Looks.{by_test, both}
use Rattle.ranges.proofs.Tallies.{ones}
use Rattle.layout.specs.Layout.{Layout, no_chip, page_in}
use Rattle.layout.specs.Rotation.{member_chip}
use Rattle.layout.specs.Page.{Page, is_clean_kind, clean, page_at}
use Rattle.layout.specs.Record.{Record, record_at}
use Rattle.layout.specs.Collection.{Collection, collection_at}
use Rattle.layout.specs.Images.{Images}
use Rattle.layout.proofs.Pages.{place_in}
use Rattle.steps.specs.Store.{program}
use Rattle.steps.specs.Steps.{Step, plain, apply_all, and_then, then_below}
use Rattle.steps.proofs.Lengths.{length_alike, length_counted, length_then_below, then_below_ends}
use Rattle.rules.specs.Blocks.{clean_in, named_in}
use Rattle.rules.specs.Fetch.{Feed, fed}
use Rattle.rules.specs.Format.{erase_chip, erase_block, empty_stripe, format_steps}
use Rattle.rules.specs.Open.{due, move_from, move_steps, finish_of, finish_steps, open_steps}
use Rattle.rules.specs.Collect.{copy_of, copy_from, copy_steps, named_count}
use Rattle.rules.specs.Parity.{commit_at}
use Rattle.rules.specs.Partial.{data_page, lowest_free_slot, slot_stores, slot_steps, write_at}
use Rattle.rules.specs.Capacitor.{format_needs, open_needs}
use Rattle.rules.proofs.Stores.Twins.{twin_is, due_is}

-- one step where a test passes, and none else
one_step : (b : Bool) (x : Step) → length (cond b (x ∷ []) []) ≡ ones b
one_step true x = refl
one_step false x = refl

-- what is found and what is not make lists of at most n steps
pub found_length : (x : Option ℕ) (n : ℕ) (f : ℕ → List Step) (other : List Step) → ((i : ℕ) → x ≡ Some i → length (f i) ≤ n) → (x ≡ None → length other ≤ n)
    → length (when_found x f other) ≤ n
unfolding when_found
found_length (Some i) n f other h rest = h i refl
found_length None n f other h rest = rest refl

module _ (l : Layout) where
  open l use {N, K, B, S}

  -- a format: each block, each record, phase 0
  pub format_length : length (format_steps l) ≡ format_needs l
  unfolding format_steps
  format_length =
      let blocks = length_alike B (N + 1) (erase_chip l) (λ c. length_alike 1 B (erase_block c) (λ b. refl) ∙ mul-one B) in
      let stripes = length_alike 1 S (empty_stripe l) (λ j. refl) in
      rw (length-append, length-append) (omega (arith, blocks, stripes))

  -- a commit at its place: its program and its record
  pub commit_at_length : (j p : ℕ) (s : Images) → length (commit_at l j p s) ≤ 2
  unfolding commit_at
  commit_at_length j p s = omega arith

  -- a write at its place: its program, its slot, its record
  pub write_at_length : (j m : ℕ) (xs : List ℕ) (p : ℕ) (s : Images) → length (write_at l j m xs p s) ≤ 3
  unfolding write_at and_then slot_steps
  write_at_length j m xs p s =
      let t = apply_all l (plain (program (member_chip l j m) p (data_page l j m xs)) ∷ []) s in
      let r = record_at l t.records in
      let last = found_length (lowest_free_slot l r) 2 (slot_stores l j m xs p t (r j)) [] (λ i e. omega arith) (λ e. omega arith) in
      rw length-append (omega (arith, last))

  -- the first half of a collection: phase 1, a copy of each named page, phase 2
  pub copies_length : (c : ℕ) (x : ℕ → Page) (page : ℕ → Feed) (r : ℕ → Record) (v d : ℕ) → length (copy_steps l c x page r v d) ≡ named_count l c x r v + 2
  unfolding copy_steps copy_from named_count
  copies_length c x page r v d =
      let copies =
      length_counted K (named_in l r c v) (copy_from l c x page r v d)
      (λ i. one_step (named_in l r c v i) (fed (page (page_in l v i)) (λ xs. program c (page_in l d (count_below i (named_in l r c v))) (copy_of l (page_in l v i) (x (page_in l v i)) xs)))) in
      rw length-append (omega (arith, copies))

  -- the second half, the end of a collection
  module _ (co : Collection) where
    move_length : (i : ℕ) (s : Images) → length (move_steps l co i s) ≤ 1
    unfolding move_steps move_from
    move_length i s =
        let x = page_at l s.chips co.chip in
        let r = record_at l s.records in
        let q = page_in l co.destination i in
        by_test (due l co x r q) (λ e. rw e (omega arith)) (λ e. rw e (omega arith))

    -- a clean page is no copy of a page of the victim, where that is full
    clean_not_due : (x : ℕ → Page) (r : ℕ → Record) → ((i : ℕ) → i < K → clean_in l x co.victim i ≡ false) → (q : ℕ) → clean (x q) ≡ true
        → due l co x r q ≡ false
    clean_not_due x r full q is_clean = by_test (due l co x r q)
        (λ e.
        let h = due_is l co x r q e in
        let (i, place, original) = place_in l co.victim (x q).copied h.0 in
        let same = ap is_clean_kind (twin_is l r x co.chip (x q).copied q h.2).kind in
        both (clean (x (x q).copied)) (rw same at is_clean) (rw original (full i place)))
        (λ e. e)

    -- of images s whose victim is full, and whose destination is clean from place n on, if moves leave the chips
    module _ (s : Images) (n : ℕ) (full : (i : ℕ) → i < K → clean_in l (page_at l s.chips co.chip) co.victim i ≡ false)
        (ahead : (k : ℕ) → n ≤ k → k < K → clean_in l (page_at l s.chips co.chip) co.destination k ≡ true)
        (still : (i : ℕ) → i < K → (apply_all l (then_below l i (move_steps l co) s) s).chips ≡ s.chips) where
      no_move : (i : ℕ) → n ≤ i → i < K → move_steps l co i (apply_all l (then_below l i (move_steps l co) s) s) ≡ []
      unfolding move_steps move_from
      no_move i low high =
          let t = apply_all l (then_below l i (move_steps l co) s) s in
          rw (
            still i high,
            clean_not_due (page_at l s.chips co.chip) (record_at l t.records) full (page_in l co.destination i) (ahead i low high),
          )

      moves_length : n ≤ K → length (then_below l K (move_steps l co) s) ≤ n
      moves_length most =
          rw (then_below_ends l (move_steps l co) s n K most no_move) (rw mul-one at (length_then_below l 1 n (move_steps l co) s move_length))

      -- the moves, an erase, phase 0
      pub finish_length : n ≤ K → co.phase ≡ 2 → length (finish_of l co s) ≤ n + 2
      unfolding finish_of and_then
      finish_length most two =
          rw (ne_eqb co.phase 1 (omega arith), eq-eqb co.phase 2 two, length-append) (omega (arith, moves_length most))

  -- an open: from any images, at most a move for each place, an erase, phase 0
  moves_most : (co : Collection) (s : Images) → length (then_below l K (move_steps l co) s) + 2 ≤ open_needs l
  moves_most co s = let moves = rw mul-one at (length_then_below l 1 K (move_steps l co) s (move_length co)) in omega (arith, moves)

  finish_most : (co : Collection) (s : Images) → length (finish_of l co s) ≤ open_needs l
  unfolding finish_of and_then
  finish_most co s =
      let most = moves_most co s in
      by_test (eqb co.phase 1)
      (λ e. rw e (omega (arith, most)))
      (λ e. by_test (eqb co.phase 2)
      (λ h. rw (e, h, length-append) (omega (arith, most)))
      (λ h. rw (e, h) (omega arith)))

  pub open_length : (lost : ℕ) (s : Images) → length (open_steps l lost s) ≤ open_needs l
  unfolding open_steps finish_steps
  open_length lost s = by_test (eqb lost no_chip)
      (λ e. rw e (finish_most (collection_at l s.records) s))
      (λ e. rw e (omega arith))
