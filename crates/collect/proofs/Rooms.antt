-- A collection as a whole, and room on a chip: what the code finds tells which list it runs.
use Prim.Native.Nat.{ℕ, ◌≤◌, ◌<◌}
use native.Mathlib.Omega.{arith}
use mathlib.Core.Path.{◌≡◌}
use mathlib.Core.Bool.{true, false}
use mathlib.Core.List.{List, []}
use lib.ListN.{length}
use Rattle.std.specs.Prelude.{Some, None}
use Rattle.ranges.specs.Look.{when_found}
use Rattle.layout.specs.declared.Geometry.{Geometry}
use Rattle.layout.specs.Layout.{Layout, layout_of, no_chip}
use Rattle.layout.specs.Page.{page_at}
use Rattle.layout.specs.Record.{record_at}
use Rattle.layout.specs.Images.{Images, slots_length}
use Rattle.steps.specs.declared.Progress.{Progress}
use Rattle.steps.specs.Steps.{and_then}
use Rattle.steps.specs.Allowance.{Ran, images}
use Rattle.steps.proofs.Prefixes.{leads_weaken}
use Rattle.steps.proofs.Allowances.{ran_then, ran_then_cut, ran_whole}
use Rattle.rules.specs.Blocks.{lowest_clean_block}
use Rattle.rules.specs.Collect.{copy_steps, copy_feed, collectable, victim_of, collect_block, collect_steps}
use Rattle.rules.specs.Open.{finish_steps}
use Rattle.rules.specs.Place.{place_of}
use Rattle.rules.specs.Room.{room_steps}
use Rattle.rules.proofs.Soundness.Statements.{Sound}
use Rattle.rules.proofs.Stores.Kept.{Kept}
use Rattle.rules.proofs.Lists.Copying.{AllCopied, copies_lead}
use Rattle.rules.proofs.Lists.Collecting.{chosen_on}
use Rattle.names.specs.Checked.{Checked, Settled}
use Rattle.names.proofs.Statements.{usable, sound, checked, chip_ordered}
use Rattle.space.specs.Ordered.{Ordered}

-- the blocks of a chip are in order
pub ordered : {g : Geometry} {chips records : List ℕ} → Checked g no_chip chips records → {c : ℕ} → c ≤ g.n → Ordered g chips c
ordered {g} {chips} {records} h {c} low = record { chips_fit = h.chips_fit; chip = low; order = chip_ordered g chips records h c low }

-- the destination is found of a block that can be collected
module _ {g : Geometry} {x r : List ℕ} (h : Settled g x r) {c v d : ℕ} (chip : c ≤ g.n) (block : v < g.b)
    (can : collectable (layout_of g) c (page_at (layout_of g) x c) (record_at (layout_of g) r) v ≡ true)
    (clean : lowest_clean_block (layout_of g) (page_at (layout_of g) x c) ≡ Some d)
    {zs : List ℕ} (long : length zs ≡ slots_length (layout_of g)) {p q : Progress} {x₁ r₁ : List ℕ}
    (first : Ran (layout_of g) p (copy_steps (layout_of g) c (page_at (layout_of g) x c) (copy_feed (layout_of g) c (images x r zs)) (record_at (layout_of g) r) v d) q (images x r zs) (images x₁ r₁ zs)) where
  abbrev l : Layout
  l = layout_of g

  collect_then : collect_block l c v (images x r zs) ≡ and_then l (copy_steps l c (page_at l x c) (copy_feed l c (images x r zs)) (record_at l r) v d) (finish_steps l) (images x r zs)
  unfolding collect_block when_found
  collect_then = rw clean

  -- where the copies are not cut the images have passed the tests again, in phase 2
  pub copied_checked : q.cut ≡ false → Checked g no_chip x₁ r₁
  copied_checked going =
      let s = images x r zs in
      let u = usable g x r h.checked in
      let f = sound g x r h.checked zs long in
      let copies = copy_steps l c (page_at l x c) (copy_feed l c (images x r zs)) (record_at l r) v d in
      let whole = ran_whole l p q copies s (images x₁ r₁ zs) first going in
      checked g h.checked.chips_fit.limited (images x₁ r₁ zs)
      (rw whole
      (leads_weaken l (Kept l) (Kept l) (AllCopied l s c v d) (Sound l) copies s (λ t k. k) (λ t k a. k.sound)
      (copies_lead l u s f c v d (chosen_on l u s f h.at_rest c (omega arith) v d block can clean))).ends)

  -- a collection that is cut in its first half
  pub collect_cut : q.cut ≡ true → Ran l p (collect_block l c v (images x r zs)) q (images x r zs) (images x₁ r₁ zs)
  collect_cut cut =
      rw collect_then
      (ran_then_cut l p q (copy_steps l c (page_at l x c) (copy_feed l c (images x r zs)) (record_at l r) v d) (finish_steps l) (images x r zs) (images x₁ r₁ zs) first cut)

  -- and one that is not
  pub collect_ran : {w : Progress} {x₂ r₂ : List ℕ}
      → Ran l q (finish_steps l (images x₁ r₁ zs)) w (images x₁ r₁ zs) (images x₂ r₂ zs)
      → Ran l p (collect_block l c v (images x r zs)) w (images x r zs) (images x₂ r₂ zs)
  collect_ran {w} {x₂} {r₂} second =
      rw collect_then
      (ran_then l p q w (copy_steps l c (page_at l x c) (copy_feed l c (images x r zs)) (record_at l r) v d) (finish_steps l) (images x r zs) (images x₁ r₁ zs) (images x₂ r₂ zs)
      first second)

module _ (l : Layout) (s : Images) (c : ℕ) where
  -- with no destination nothing is stored
  pub collect_nowhere : (v : ℕ) → lowest_clean_block l (page_at l s.chips c) ≡ None → collect_block l c v s ≡ []
  unfolding collect_block when_found
  collect_nowhere v clean = rw clean

  -- nor with no victim
  pub collect_nothing : victim_of l c (page_at l s.chips c) (record_at l s.records) ≡ None → collect_steps l c s ≡ []
  unfolding collect_steps when_found
  collect_nothing victim = rw victim

  -- the collection of a chip is that of its victim
  pub collect_found : {v : ℕ} → victim_of l c (page_at l s.chips c) (record_at l s.records) ≡ Some v → collect_steps l c s ≡ collect_block l c v s
  unfolding collect_steps when_found
  collect_found victim = rw victim

  -- a chip that has a place needs no collection
  pub room_there : {p : ℕ} → place_of l (page_at l s.chips c) ≡ Some p → room_steps l c s ≡ []
  unfolding room_steps when_found
  room_there place = rw place

  -- one that has none does
  pub room_collects : place_of l (page_at l s.chips c) ≡ None → room_steps l c s ≡ collect_steps l c s
  unfolding room_steps when_found
  room_collects place = rw place
