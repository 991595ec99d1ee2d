-- A commit's record, and the list of its two stores.
use Prim.Native.Nat.{ℕ, zero, suc, ◌<◌}
use native.Mathlib.Omega.{arith}
use mathlib.Core.Path.{◌≡◌, ap, fun_ext}
use mathlib.Core.List.{List, [], ◌∷◌, ◌++◌}
use lib.ListN.{get_or, replicate, get_or-replicate}
use borrow.Author.Tests.{le-ltb}
use Rattle.ranges.proofs.Looks.{by_order}
use Rattle.layout.specs.declared.Geometry.{Geometry}
use Rattle.layout.specs.Layout.{Layout, layout_of, none}
use Rattle.layout.specs.Rotation.{parity_chip}
use Rattle.layout.specs.Page.{page_at}
use Rattle.layout.specs.Record.{Record, record_at}
use Rattle.layout.specs.Images.{slot_at}
use Rattle.steps.specs.Store.{program, stripe}
use Rattle.steps.specs.Steps.{plain}
use Rattle.steps.specs.Allowance.{images}
use Rattle.rules.specs.Fetch.{feed_role, feed_in}
use Rattle.rules.specs.Parity.{new_parity, parity_page, committed, commit_at}
use Rattle.codec.specs.declared.StripeRecord.{StripeRecord}
use Rattle.codec.specs.Views.{six_of, record_from}
use Rattle.codec.proofs.Encodings.{six_in}
use Rattle.parity.specs.Members.{parity_in}

-- ---- the record

-- six numbers of no page, as a record has them
pub no_olds : (g : Geometry) → six_of (layout_of g) (replicate 6 65535) ≡ (λ m. 65535)
unfolding six_of none
no_olds g = fun_ext λ m. by_order m 6
    (λ low. rw (six_in (layout_of g) (replicate 6 65535) m low) (get_or-replicate 6 m 65535 0 low))
    (λ high. rw (le-ltb m 6 high))

-- numbers that are all the same small one
pub same_small : (n v b m : ℕ) → v < b → get_or (replicate n v) m 0 < b
same_small zero v b m h = omega arith
same_small (suc n) v b zero h = h
same_small (suc n) v b (suc m) h = same_small n v b m h

-- ---- the two stores

module _ (g : Geometry) (j q : ℕ) (x y z : List ℕ) (e : StripeRecord) (is : record_from (layout_of g) e ≡ record_at (layout_of g) y j) where
  abbrev l : Layout
  l = layout_of g

  -- the new parity from the images
  parity_from : parity_in g x z j e ≡ new_parity l (feed_in l (images x y z) j) (slot_at l z (record_at l y j).slot) (record_at l y j)
  parity_from = ap (λ (r : Record). new_parity l (feed_role l (page_at l x) (slot_at l z) j r) (slot_at l z r.slot) r) is

  -- the list, where e is the record of stripe j and n the one that is stored
  pub commit_list : (n : Record) (c reads : ℕ) (xs : List ℕ) → n ≡ committed l q (record_from l e) → c ≡ parity_chip l j
      → xs ≡ (parity_in g x z j e).bytes → reads ≡ (parity_in g x z j e).reads
      → commit_at l j q (images x y z) ≡ (record { reads = reads; store = program c q (parity_page l j xs) } ∷ []) ++ (plain (stripe j n) ∷ [])
  unfolding commit_at
  commit_list n c reads xs new chip bytes read = rw (new, chip, bytes, read, parity_from, is)
