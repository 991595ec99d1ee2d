-- The stores of a format: what the first of them make of the images.
use Prim.Native.Nat.{ℕ, zero, suc, ◌+◌, ◌*◌, ◌/◌, ◌%◌, ◌<◌}
use native.Mathlib.Nat.{div-add-mod', mul_assoc, add-mul}
use mathlib.Core.Path.{◌≡◌, refl}
use mathlib.Core.List.{List}
use lib.ListN.{replicate}
use Rattle.octets.specs.Units.{unit_put}
use Rattle.layout.specs.Layout.{Layout, pages, page_bytes, record_bytes}
use Rattle.layout.specs.Record.{bytes_of_record, empty_record}
use Rattle.steps.specs.Store.{Store, erase, erased, recorded, apply}
use Rattle.steps.specs.Steps.{apply_all, steps_below}
use Rattle.steps.specs.Allowance.{images}
use Rattle.steps.proofs.Runs.{apply_append}
use Rattle.steps.proofs.Alike.{one, below_below}
use Rattle.rules.specs.Format.{erase_block, erase_chip, empty_stripe}
use Rattle.codec.specs.Firsts.{first_units}

module _ (l : Layout) where
  open l use {K, B}

  -- the bytes of a block
  abbrev pub block_bytes : ℕ
  block_bytes = K * page_bytes l

  -- block i of the image, counted through all chips
  abbrev pub erase_nth : ℕ → Store
  erase_nth i = erase (i / B) (i % B)

  -- the list of erases is that of the blocks of the image
  pub erases_flat : (n : ℕ) → 0 < B → steps_below n (erase_chip l) ≡ steps_below (n * B) (one erase_nth)
  erases_flat n some = below_below n B erase_block some

  -- where block i of the image begins
  block_offset : (i : ℕ) → (i / B * pages l + i % B * K) * page_bytes l ≡ i * block_bytes
  block_offset i = rw (← mul_assoc (i / B) B K, ← add-mul (i / B * B) (i % B) K, div-add-mod' i B, mul_assoc i K (page_bytes l))

  -- the first n erases
  pub erases_made : (n : ℕ) (chips rs zs : List ℕ)
      → apply_all l (steps_below n (one erase_nth)) (images chips rs zs) ≡ images (first_units block_bytes n (replicate block_bytes 255) chips) rs zs
  unfolding steps_below apply_all apply erased first_units unit_put
  erases_made zero chips rs zs = refl
  erases_made (suc n) chips rs zs =
      rw (apply_append l (steps_below n (one erase_nth)) (one erase_nth n) (images chips rs zs), erases_made n chips rs zs, block_offset n)

  -- the first n empty records
  pub empties_made : (n : ℕ) (cs records zs : List ℕ)
      → apply_all l (steps_below n (empty_stripe l)) (images cs records zs)
      ≡ images cs (first_units (record_bytes l) n (bytes_of_record l (empty_record l)) records) zs
  unfolding steps_below apply_all apply recorded first_units
  empties_made zero cs records zs = refl
  empties_made (suc n) cs records zs =
      rw (apply_append l (steps_below n (empty_stripe l)) (empty_stripe l n) (images cs records zs), empties_made n cs records zs)
