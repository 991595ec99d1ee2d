-- The new partial parity and its reads, in the three cases of the code's tests.
use Prim.Native.Nat.{ℕ, ◌≤◌}
use native.Mathlib.Nat.{zero-add, add-zero}
use native.Mathlib.Omega.{arith}
use mathlib.Core.Path.{◌≡◌}
use mathlib.Core.Logic.{◌≢◌}
use mathlib.Core.Bool.{true, false}
use mathlib.Core.List.{List}
use borrow.Author.Tests.{eq-eqb, ne_eqb}
use Rattle.octets.specs.Xor.{◌⊕◌}
use Rattle.layout.specs.declared.Geometry.{Geometry}
use Rattle.layout.specs.Layout.{layout_of, no_chip}
use Rattle.layout.specs.Page.{page_at}
use Rattle.layout.specs.Record.{bit}
use Rattle.layout.specs.Images.{slot_at}
use Rattle.layout.proofs.Bits.{test_bit}
use Rattle.rules.specs.declared.Role.TheVariants.{Current}
use Rattle.rules.specs.Fetch.{fetch_role}
use Rattle.rules.specs.Partial.{new_partial}
use Rattle.steps.specs.Allowance.{most_reads}
use Rattle.codec.specs.declared.StripeRecord.{StripeRecord}
use Rattle.codec.specs.Views.{record_from}
use Rattle.fetch.specs.declared.Got.{Got}
use Rattle.fetch.specs.Into.{Into}
use Rattle.partial.specs.Feed.{partial_in}

module _ (g : Geometry) (chips slots : List ℕ) (j m : ℕ) (xs : List ℕ) (e : StripeRecord) where
  -- it is zs, and so many pages were read
  abbrev pub IsPartial : List ℕ → ℕ → Type 0
  IsPartial zs reads = (zs ≡ (partial_in g chips slots j m xs e).bytes) × (reads ≡ (partial_in g chips slots j m xs e).reads) × (reads ≤ most_reads)

  -- "the data"
  pub without_slot : e.slot ≡ 255 → {zs : List ℕ} → zs ≡ xs → IsPartial zs 0
  unfolding new_partial record_from
  without_slot s is = (rw (eq-eqb e.slot 255 s, is), rw (eq-eqb e.slot 255 s), omega arith)

  module _ (s : e.slot ≢ 255) {partial : List ℕ} (slot : partial ≡ slot_at (layout_of g) slots e.slot) where
    -- "partial ⊕ data"
    pub without_bit : test_bit e.bitmap m ≡ false → IsPartial (partial ⊕ xs) 0
    unfolding new_partial record_from bit
    without_bit t = (rw (ne_eqb e.slot 255 s, t, slot), rw (ne_eqb e.slot 255 s, t), omega arith)

    -- "partial ⊕ current page ⊕ data"
    pub with_bit : test_bit e.bitmap m ≡ true → {work : List ℕ} {got : Got}
        → Into (fetch_role (layout_of g) (page_at (layout_of g) chips) (slot_at (layout_of g) slots) j (record_from (layout_of g) e) no_chip (Current m)) partial work got
        → IsPartial (work ⊕ xs) got.reads
    unfolding new_partial record_from bit
    with_bit t into = (
      rw (ne_eqb e.slot 255 s, t, into.bytes, slot),
      rw (ne_eqb e.slot 255 s, t, into.reads, zero-add, add-zero),
      omega (arith, into.few),
    )
