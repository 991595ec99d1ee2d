-- The record that the code makes of a written page.
use Prim.Native.Nat.{ℕ, ◌*◌, ◌%◌, ◌^◌, ◌<◌}
use native.Mathlib.Nat.{one-mul, mod-eq_of_lt}
use native.Mathlib.Omega.{arith}
use mathlib.Core.Path.{◌≡◌}
use mathlib.Core.Bool.{true, false}
use mathlib.Core.List.{List}
use lib.Bits.{bit_or}
use lib.Pow.{pow-lt}
use lib.ListN.{length, get_or, set}
use Rattle.layout.specs.declared.Geometry.{Geometry}
use Rattle.layout.specs.Layout.{layout_of}
use Rattle.layout.specs.Record.{bit}
use Rattle.layout.proofs.Bits.{test_bit, set_bound}
use Rattle.rules.specs.Partial.{written}
use Rattle.codec.specs.declared.StripeRecord.{StripeRecord}
use Rattle.codec.specs.Views.{record_from, SmallRecord}
use Rattle.codec.proofs.Encodings.{six_in, six_set, set_small}

-- a bit of a byte, shifted in a word
shifted : (m : ℕ) → m < 6 → 1 * 2 ^ m % 18446744073709551616 ≡ 2 ^ m
shifted m h = rw one-mul (mod-eq_of_lt (pow-lt {i = m} {j = 64} (omega arith)))

module _ (e : StripeRecord) (m q i : ℕ) (small : SmallRecord e) (low : m < 6) (page : q < 65536) (slot : i < 256)
    (six : length e.current ≡ 6) (six_old : length e.old ≡ 6) where
  -- with these old numbers
  abbrev with_page : List ℕ → StripeRecord
  with_page olds = record {
    current = set e.current m q;
    old = olds;
    parity = e.parity;
    bitmap = bit_or e.bitmap (1 * 2 ^ m % 18446744073709551616);
    slot = i;
  }

  small_page : (olds : List ℕ) → ((k : ℕ) → get_or olds k 0 < 65536) → SmallRecord (with_page olds)
  small_page olds h = record {
    current = set_small e.current m q (omega arith) small.current page;
    old = h;
    parity = small.parity;
    bitmap = rw (shifted m low) (set_bound e.bitmap m 8 small.bitmap (omega arith));
    slot = slot;
  }

  abbrev Written : List ℕ → Type 0
  Written olds = ((g : Geometry) → record_from (layout_of g) (with_page olds) ≡ written (layout_of g) m q i (record_from (layout_of g) e)) × SmallRecord (with_page olds)

  -- the bit was set: the old number stays
  pub written_again : test_bit e.bitmap m ≡ true → Written e.old
  unfolding record_from written bit
  written_again t = (
    λ g. rw (t, shifted m low, six_set (layout_of g) e.current m q six low),
    small_page e.old small.old,
  )

  -- it was clear: the current number becomes the old one
  pub written_first : test_bit e.bitmap m ≡ false → Written (set e.old m (get_or e.current m 0))
  unfolding record_from written bit
  written_first t = (
    λ g.
        rw (
          t,
          shifted m low,
          six_set (layout_of g) e.current m q six low,
          six_set (layout_of g) e.old m (get_or e.current m 0) six_old low,
          six_in (layout_of g) e.current m low,
        ),
    small_page (set e.old m (get_or e.current m 0)) (set_small e.old m (get_or e.current m 0) (omega arith) small.old (small.current m)),
  )
