-- The record that the code makes with one page in place of another.
use Prim.Native.Nat.{ℕ, ◌<◌}
use native.Mathlib.Omega.{arith}
use mathlib.Core.Path.{◌≡◌}
use mathlib.Core.Logic.{◌≢◌}
use lib.ListN.{length, get_or, set}
use lib.Dec.{eqb}
use borrow.Author.Tests.{eq-eqb, ne_eqb}
use Rattle.ranges.proofs.Looks.{by_test}
use Rattle.layout.specs.Layout.{Layout}
use Rattle.layout.specs.Rotation.{parity_chip, member_on}
use Rattle.rules.specs.Open.{moved, repointed}
use Rattle.codec.specs.declared.StripeRecord.{StripeRecord}
use Rattle.codec.proofs.Encodings.{six_in, six_set, set_small}
use Rattle.codec.specs.Views.{record_from, SmallRecord}

-- a number in place of another stays small
moved_small : (p q x : ℕ) → x < 65536 → q < 65536 → moved p q x < 65536
moved_small p q x hx hq = by_test (eqb x p) (λ e. rw e hq) (λ e. rw e hx)

module _ (l : Layout) (e : StripeRecord) (c j p q : ℕ) (small : SmallRecord e) (fits : q < 65536) where
  -- on the chip of the parity
  abbrev with_parity : ℕ → StripeRecord
  with_parity v = record { current = e.current; old = e.old; parity = v; bitmap = e.bitmap; slot = e.slot }

  pub parity_moved : c ≡ parity_chip l j → (v : ℕ) → v ≡ moved p q e.parity
      → (record_from l (with_parity v) ≡ repointed l c j p q (record_from l e)) × SmallRecord (with_parity v)
  unfolding record_from repointed
  parity_moved here v is = (
    rw (eq-eqb c (parity_chip l j) here, is),
    record {
      current = small.current;
      old = small.old;
      parity = rw is (moved_small p q e.parity small.parity fits);
      bitmap = small.bitmap;
      slot = small.slot;
    },
  )

  -- on the chip of member m
  abbrev with_member : ℕ → ℕ → ℕ → StripeRecord
  with_member m v w = record {
    current = set e.current m v;
    old = set e.old m w;
    parity = e.parity;
    bitmap = e.bitmap;
    slot = e.slot;
  }

  pub member_moved : c ≢ parity_chip l j → (m v w : ℕ) → m ≡ member_on l j c → m < 6 → length e.current ≡ 6 → length e.old ≡ 6
      → v ≡ moved p q (get_or e.current m 0) → w ≡ moved p q (get_or e.old m 0)
      → (record_from l (with_member m v w) ≡ repointed l c j p q (record_from l e)) × SmallRecord (with_member m v w)
  unfolding record_from repointed
  member_moved there m v w on six a b is is' = (
    rw (
      ne_eqb c (parity_chip l j) there,
      ← on,
      six_in l e.current m six,
      six_in l e.old m six,
      six_set l e.current m v a six,
      six_set l e.old m w b six,
      is,
      is',
    ),
    record {
      current = set_small e.current m v (omega arith) small.current (rw is (moved_small p q (get_or e.current m 0) (small.current m) fits));
      old = set_small e.old m w (omega arith) small.old (rw is' (moved_small p q (get_or e.old m 0) (small.old m) fits));
      parity = small.parity;
      bitmap = small.bitmap;
      slot = small.slot;
    },
  )
