-- Document 02, 2: what the origin that is owed comes to, sentence by sentence.
use Prim.Native.Nat.{ℕ, zero, suc, ◌≤◌, ◌<◌}
use native.Mathlib.Nat.{le_refl, le_step, lt-suc_self, le_trans}
use native.Mathlib.Omega.{arith}
use mathlib.Core.Path.{◌≡◌, refl, ap}
use mathlib.Core.Logic.{◌≢◌, ◌↔◌}
use mathlib.Core.Bool.{Bool, true, false, cond}
use lib.Dec.{leb, eqb}
use borrow.Author.Tests.{eq-eqb, ne_eqb, le-leb, leb-true, leb-false}
use Rattle.ranges.proofs.Looks.{by_test, at_last, both}
use Rattle.layout.specs.Layout.{Layout, no_chip, limits}
use Rattle.layout.specs.Rotation.{member_chip, member_of, stripe_of}
use Rattle.layout.specs.Record.{bit, record_at}
use Rattle.layout.proofs.Limits.{within}
use Rattle.layout.proofs.Rotations.{page_chip_fits}
use Rattle.rules.specs.declared.Origin.{Origin}
use Rattle.rules.specs.declared.Origin.TheVariants.{Unwritten, Direct, Partial, Full}
use Rattle.rules.specs.Origins.{origin_by, origin_number, greater, greatest_origin}
use Rattle.rules.specs.Demand.{World, origin_owed}

says_unwritten : (written lost inside : Bool) → (origin_by written lost inside ≡ Unwritten) ↔ (written ≡ false)
says_unwritten false lost inside = (λ e. refl, λ e. refl)
says_unwritten true false inside = (λ e. absurd (omega (arith, ap origin_number e)), λ e. both true refl e)
says_unwritten true true false = (λ e. absurd (omega (arith, ap origin_number e)), λ e. both true refl e)
says_unwritten true true true = (λ e. absurd (omega (arith, ap origin_number e)), λ e. both true refl e)

-- the greater of two is one of them, and neither is above it
greater_is : (P : Origin → Type 0) (a b : Origin) → P a → P b → P (greater a b)
greater_is P a b here there = by_test (leb (origin_number a) (origin_number b)) (λ e. rw e there) (λ e. rw e here)

greater_left : (a b : Origin) → origin_number a ≤ origin_number (greater a b)
greater_left a b = by_test (leb (origin_number a) (origin_number b)) (λ e. rw e (leb-true (origin_number a) (origin_number b) e)) (λ e. rw e (le_refl (origin_number a)))

greater_right : (a b : Origin) → origin_number b ≤ origin_number (greater a b)
greater_right a b = by_test (leb (origin_number a) (origin_number b))
    (λ e. rw e (le_refl (origin_number b)))
    (λ e. rw e (omega (arith, leb-false (origin_number a) (origin_number b) e)))

none_above : (n : ℕ) (f : ℕ → Origin) (i : ℕ) → i < n → origin_number (f i) ≤ origin_number (greatest_origin n f)
unfolding greatest_origin
none_above zero f i h = elim h [ ]
none_above (suc n) f i h = at_last i n (omega (arith, h))
    (λ less. le_trans (none_above n f i less) (greater_left (greatest_origin n f) (f n)))
    (λ same. rw same (greater_right (greatest_origin n f) (f n)))

-- the greatest is that of a page, or of none
abbrev OneOf : ℕ → (ℕ → Origin) → Origin → Type 0
OneOf n f o = (i : ℕ) × (i < n) × (f i ≡ o)

one_of : (n : ℕ) (f : ℕ → Origin) → 0 < n → OneOf n f (greatest_origin n f)
unfolding greatest_origin
one_of zero f h = elim h [ ]
one_of (suc zero) f h = (0, omega arith, rw (le-leb 0 (origin_number (f 0)) (omega arith)))
one_of (suc (suc n)) f h =
    let (i, low, is) = one_of (suc n) f (omega arith) in
    greater_is (OneOf (suc (suc n)) f) (greatest_origin (suc n) f) (f (suc n)) (i, le_step low, is) (suc n, lt-suc_self (suc n), refl)

module _ (l : Layout) where
  pub record OriginsSay : Type 0 where
    -- "never written" exactly where no write of the page was completed since the format
    pub unwritten : (lost : ℕ) (x : World) (i : ℕ) → (origin_owed l lost x i ≡ Unwritten) ↔ (x.written i ≡ false)
    -- with no chip named every written page is "read directly"
    pub direct : limits l ≡ true → (x : World) (i : ℕ) → x.written i ≡ true → origin_owed l no_chip x i ≡ Direct
    -- and with a chip named each that is on another one
    pub elsewhere : (lost : ℕ) (x : World) (i : ℕ) → x.written i ≡ true → member_chip l (stripe_of l i) (member_of l i) ≢ lost → origin_owed l lost x i ≡ Direct
    -- on that chip it is "rebuilt", "through the partial parity" where its bit is set, else "through the full parity"
    pub rebuilt : (lost : ℕ) (x : World) (i : ℕ) → x.written i ≡ true → member_chip l (stripe_of l i) (member_of l i) ≡ lost
        → origin_owed l lost x i ≡ cond (bit (record_at l x.images.records (stripe_of l i)) (member_of l i)) Partial Full
    -- "the last in that order among its pages": none is above it, and it is that of one
    pub greatest : (n : ℕ) (o : ℕ → Origin)
        → ((i : ℕ) → i < n → origin_number (o i) ≤ origin_number (greatest_origin n o)) × (0 < n → (i : ℕ) × (i < n) × (o i ≡ greatest_origin n o))

  pub origins_say : OriginsSay
  origins_say = record {
    unwritten = λ lost x i.
        says_unwritten (x.written i) (eqb (member_chip l (stripe_of l i) (member_of l i)) lost) (bit (record_at l x.images.records (stripe_of l i)) (member_of l i));
    direct = λ fit x i written.
        let w = within l fit in
        rw (written, ne_eqb (member_chip l (stripe_of l i) (member_of l i)) no_chip (omega (arith, page_chip_fits l w i, w.members_high)));
    elsewhere = λ lost x i written other. rw (written, ne_eqb (member_chip l (stripe_of l i) (member_of l i)) lost other);
    rebuilt = λ lost x i written own. rw (written, eq-eqb (member_chip l (stripe_of l i) (member_of l i)) lost own);
    greatest = λ n o. (none_above n o, one_of n o);
  }
