-- What a sound record says of its stripe's pages: the others that a page is rebuilt from; its numbers by their index, and in a role.
use Prim.Native.Nat.{ℕ, ◌+◌, ◌-◌, ◌/◌, ◌%◌, ◌^◌, ◌≤◌, ◌<◌}
use native.Mathlib.Nat.{zero-add}
use native.Mathlib.Omega.{arith}
use mathlib.Core.Path.{◌≡◌, refl, sym, ap, ap₂, ◌∙◌}
use mathlib.Core.Bool.{Bool, true, false, not, cond, ◌&&◌, ◌||◌}
use mathlib.Core.List.{List}
use lib.Dec.{eqb}
use borrow.Author.Tests.{lt-ltb, le-ltb, ne_eqb}
use Rattle.ranges.proofs.Looks.{both}
use Rattle.layout.specs.declared.Geometry.{Geometry}
use Rattle.layout.specs.Layout.{Layout, layout_of, limits, none}
use Rattle.octets.specs.Xor.{◌⊕◌}
use Rattle.layout.specs.Rotation.{parity_chip}
use Rattle.layout.specs.Page.{Page}
use Rattle.layout.specs.Record.{Record, bit, record_at}
use Rattle.layout.proofs.Limits.{Within, within}
use Rattle.layout.proofs.Records.{bits_of_none}
use Rattle.rules.specs.declared.Role.{Role}
use Rattle.rules.specs.declared.Role.TheVariants.{Current, Old, Parity}
use Rattle.rules.specs.declared.Origin.TheVariants.{Full}
use Rattle.rules.specs.Fetch.{Fetched, Feed, itself, gathered, number_in, under_parity, others_inside, others_under_parity, through_partial, through_parity, parity_anew, rebuilt}
use Rattle.rules.specs.Sound.{record_sound}
use Rattle.rules.proofs.Soundness.Statements.{Numbered, RecordSound, sound_member}
use Rattle.rules.proofs.Soundness.RecordChecks.{record_sound_lem}
use Rattle.rules.proofs.Data.Contents.{numbered_none}
use Rattle.rules.proofs.Data.Parity.{numbered_others_inside, numbered_others_under_parity}
use Rattle.codec.specs.declared.StripeRecord.{StripeRecord}
use Rattle.codec.specs.Scan.{number_of}
use Rattle.codec.specs.Views.{record_from, ended, SmallRecord}
use Rattle.codec.proofs.Encodings.{ended_same}
use Rattle.fetch.specs.Into.{RoleFits, others, first_in, left_out, is_inside, through_full, Into}
use Rattle.fetch.proofs.Pages.{page_none, gathered_same, into_two}

-- a sound record ends in zeros, so that it is what was read of it
pub record_is : (g : Geometry) (xs : List ℕ) (j : ℕ) {e : StripeRecord}
    → let r = record_at (layout_of g) xs j in
    (record_from (layout_of g) e ≡ ended r) × SmallRecord e → record_sound (layout_of g) r ≡ true → record_from (layout_of g) e ≡ r
record_is g xs j (is, small) h = is ∙ ended_same (record_sound_lem (layout_of g) (record_at (layout_of g) xs j) h).rest

-- ---- the others that a page is rebuilt from

-- by the tests that the code makes: no member that goes in, an old page, or a current one
pub others_by : (l : Layout) (inside : Bool) (m : ℕ) (r : Record) (i : ℕ)
    → others l inside m r i ≡ cond (eqb i m || (inside && not (bit r i))) (none l) (cond (bit r i && not inside) (r.old i) (r.current i))
unfolding others_inside others_under_parity under_parity
others_by l inside m r i = one_of inside (eqb i m) (bit r i)
  where
    one_of : (b s t : Bool) → cond b (cond (t && not s) (r.current i) (none l)) (cond s (none l) (cond t (r.old i) (r.current i)))
        ≡ cond (s || (b && not t)) (none l) (cond (t && not b) (r.old i) (r.current i))
    one_of true true true = refl
    one_of true true false = refl
    one_of true false true = refl
    one_of true false false = refl
    one_of false true t = refl
    one_of false false true = refl
    one_of false false false = refl

-- with the bit as it is told of the bitmap
pub others_told : (l : Layout) (inside : Bool) (m : ℕ) (r : Record) (i : ℕ) {bitmap : ℕ} {set : Bool} → bitmap ≡ r.bitmap → set ≡ eqb (bitmap / 2 ^ i % 2) 1
    → others l inside m r i ≡ cond (eqb i m || (inside && not set)) (none l) (cond (set && not inside) (r.old i) (r.current i))
unfolding bit
others_told l inside m r i {bitmap} same told = rw (told ∙ ap (λ (n : ℕ). eqb (n / 2 ^ i % 2) 1) same) (others_by l inside m r i)

-- a sound record's are those of pages
pub others_fit : (l : Layout) → Within l → (inside : Bool) (m : ℕ) (r : Record) → RecordSound l r → (i : ℕ) → i < l.N → Numbered l (others l inside m r i)
others_fit l w true m r s i h = numbered_others_inside l w r s m i h
others_fit l w false m r s i h = numbered_others_under_parity l w r s m i h

-- without one that is left out they are all that the parity was stored over
all_under : (l : Layout) → Within l → (r : Record) (i : ℕ) → i < l.N → others l false 6 r i ≡ under_parity l r i
unfolding others_under_parity
all_under l w r i h = rw (ne_eqb i 6 (omega (arith, w.members_high)))

-- the first page is one of the parity chip
pub first_fits : (l : Layout) (r : Record) → RecordSound l r → (role : Role) → Numbered l (first_in l r role)
first_fits l r s (Current m) = s.parity
first_fits l r s (Old m) = s.parity
first_fits l r s Parity = numbered_none l

-- a page through the parity: the first page, and then the others
module _ (l : Layout) (w : Within l) (y : ℕ → ℕ → Page) (z : ℕ → List ℕ) (j : ℕ) (r : Record) where
  abbrev first : Role → Fetched
  first role = itself l y (parity_chip l j) (first_in l r role)

  abbrev rest : Role → Feed
  rest role = gathered l y j (others l false (left_out role) r)

  pub full_fetched : (role : Role) {before after : List ℕ} {n : ℕ} → after ≡ before ⊕ (first role).bytes ⊕ (rest role).bytes → n ≡ (first role).reads + (rest role).reads → n ≤ 7
      → Into (through_full l y z j r role) before after (record { reads = n; origin = Full })
  unfolding through_parity parity_anew
  full_fetched (Current m) e reads few = into_two (first (Current m)).bytes (rest (Current m)).bytes refl e reads refl few
  full_fetched (Old m) e reads few = into_two (first (Old m)).bytes (rest (Old m)).bytes refl e reads refl few
  full_fetched Parity {before} e reads few =
      let all = gathered_same l y j (others l false 6 r) (under_parity l r) (all_under l w r) in
      let nothing = page_none l y (parity_chip l j) (none l) before refl in
      record {
        bytes = e ∙ ap₂ ◌⊕◌ (sym nothing.0) (ap (λ (x : Feed). x.bytes) all);
        reads = reads ∙ ap₂ ◌+◌ (sym nothing.1) (ap (λ (x : Feed). x.reads) all) ∙ zero-add _;
        origin = refl;
        few = few;
      }

-- through the one or the other
pub inside_bit : (r : Record) (role : Role) → is_inside r role ≡ true → bit r (left_out role) ≡ true
inside_bit r (Current m) e = e
inside_bit r (Old m) e = both false e refl
inside_bit r Parity e = both false e refl

module _ (l : Layout) (y : ℕ → ℕ → Page) (z : ℕ → List ℕ) (j : ℕ) (r : Record) where
  pub rebuilt_inside : (role : Role) → is_inside r role ≡ true → through_partial l y z j r (left_out role) ≡ rebuilt l y z j r role
  rebuilt_inside (Current m) e = rw e
  rebuilt_inside (Old m) e = both false e refl
  rebuilt_inside Parity e = both false e refl

  pub rebuilt_full : (role : Role) → is_inside r role ≡ false → through_full l y z j r role ≡ rebuilt l y z j r role
  rebuilt_full (Current m) e = rw e
  rebuilt_full (Old m) e = refl
  rebuilt_full Parity e = refl

-- a record with a bit has a slot
pub slot_low : (l : Layout) (r : Record) → RecordSound l r → (m : ℕ) → bit r m ≡ true → r.slot ≤ l.M
slot_low l r s m t = s.slot (λ z. both (bit r m) t (bits_of_none r z m))

-- ---- roles

-- a member is one of six
pub six : (g : Geometry) → limits (layout_of g) ≡ true → {m : ℕ} → m < g.n → m < 6
six g limited h = omega (arith, h, (within (layout_of g) limited).members_high)

-- the member of a role that is known
pub current_fits : (g : Geometry) {role : Role} {m : ℕ} → role ≡ Current m → RoleFits g role → m < g.n
current_fits g e h = rw e at h

pub old_fits : (g : Geometry) {role : Role} {m : ℕ} → role ≡ Old m → RoleFits g role → m < g.n
old_fits g e h = rw e at h

-- the numbers of a record by their index are those of its members, and of the parity
pub number_current : (r : Record) (m : ℕ) → m < 6 → number_of r m ≡ r.current m
unfolding number_of
number_current r m six = rw (lt-ltb m 6 six)

pub number_old : (r : Record) (m : ℕ) → m < 6 → number_of r (6 + m) ≡ r.old m
unfolding number_of
number_old r m six =
    let old : 6 + m - 6 ≡ m = omega arith in
    rw (le-ltb (6 + m) 6 (omega arith), lt-ltb (6 + m) 12 (omega arith), old)

pub number_parity : (r : Record) → number_of r 12 ≡ r.parity
unfolding number_of
number_parity r = refl

-- its page, if it has one, is one of its chip
pub role_number : (g : Geometry) → Within (layout_of g) → (r : Record) → RecordSound (layout_of g) r → (role : Role) → RoleFits g role
    → Numbered (layout_of g) (number_in (layout_of g) r role)
role_number g w r s (Current m) h = (sound_member (layout_of g) w r s m h).current
role_number g w r s (Old m) h = (sound_member (layout_of g) w r s m h).old
role_number g w r s Parity h = s.parity
