-- Two looks at a record: what its first eight numbers and the two words behind them tell.
use Prim.Native.Nat.{ℕ, ◌+◌, ◌-◌, ◌*◌, ◌/◌, ◌%◌, ◌≤◌, ◌<◌}
use native.Mathlib.Nat.{add_assoc}
use native.Mathlib.Omega.{arith}
use mir.Val.{bool_byte}
use mathlib.Core.Path.{◌≡◌, refl, sym, ap, ◌∙◌}
use mathlib.Core.Logic.{◌≢◌}
use mathlib.Core.Bool.{Bool, true, false, not, cond, ◌&&◌, ◌||◌, and-true, and-false, or-false}
use mathlib.Core.List.{List}
use lib.ListN.{length, get_or}
use lib.Dec.{ltb, leb, eqb}
use borrow.Author.Tests.{lt-ltb, le-ltb, le-leb, eq-eqb, ne_eqb, eqb-true, ltb-true, leb-true}
use Rattle.ranges.specs.Look.{all_below, count_below}
use Rattle.ranges.proofs.Looks.{by_order, by_same, all_at, all_true}
use Rattle.ranges.proofs.Counts.{count_fail, count_cong, count_zero, count_all, count_positive}
use Rattle.ranges.proofs.Tallies.{ones, same_tests, count_from}
use Rattle.ranges.proofs.Tests.{and_both, under, unless_equal}
use Rattle.octets.proofs.Lists.{number_two}
use Rattle.layout.specs.declared.Geometry.{Geometry}
use Rattle.layout.specs.Layout.{layout_of, limits, none}
use Rattle.layout.specs.Images.{records_length}
use Rattle.layout.specs.Record.{record_at}
use Rattle.codec.specs.Fit.{RecordsFit}
use Rattle.codec.specs.Views.{six_at, record_from}
use Rattle.codec.specs.declared.StripeRecord.{StripeRecord}
use Rattle.codec.proofs.Sizes.{bounded}
use Rattle.codec.proofs.Encodings.{six_is, six_in, six_number, number_four, record_in, record_in_lem, rest_in, ended_same}
use Rattle.codec.specs.Scan.{Ranges, WordAt, Clear, current_given, Plain, number_at, number_in, is_written, written_in}

-- ---- a record with nothing in the partial parity, as the code reads it

-- number m of a list is a page
abbrev given : List ℕ → ℕ → Bool
given xs m = not (eqb (get_or xs m 0) 65535)

record Bare (g : Geometry) (e : StripeRecord) : Type 0 where
  current : (m : ℕ) → m < 6 → get_or e.current m 0 ≢ 65535
      → (m < g.n) × (get_or e.current m 0 < g.b * g.k) × (e.parity ≢ 65535)
  old : (m : ℕ) → m < 6 → get_or e.old m 0 ≡ 65535
  parity : e.parity ≢ 65535 → e.parity < g.b * g.k
  bitmap : e.bitmap ≡ 0
  slot : e.slot ≡ 255

bare_plain : {g : Geometry} {e : StripeRecord} → Bare g e
    → Plain (layout_of g) (record_from (layout_of g) e) (count_below 6 (given e.current) + cond (eqb e.parity 65535) 0 1)
unfolding record_from none
bare_plain {g} {e} b =
    let l = layout_of g in
    record {
      current = λ m h. rw (six_in l e.current m h) (b.current m h);
      old = λ m h. rw (six_in l e.old m h) (b.old m h);
      parity = b.parity;
      bitmap = b.bitmap;
      slot = b.slot;
      rest = refl;
      counted = rw (count_cong 6 (given e.current) (current_given l (record_from l e)) (λ m h. rw (six_in l e.current m h)));
    }

-- ---- one number

-- a test as a number
pub tested : (b : Bool) → (bool_byte b ≡ ones b) × (bool_byte b ≤ 1)
tested true = (refl, omega arith)
tested false = (refl, omega arith)

untested : (b : Bool) → bool_byte (not b) ≡ cond b 0 1
untested true = refl
untested false = refl

-- the number after x: 0 after none, which is the largest
abbrev pub next : ℕ → ℕ
next x = (x + 1) % 65536

next_none : (x : ℕ) → x < 65536 → eqb (next x) 0 ≡ eqb x 65535
next_none x h = same_tests (eqb (next x) 0) (eqb x 65535)
    (λ t. eq-eqb x 65535 (omega (arith, eqb-true (next x) 0 t)))
    (λ t. eq-eqb (next x) 0 (omega (arith, eqb-true x 65535 t)))

-- a page within its range is a member's
in_range : {n pages : ℕ} {tops : List ℕ} → Ranges n pages tops → (m x : ℕ) → m < 8 → x < 65536 → leb (next x) (get_or tops m 0) ≡ true
    → x ≢ 65535 → (m < n) × (x < pages)
in_range {n} {pages} {tops} r m x h small t d =
    let low = leb-true (next x) (get_or tops m 0) t in
    by_order m n
    (λ b. let top = rw (lt-ltb m n b) at (r.is m h) in (b, omega arith))
    (λ b. let top = rw (le-ltb m n b) at (r.is m h) in absurd (d (omega arith)))

-- the parity page is below the pages
pub parity_low : (p pages : ℕ) → eqb p 65535 || ltb p pages ≡ true → p ≢ 65535 → p < pages
parity_low p pages t d = ltb-true p pages (unless_equal p 65535 (ltb p pages) t d)

-- without one there are no pages
pub no_parity : (p names : ℕ) → not (eqb p 65535) || eqb names 0 ≡ true → p ≡ 65535 → names ≡ 0
no_parity p names t q = eqb-true names 0 (under (eqb p 65535) (eqb names 0) t (eq-eqb p 65535 q))

-- a number that is written is within its range, and a page exactly if a member's
written : {n pages : ℕ} {tops : List ℕ} → Ranges n pages tops → 0 < pages → pages ≤ 65535 → (m x : ℕ) → m < 8
    → is_written (get_or tops m 0) x ≡ true
    → (leb (next x) (get_or tops m 0) ≡ true) × (not (eqb (next x) 0) ≡ ltb m n)
written {n} {pages} r some most m x h t = by_order m n
    (λ b.
    let top = rw (lt-ltb m n b) at (r.is m h) in
    let low = ltb-true x pages (rw (top, ne_eqb pages 0 (omega arith), and-false, or-false) at t) in
    (rw top (le-leb (next x) pages (omega arith)), rw (lt-ltb m n b, ne_eqb (next x) 0 (omega arith))))
    (λ b.
    let top = rw (le-ltb m n b) at (r.is m h) in
    let same = eqb-true x 65535 (rw (top, le-ltb x 0 (omega arith), and-true) at t) in
    (rw (top, same), rw (same, le-ltb m n b)))

-- ---- the numbers of a record

-- number i of the record at offset a is within its range
abbrev pub low_in : List ℕ → List ℕ → ℕ → ℕ → Bool
low_in tops xs a i = leb (next (number_in xs a i)) (get_or tops i 0)

-- it is a page
abbrev pub given_in : List ℕ → ℕ → ℕ → Bool
given_in xs a i = not (eqb (next (number_in xs a i)) 0)

-- where all members are written, all eight are within their ranges, and as many are pages
all_written : {n pages : ℕ} {tops : List ℕ} → Ranges n pages tops → 0 < pages → pages ≤ 65535 → n ≤ 8 → (xs : List ℕ) (a : ℕ)
    → all_below 8 (written_in tops xs a) ≡ true → (all_below 8 (low_in tops xs a) ≡ true) × (count_below 8 (given_in xs a) ≡ n)
all_written {n} {pages} {tops} r some most few xs a e =
    let each : (i : ℕ) → i < 8 → (low_in tops xs a i ≡ true) × (given_in xs a i ≡ ltb i n) =
    λ i h. written r some most i (number_in xs a i) h (all_at 8 (written_in tops xs a) e i h) in
    let members = count_all n (given_in xs a) (λ i h. rw ((each i (omega arith)).1, lt-ltb i n h)) in
    let others = count_zero (8 - n) (λ i. given_in xs a (n + i)) (λ i h. rw ((each (n + i) (omega arith)).1, le-ltb (n + i) n (omega arith))) in
    let eight : n + (8 - n) ≡ 8 = omega arith in
    (all_true 8 (low_in tops xs a) (λ i h. (each i h).0), omega (arith, rw eight at (count_from n (8 - n) (given_in xs a))))

-- ---- what the look tells of it

-- the first eight numbers are within their ranges
record Looked (g : Geometry) (xs tops : List ℕ) (a : ℕ) : Type 0 where
  limited : limits (layout_of g) ≡ true
  ranges : Ranges g.n (g.b * g.k) tops
  long : a + 32 ≤ length xs
  bytes : (i : ℕ) → get_or xs i 0 < 256
  lows : all_below 8 (low_in tops xs a) ≡ true

module _ {g : Geometry} {xs tops : List ℕ} {a : ℕ} (k : Looked g xs tops a) where
  -- they have two bytes each
  small : (i : ℕ) → i < 8 → number_in xs a i < 65536
  small i h = omega (arith, number_two xs (a + 2 * i) (omega arith), k.bytes (a + 2 * i), k.bytes (a + 2 * i + 1))

  -- a page is a member's
  of_member : (i : ℕ) → i < 8 → number_in xs a i ≢ 65535 → (i < g.n) × (number_in xs a i < g.b * g.k)
  of_member i h = in_range k.ranges i (number_in xs a i) h (small i h) (all_at 8 (low_in tops xs a) k.lows i h)

  -- so the last two are none
  beyond : (i : ℕ) → i < 8 → 6 ≤ i → number_in xs a i ≡ 65535
  beyond i h high = by_same (number_in xs a i) 65535 (λ e. e) (λ d. absurd (omega (arith, of_member i h d, bounded g k.limited)))

  -- and the pages counted are the current ones
  counted : (i : ℕ) → i < 8 → given_in xs a i ≡ not (eqb (number_in xs a i) 65535)
  counted i h = ap not (next_none (number_in xs a i) (small i h))

  counts : count_below 8 (given_in xs a) ≡ count_below 6 (given (six_at a xs))
  counts =
      let last : (i : ℕ) → i < 8 → 6 ≤ i → given_in xs a i ≡ false = λ i h high. rw (counted i h, beyond i h high) in
      count_fail 7 (given_in xs a) (last 7 (omega arith) (omega arith))
      ∙ count_fail 6 (given_in xs a) (last 6 (omega arith) (omega arith))
      ∙ count_cong 6 (given_in xs a) (given (six_at a xs)) (λ i h. rw (counted i (omega arith), six_number a xs i h))

  -- a current page, where there are none without the parity page p
  current_page : {p : ℕ} → (p ≡ 65535 → count_below 8 (given_in xs a) ≡ 0) → (m : ℕ) → m < 6 → number_in xs a m ≢ 65535
      → (m < g.n) × (number_in xs a m < g.b * g.k) × (p ≢ 65535)
  current_page without m h d =
      let (member, page) = of_member m (omega arith) d in
      let there : given_in xs a m ≡ true = rw (counted m (omega arith), ne_eqb (number_in xs a m) 65535 d) in
      (member, page, λ q. omega (arith, without q, count_positive 8 (given_in xs a) m (omega arith) there))

  -- the old numbers are none: two are the last of the eight
  no_olds : Clear xs a → (m : ℕ) → m < 6 → get_or (six_at (a + 12) xs) m 0 ≡ 65535
  no_olds c = six_is (λ m. 65535)
      (beyond 6 (omega arith) (omega arith))
      (rw add_assoc (beyond 7 (omega arith) (omega arith)))
      (rw add_assoc c.third)
      (rw add_assoc c.fourth)
      (rw add_assoc c.fifth)
      (rw add_assoc c.sixth)

  -- so the record is bare
  bare : {p : ℕ} → p ≡ number_at xs (a + 24) → Clear xs a → (p ≢ 65535 → p < g.b * g.k) → (p ≡ 65535 → count_below 8 (given_in xs a) ≡ 0)
      → Bare g (record_in xs a)
  bare is c low without = record {
    current = λ m h. rw (six_number a xs m h, ← is) (current_page without m h);
    old = no_olds c;
    parity = rw is at low;
    bitmap = c.bitmap;
    slot = c.slot;
  }

-- ---- two words make the ending clear

module _ {xs : List ℕ} {a : ℕ} (long : a + 32 ≤ length xs) (bytes : (i : ℕ) → get_or xs i 0 < 256) where
  pub clear : {olds last : ℕ} → WordAt xs (a + 16) olds → WordAt xs (a + 24) last → olds ≡ 18446744073709551615 → last / 65536 ≡ 65280 → Clear xs a
  clear old-word word none_old ends =
      let two : number_at xs (a + 26) ≡ get_or xs (a + 26) 0 + 256 * get_or xs (a + 27) 0 =
      rw (← add_assoc a 26 1) (number_two xs (a + 26) (omega arith)) in
      let second : number_at xs (a + 26) ≡ 65280 = rw (← add_assoc a 24 2) (omega arith) in
      record {
        third = omega arith;
        fourth = rw (← add_assoc a 16 2) (omega arith);
        fifth = rw (← add_assoc a 16 4) (omega arith);
        sixth = rw (← add_assoc a 16 6) (omega arith);
        bitmap = omega (arith, bytes (a + 26), bytes (a + 27));
        slot = omega (arith, bytes (a + 26), bytes (a + 27));
        rest = rw (number_four (a + 28) xs, add_assoc a 28 2, ← add_assoc a 24 4, ← add_assoc a 24 6) (omega arith);
      }

-- ---- what the looks tell of record j, with its parity number p

module _ {g : Geometry} {xs tops : List ℕ} {j p : ℕ} (fit : RecordsFit g xs) (stripe : j < g.s)
    (ranges : Ranges g.n (g.b * g.k) tops) (bytes : (i : ℕ) → get_or xs i 0 < 256) (is : p ≡ number_at xs (j * 32 + 24)) where
  -- it is plain where its ending is clear, its numbers are within their ranges, and there are none without a parity page
  pub plain : Clear xs (j * 32) → all_below 8 (low_in tops xs (j * 32)) ≡ true
      → (p ≢ 65535 → p < g.b * g.k) → (p ≡ 65535 → count_below 8 (given_in xs (j * 32)) ≡ 0)
      → Plain (layout_of g) (record_at (layout_of g) xs j) (count_below 8 (given_in xs (j * 32)) + cond (eqb p 65535) 0 1)
  unfolding records_length
  plain ends lows low without =
      let k : Looked g xs tops (j * 32) =
      record { limited = fit.limited; ranges = ranges; long = omega (arith, fit.long); bytes = bytes; lows = lows } in
      let b = bare k is ends low without in
      let same = record_in_lem g xs j stripe ∙ ended_same (rest_in g xs j stripe ∙ ends.rest) in
      rw (← same, counts k, is) (bare_plain b)

  -- so it is where all members are written and the parity page is there
  pub full : Clear xs (j * 32) → p < g.b * g.k → all_below 8 (written_in tops xs (j * 32)) ≡ true
      → Plain (layout_of g) (record_at (layout_of g) xs j) (g.n + 1)
  full ends low all =
      let limit = bounded g fit.limited in
      let (lows, count) = all_written ranges (omega arith) limit.pages (omega arith) xs (j * 32) all in
      rw (count, ne_eqb p 65535 (omega arith)) at (plain ends lows (λ d. low) (λ q. absurd (omega (arith, low, limit.pages))))

  -- the flag and the count of a look at all eight numbers tell as much
  pub glanced : {low : Bool} {names own : ℕ} → Clear xs (j * 32) → low ≡ all_below 8 (low_in tops xs (j * 32)) → names ≡ count_below 8 (given_in xs (j * 32))
      → low && (eqb p 65535 || ltb p (g.b * g.k)) && (not (eqb p 65535) || eqb names 0) ≡ true → own ≡ bool_byte (not (eqb p 65535))
      → Plain (layout_of g) (record_at (layout_of g) xs j) (names + own)
  glanced ends lows counted t with_own =
      let (two, without) = and_both _ _ t in
      let (low, page) = and_both _ _ two in
      rw (with_own, untested (eqb p 65535), counted) (plain ends (sym lows ∙ low) (parity_low _ _ page) (λ q. sym counted ∙ no_parity _ _ without q))
