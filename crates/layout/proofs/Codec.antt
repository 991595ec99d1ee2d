-- What is stored is read back: the bytes of a page, a record and the collection record decode to what they were made of.
use Prim.Native.Nat.{ℕ, zero, suc, ◌+◌, ◌-◌, ◌*◌, ◌^◌, ◌≤◌, ◌<◌}
use native.Mathlib.Nat.{add-zero, suc-mul, add-mul, zero-mul, not-suc-le-zero}
use native.Mathlib.Decide.{dec_lt}
use native.Mathlib.Omega.{arith}
use mathlib.Core.Path.{◌≡◌, refl, sym, ap, ◌∙◌, fun_ext}
use mathlib.Core.List.{List, [], ◌∷◌, ◌++◌, append_assoc}
use lib.ListN.{length, get_or, length-append, length-replicate}
use lib.Seq.{get_or-append-add, get_or_at, take_at}
use borrow.Author.Tests.{lt-ltb, le-ltb}
use Rattle.octets.specs.Number.{number, digits}
use Rattle.octets.specs.Units.{part}
use Rattle.octets.proofs.Units.{apart, part_append_left, part_append_from, part_whole}
use Rattle.octets.proofs.Numbers.{length_digits, number_digits}
use Rattle.layout.specs.Layout.{Layout, none, page_bytes, record_bytes}
use Rattle.layout.specs.Page.{Page, tail_bytes, blank_tail, page_of, bytes_of_page}
use Rattle.layout.specs.Record.{Record, row, rest_bytes, six_from, record_of, bytes_of_record}
use Rattle.layout.specs.Collection.{Collection, collection_of, bytes_of_collection}

-- fields behind a list of known length
pub get_or_from : (n a : ℕ) (xs ys : List ℕ) (d : ℕ) → length xs ≡ n → get_or (xs ++ ys) (n + a) d ≡ get_or ys a d
get_or_from n a xs ys d e = rw (← e) (get_or-append-add xs ys a d)

pub part_first : (k : ℕ) (xs ys : List ℕ) → length xs ≡ k → part 0 k (xs ++ ys) ≡ xs
part_first k xs ys e = part_append_left 0 k xs ys (omega arith) ∙ part_whole k xs e

-- the number in k bytes at the front of a list
pub number_first : (k x : ℕ) (ys : List ℕ) → x < 256 ^ k → number (part 0 k (digits k x ++ ys)) ≡ x
number_first k x ys h = rw (part_first k (digits k x) ys (length_digits k x)) (number_digits k x h)

module _ (l : Layout) where
  open l use {W, D}

  -- a page whose numbers fit their fields
  pub record PageFits (x : Page) : Type 0 where
    pub whole : length x.bytes ≡ W
    pub stripe : x.stripe < 256 ^ 2
    pub copied : x.copied < 256 ^ D
    pub tail : length x.tail ≡ tail_bytes l

  -- a record whose numbers fit their fields, and that has none beyond the six
  pub record RecordFits (r : Record) : Type 0 where
    pub current : (m : ℕ) → m < 6 → r.current m < 256 ^ D
    pub old : (m : ℕ) → m < 6 → r.old m < 256 ^ D
    pub beyond : (m : ℕ) → 6 ≤ m → (r.current m ≡ none l) × (r.old m ≡ none l)
    pub parity : r.parity < 256 ^ D
    pub rest : r.rest < 256 ^ rest_bytes l

  -- a collection record whose numbers fit their fields
  pub record CollectionFits (co : Collection) : Type 0 where
    pub victim : co.victim < 256 ^ 2
    pub destination : co.destination < 256 ^ 2
    pub rest : co.rest < 256 ^ (record_bytes l - 6)

-- the tail of a page that is programmed
pub length_blank : (l : Layout) → length (blank_tail l) ≡ tail_bytes l
unfolding blank_tail
length_blank l = length-replicate (tail_bytes l) 255

module _ (l : Layout) (narrow : l.D ≤ 4) where
  open l use {W, D}

  pub length_page : (x : Page) → PageFits l x → length (bytes_of_page l x) ≡ page_bytes l
  unfolding bytes_of_page
  length_page x f = simp (length-append, length_digits) (omega (arith, f.whole, f.tail))

  -- the two single bytes of a spare, and what stands behind them
  behind : (a k : ℕ) (x y : ℕ) (ys : List ℕ) → part (2 + a) k (x ∷ y ∷ ys) ≡ part a k ys
  behind a k x y ys = part_append_from 2 a k (x ∷ y ∷ []) ys refl

  page_stripe : (x : Page) → PageFits l x → (page_of l (bytes_of_page l x)).stripe ≡ x.stripe
  unfolding bytes_of_page page_of
  page_stripe x f =
      let tail = digits D x.copied ++ x.tail in
      let spare = x.kind ∷ x.member ∷ (digits 2 x.stripe ++ tail) in
      ap number (part_append_from W 2 2 x.bytes spare f.whole ∙ behind 0 2 x.kind x.member (digits 2 x.stripe ++ tail))
      ∙ number_first 2 x.stripe tail f.stripe

  page_copied : (x : Page) → PageFits l x → (page_of l (bytes_of_page l x)).copied ≡ x.copied
  unfolding bytes_of_page page_of
  page_copied x f =
      let tail = digits D x.copied ++ x.tail in
      let spare = x.kind ∷ x.member ∷ (digits 2 x.stripe ++ tail) in
      ap number
      (part_append_from W 4 D x.bytes spare f.whole
      ∙ behind 2 D x.kind x.member (digits 2 x.stripe ++ tail)
      ∙ part_append_from 2 0 D (digits 2 x.stripe) tail (length_digits 2 x.stripe))
      ∙ number_first D x.copied x.tail f.copied

  page_tail : (x : Page) → PageFits l x → (page_of l (bytes_of_page l x)).tail ≡ x.tail
  unfolding bytes_of_page page_of
  page_tail x f =
      let tail = digits D x.copied ++ x.tail in
      let spare = x.kind ∷ x.member ∷ (digits 2 x.stripe ++ tail) in
      let at : W + 4 + D ≡ W + (2 + (2 + D)) = omega arith in
      rw at
      (part_append_from W (2 + (2 + D)) (tail_bytes l) x.bytes spare f.whole
      ∙ behind (2 + D) (tail_bytes l) x.kind x.member (digits 2 x.stripe ++ tail)
      ∙ part_append_from 2 D (tail_bytes l) (digits 2 x.stripe) tail (length_digits 2 x.stripe)
      ∙ (rw add-zero at (part_append_from D 0 (tail_bytes l) (digits D x.copied) x.tail (length_digits D x.copied)))
      ∙ part_whole (tail_bytes l) x.tail f.tail)

  pub page_decodes : (x : Page) → PageFits l x → page_of l (bytes_of_page l x) ≡ x
  unfolding bytes_of_page page_of
  page_decodes x f =
      let rest = digits 2 x.stripe ++ (digits D x.copied ++ x.tail) in
      λ i. record {
        bytes = take_at x.bytes (x.kind ∷ x.member ∷ rest) W f.whole i;
        kind = get_or_at x.bytes x.kind (x.member ∷ rest) 0 W f.whole i;
        member = get_or_from W 1 x.bytes (x.kind ∷ x.member ∷ rest) 0 f.whole i;
        stripe = page_stripe x f i;
        copied = page_copied x f i;
        tail = page_tail x f i;
      }

-- a row of numbers in d bytes each: its length, and number m of it
pub length_row : (d : ℕ) (f : ℕ → ℕ) (n : ℕ) → length (row d f n) ≡ n * d
unfolding row
length_row d f zero = sym (zero-mul d)
length_row d f (suc n) = rw (length-append, length_row d f n, length_digits, suc-mul)

row_next : (d : ℕ) (f : ℕ → ℕ) (n m : ℕ) → m < suc n → (m < n → part (m * d) d (row d f n) ≡ digits d (f m))
    → part (m * d) d (row d f n ++ digits d (f n)) ≡ digits d (f m)
row_next d f n m h before = elim (dec_lt m n) [
  | yes b ↦ part_append_left (m * d) d (row d f n) (digits d (f n)) (rw length_row (apart d m n b)) ∙ before b
  | no b ↦
      let e : m ≡ n = omega arith in
      rw e
      (rw (add-zero, part_whole d (digits d (f n)) (length_digits d (f n)))
      at (part_append_from (n * d) 0 d (row d f n) (digits d (f n)) (length_row d f n)))
]

pub row_part : (d : ℕ) (f : ℕ → ℕ) (n m : ℕ) → m < n → part (m * d) d (row d f n) ≡ digits d (f m)
unfolding row
row_part d f zero m h = absurd (not-suc-le-zero h)
row_part d f (suc n) m h = row_next d f n m h (row_part d f n m)

module _ (l : Layout) (some : 1 ≤ l.D) where
  open l use {D}

  pub length_record : (r : Record) → length (bytes_of_record l r) ≡ record_bytes l
  unfolding bytes_of_record
  length_record r = simp (length-append, length_row, length_digits) (omega arith)

  -- the six numbers of a row that stands behind `from` numbers
  six_decodes : (from : ℕ) (f : ℕ → ℕ) (xs ys : List ℕ) → length xs ≡ from * D → ((m : ℕ) → m < 6 → f m < 256 ^ D)
      → ((m : ℕ) → 6 ≤ m → f m ≡ none l) → six_from l from (xs ++ (row D f 6 ++ ys)) ≡ f
  unfolding six_from
  six_decodes from f xs ys e fits beyond = fun_ext λ m. elim (dec_lt m 6) [
    | yes b ↦
        let inside : m * D + D ≤ length (row D f 6) = rw length_row (apart D m 6 b) in
        rw (lt-ltb m 6 b, add-mul, part_append_from (from * D) (m * D) D xs (row D f 6 ++ ys) e, part_append_left (m * D) D (row D f 6) ys inside, row_part D f 6 m b)
        (number_digits D (f m) (fits m b))
    | no b ↦ rw (le-ltb m 6 (omega arith), beyond m (omega arith))
  ]

  -- what stands behind the twelve numbers of a record
  tail_of : Record → List ℕ
  tail_of r = digits D r.parity ++ (r.bitmap ∷ r.slot ∷ digits (rest_bytes l) r.rest)

  numbers_of : Record → List ℕ
  numbers_of r = row D r.current 6 ++ row D r.old 6

  regrouped : (r : Record) → bytes_of_record l r ≡ numbers_of r ++ tail_of r
  unfolding bytes_of_record numbers_of tail_of
  regrouped r = sym (append_assoc (row D r.current 6) (row D r.old 6) (tail_of r))

  length_numbers : (r : Record) → length (numbers_of r) ≡ 12 * D
  unfolding numbers_of
  length_numbers r = simp (length-append, length_row) (omega arith)

  length_front : (r : Record) → length (numbers_of r ++ digits D r.parity) ≡ 13 * D
  length_front r = simp (length-append, length_numbers, length_digits) (omega arith)

  -- the bytes behind the thirteen numbers
  fronted : (r : Record) → bytes_of_record l r
      ≡ (numbers_of r ++ digits D r.parity) ++ (r.bitmap ∷ r.slot ∷ digits (rest_bytes l) r.rest)
  unfolding tail_of
  fronted r = regrouped r ∙ sym (append_assoc (numbers_of r) (digits D r.parity) (r.bitmap ∷ r.slot ∷ digits (rest_bytes l) r.rest))

  record_current : (r : Record) → RecordFits l r → (record_of l (bytes_of_record l r)).current ≡ r.current
  unfolding record_of bytes_of_record tail_of
  record_current r f =
      six_decodes 0 r.current [] (row D r.old 6 ++ tail_of r) (sym (zero-mul D)) f.current (λ m b. (f.beyond m b).0)

  record_old : (r : Record) → RecordFits l r → (record_of l (bytes_of_record l r)).old ≡ r.old
  unfolding record_of bytes_of_record tail_of
  record_old r f =
      six_decodes 6 r.old (row D r.current 6) (tail_of r) (length_row D r.current 6) f.old (λ m b. (f.beyond m b).1)

  record_parity : (r : Record) → RecordFits l r → (record_of l (bytes_of_record l r)).parity ≡ r.parity
  unfolding record_of tail_of
  record_parity r f =
      rw (regrouped r)
      (ap number (rw add-zero at (part_append_from (12 * D) 0 D (numbers_of r) (tail_of r) (length_numbers r)))
      ∙ number_first D r.parity (r.bitmap ∷ r.slot ∷ digits (rest_bytes l) r.rest) f.parity)

  module _ (r : Record) where
    ending : List ℕ
    ending = r.bitmap ∷ r.slot ∷ digits (rest_bytes l) r.rest

    record_bitmap : (record_of l (bytes_of_record l r)).bitmap ≡ r.bitmap
    unfolding record_of
    record_bitmap =
        rw (fronted r) (get_or_at (numbers_of r ++ digits D r.parity) r.bitmap (r.slot ∷ digits (rest_bytes l) r.rest) 0 (13 * D) (length_front r))

    record_slot : (record_of l (bytes_of_record l r)).slot ≡ r.slot
    unfolding record_of ending
    record_slot =
        rw (fronted r) (get_or_from (13 * D) 1 (numbers_of r ++ digits D r.parity) ending 0 (length_front r))

    record_rest : RecordFits l r → (record_of l (bytes_of_record l r)).rest ≡ r.rest
    unfolding record_of ending
    record_rest f =
        rw (fronted r)
        (ap number
        (part_append_from (13 * D) 2 (rest_bytes l) (numbers_of r ++ digits D r.parity) ending (length_front r)
        ∙ part_append_from 2 0 (rest_bytes l) (r.bitmap ∷ r.slot ∷ []) (digits (rest_bytes l) r.rest) refl
        ∙ part_whole (rest_bytes l) (digits (rest_bytes l) r.rest) (length_digits (rest_bytes l) r.rest))
        ∙ number_digits (rest_bytes l) r.rest f.rest)

  pub record_decodes : (r : Record) → RecordFits l r → record_of l (bytes_of_record l r) ≡ r
  record_decodes r f = λ i. record {
    current = record_current r f i;
    old = record_old r f i;
    parity = record_parity r f i;
    bitmap = record_bitmap r i;
    slot = record_slot r i;
    rest = record_rest r f i;
  }

  pub length_collection : (co : Collection) → length (bytes_of_collection l co) ≡ record_bytes l
  unfolding bytes_of_collection
  length_collection co = simp (length-append, length_digits) (omega arith)

  module _ (co : Collection) (f : CollectionFits l co) where
    -- the two single bytes, and the three numbers behind them
    front : List ℕ
    front = co.phase ∷ co.chip ∷ []

    v : List ℕ
    v = digits 2 co.victim

    d : List ℕ
    d = digits 2 co.destination

    z : List ℕ
    z = digits (record_bytes l - 6) co.rest

    collection_victim : (collection_of l (bytes_of_collection l co)).victim ≡ co.victim
    unfolding collection_of bytes_of_collection front v d z
    collection_victim =
        ap number (part_append_from 2 0 2 front (v ++ (d ++ z)) refl) ∙ number_first 2 co.victim (d ++ z) f.victim

    collection_destination : (collection_of l (bytes_of_collection l co)).destination ≡ co.destination
    unfolding collection_of bytes_of_collection front v d z
    collection_destination =
        ap number
        (part_append_from 2 2 2 front (v ++ (d ++ z)) refl
        ∙ part_append_from 2 0 2 v (d ++ z) (length_digits 2 co.victim))
        ∙ number_first 2 co.destination z f.destination

    collection_rest : (collection_of l (bytes_of_collection l co)).rest ≡ co.rest
    unfolding collection_of bytes_of_collection front v d z
    collection_rest =
        let k = record_bytes l - 6 in
        ap number
        (part_append_from 2 4 k front (v ++ (d ++ z)) refl
        ∙ part_append_from 2 2 k v (d ++ z) (length_digits 2 co.victim)
        ∙ part_append_from 2 0 k d z (length_digits 2 co.destination)
        ∙ part_whole k z (length_digits k co.rest))
        ∙ number_digits k co.rest f.rest

    pub collection_decodes : collection_of l (bytes_of_collection l co) ≡ co
    unfolding collection_of bytes_of_collection
    collection_decodes = λ i. record {
      phase = co.phase;
      chip = co.chip;
      victim = collection_victim i;
      destination = collection_destination i;
      rest = collection_rest i;
    }
