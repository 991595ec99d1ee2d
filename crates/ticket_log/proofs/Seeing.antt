-- Tickets looked at one after the other: how many are sound, and what stands after them.
use Prim.Native.Nat.{ℕ, zero, suc, ◌+◌, ◌-◌, ◌*◌, ◌/◌, ◌%◌, ◌≤◌, ◌<◌}
use native.Mathlib.Nat.{add-zero, add-suc}
use native.Mathlib.Numerals.{add-one}
use native.Mathlib.Omega.{arith}
use mathlib.Core.Path.{◌≡◌, refl, sym, ap, ◌∙◌}
use mathlib.Core.Logic.{◌≢◌}
use mathlib.Core.Bool.{Bool, true, false, not, cond, ◌&&◌, ◌||◌}
use mathlib.Core.List.{List}
use lib.ListN.{length, get_or}
use lib.Dec.{eqb}
use borrow.Author.Tests.{eqb-true, eq-eqb, ne_eqb, leb-true, le-leb, not-true}
use Rattle.std.specs.Bool.{then_some}
use Rattle.std.specs.Prelude.{Option, Some, None}
use Rattle.ranges.specs.Look.{all_below, last_below, when_found}
use Rattle.ranges.proofs.Looks.{by_test, by_order, by_same, both, all_true, all_at, last_at}
use Rattle.ranges.proofs.Tests.{and_both, and_left, unless_equal, under}
use Rattle.ranges.proofs.Tallies.{same_tests}
use Rattle.octets.specs.Number.{number}
use Rattle.octets.specs.Units.{part, unit}
use Rattle.octets.proofs.Lists.{number_two, number_four}
use Rattle.octets.proofs.Units.{part_unit, get_or_unit}
use Rattle.rules.specs.declared.Ticket.{Ticket}
use Rattle.rules.specs.Tickets.{ticket_bytes, ticket_of, ticket_sound, is_for}
use Rattle.ticket_log.specs.declared.Shown.{Shown}
use Rattle.ticket_log.specs.Walks.{Seen, is_plain, tickets_in, PageShows}

-- the fields of ticket i of a page, where they lie
pub ticket_is : (page : List ℕ) (i : ℕ)
    → record {
      kind = get_or page (i * 16) 0;
      blank = get_or page (i * 16 + 1) 0;
      bag = number (part (i * 16 + 2) 2 page);
      lot = number (part (i * 16 + 4) 4 page);
      gross = number (part (i * 16 + 8) 4 page);
      tare = number (part (i * 16 + 12) 4 page);
    }
    ≡ ticket_of (unit ticket_bytes i page)
unfolding ticket_of
ticket_is page i =
    let first : get_or (unit 16 i page) 0 0 ≡ get_or page (i * 16) 0 = get_or_unit 16 i 0 0 page (omega arith) ∙ ap (λ (a : ℕ). get_or page a 0) (add-zero (i * 16)) in
    rw (
      first,
      get_or_unit 16 i 1 0 page (omega arith),
      part_unit 16 i 2 2 page (omega arith),
      part_unit 16 i 4 4 page (omega arith),
      part_unit 16 i 8 4 page (omega arith),
      part_unit 16 i 12 4 page (omega arith),
    )

-- a number more, which is the highest that passes if it does
last_by : (found fits : Bool) (n latest : ℕ) {r : Option ℕ} → then_some found latest ≡ r
    → then_some (found || fits) (cond fits n latest) ≡ cond fits (Some n) r
last_by true true n latest e = refl
last_by true false n latest e = e
last_by false true n latest e = refl
last_by false false n latest e = e

module _ (x : ℕ → Ticket) (lot bag : ℕ) where
  pub seen_none : Seen x lot bag 0 None
  unfolding all_below last_below
  seen_none = record { sound = refl; told = refl }

  -- one ticket more
  pub seen_more : {n : ℕ} (latest : ℕ) (found : Bool) → Seen x lot bag n (then_some found latest) → ticket_sound (x n) ≡ true
      → Seen x lot bag (n + 1) (then_some (found || is_for lot bag (x n)) (cond (is_for lot bag (x n)) n latest))
  unfolding all_below last_below
  seen_more {n} latest found s h =
      rw add-one (record { sound = rw (s.sound, h); told = last_by found (is_for lot bag (x n)) n latest s.told })

  -- what stands after n tickets, where `first` stood and v t is what ticket t lets stand
  module _ {A : Type 0} (v : ℕ → A) where
    abbrev pub stood : A → ℕ → A
    stood first n = when_found (last_below n (λ t. is_for lot bag (x t))) v first

    stood_more : (first : A) (n : ℕ) → stood first (suc n) ≡ cond (is_for lot bag (x n)) (v n) (stood first n)
    unfolding last_below when_found
    stood_more first n = by_test (is_for lot bag (x n)) (λ e. rw e) (λ e. rw e)

    -- as the code tells it
    pub stood_is : {n : ℕ} {latest : Option ℕ} (first : A) → Seen x lot bag n latest → when_found latest v first ≡ stood first n
    stood_is first s = ap (λ (r : Option ℕ). when_found r v first) s.told

module _ (lot bag : ℕ) {A : Type 0} where
  stood_cong : (x y : ℕ → Ticket) (v w : ℕ → A) (first : A) (n : ℕ) → ((k : ℕ) → k < n → (x k ≡ y k) × (v k ≡ w k))
      → stood x lot bag v first n ≡ stood y lot bag w first n
  unfolding last_below when_found
  stood_cong x y v w first zero h = refl
  stood_cong x y v w first (suc n) h =
      rw (stood_more x lot bag v first n, stood_more y lot bag w first n, (h n (omega arith)).0, (h n (omega arith)).1, stood_cong x y v w first n (λ k b. h k (omega arith)))

  stood_append : (x : ℕ → Ticket) (v : ℕ → A) (first : A) (a n : ℕ)
      → stood x lot bag v first (a + n) ≡ stood (λ k. x (a + k)) lot bag (λ k. v (a + k)) (stood x lot bag v first a) n
  unfolding last_below when_found
  stood_append x v first a zero = rw add-zero
  stood_append x v first a (suc n) =
      rw (
        add-suc,
        stood_more x lot bag v first (a + n),
        stood_more (λ k. x (a + k)) lot bag (λ k. v (a + k)) (stood x lot bag v first a) n,
        stood_append x v first a n,
      )

  -- the first n tickets are sound, and let this stand
  pub record StandsTo (x : ℕ → Ticket) (v : ℕ → A) (first : A) (n : ℕ) (last : A) : Type 0 where
    pub sound : all_below n (λ t. ticket_sound (x t)) ≡ true
    pub stands : last ≡ stood x lot bag v first n

  pub stands_none : (x : ℕ → Ticket) (v : ℕ → A) (first : A) → StandsTo x v first 0 first
  unfolding all_below last_below when_found
  stands_none x v first = record { sound = refl; stands = refl }

  -- the tickets y of a page behind a others
  pub seen_page : {x y : ℕ → Ticket} {v w : ℕ → A} {first mid last : A} {a n : ℕ} {latest : Option ℕ} → ((k : ℕ) → k < n → (x (a + k) ≡ y k) × (v (a + k) ≡ w k))
      → StandsTo x v first a mid → Seen y lot bag n latest → last ≡ stood y lot bag w mid n → StandsTo x v first (a + n) last
  seen_page {x} {y} {v} {w} {first} {mid} {last} {a} {n} h s t e = record {
    sound = all_true (a + n) (λ k. ticket_sound (x k)) (λ k b.
        by_order k a
        (λ low. all_at a (λ i. ticket_sound (x i)) s.sound k low)
        (λ high.
        let e : a + (k - a) ≡ k = omega arith in
        rw (sym e, (h (k - a) (omega arith)).0) (all_at n (λ i. ticket_sound (y i)) t.sound (k - a) (omega arith))));
    stands =
        e
        ∙ sym (stood_cong (λ k. x (a + k)) y (λ k. v (a + k)) w mid n h)
        ∙ ap (λ (z : A). stood (λ k. x (a + k)) lot bag (λ k. v (a + k)) z n) s.stands
        ∙ sym (stood_append x v first a n);
  }

-- the latest ticket is one of the page's
pub latest_fits : {page : List ℕ} {lot bag : ℕ} {r : Shown} → PageShows page lot bag r → (i : ℕ) → r.latest ≡ Some i → i * ticket_bytes + ticket_bytes ≤ length page
latest_fits {page} {lot} {bag} {r} p i e =
    omega (arith, last_at r.kept (λ t. is_for lot bag (tickets_in page t)) i (sym p.seen.told ∙ e), p.few)

-- kind and the zero byte behind it in the lower half of the word, the bag in the upper
module _ (page : List ℕ) (a : ℕ) (fits : a + 4 ≤ length page) (low : get_or page a 0 < 256) (high : get_or page (a + 1) 0 < 256) where
  first_two : number (part a 4 page) % 65536 ≡ get_or page a 0 + 256 * get_or page (a + 1) 0
  first_two = rw (number_four page a fits, number_two page a (omega arith)) (omega arith)

  last_two : number (part a 4 page) / 65536 ≡ number (part (a + 2) 2 page)
  last_two = rw (number_four page a fits, number_two page a (omega arith)) (omega arith)

-- what the first look compares: kind and zero byte as one number, the weights, lot and bag
pub record PlainWords (first gross tare its whose lot bag : ℕ) : Type 0 where
  pub kind : first ≢ 1 → (first ≡ 2) × (gross ≡ 0)
  pub weights : tare ≤ gross
  pub other : its ≡ lot → whose ≢ bag

-- of two pairs of numbers one is of different ones
pub one_differs : (a b c d : ℕ) → not (eqb a b) || not (eqb c d) ≡ true → a ≡ b → c ≢ d
one_differs a b c d t e q = both false (rw (eq-eqb a b e, eq-eqb c d q) at t) refl

pub differs_one : (a b c d : ℕ) → (a ≡ b → c ≢ d) → not (eqb a b) || not (eqb c d) ≡ true
differs_one a b c d h = by_same a b (λ e. rw (eq-eqb a b e, ne_eqb c d (h e))) (λ n. rw (ne_eqb a b n))

not_for : (t : Ticket) (lot bag : ℕ) → (t.lot ≡ lot → t.bag ≢ bag) → is_for lot bag t ≡ false
not_for t lot bag h = by_same t.lot lot
    (λ e. rw (eq-eqb t.lot lot e, ne_eqb t.bag bag (h e)))
    (λ n. rw (ne_eqb t.lot lot n))

for_none : (t : Ticket) (lot bag : ℕ) → is_for lot bag t ≡ false → t.lot ≡ lot → t.bag ≢ bag
for_none t lot bag h e q = both (is_for lot bag t) (rw (eq-eqb t.lot lot e, eq-eqb t.bag bag q)) h

module _ (t : Ticket) (first lot bag : ℕ) (two : first ≡ t.kind + 256 * t.blank) where
  words_say : PlainWords first t.gross t.tare t.lot t.bag lot bag → ticket_sound t && not (is_for lot bag t) ≡ true
  unfolding ticket_sound
  words_say h =
      let tare = le-leb t.tare t.gross h.weights in
      let other = not_for t lot bag h.other in
      by_same first 1
      (λ e.
      let kind : t.kind ≡ 1 = omega arith in
      let blank : t.blank ≡ 0 = omega arith in
      rw (kind, blank, tare, other))
      (λ d.
      let kind : t.kind ≡ 2 = omega (arith, (h.kind d).0) in
      let blank : t.blank ≡ 0 = omega (arith, (h.kind d).0) in
      let none = eq-eqb t.tare 0 (omega (arith, h.weights, (h.kind d).1)) in
      rw (kind, blank, eq-eqb t.gross 0 (h.kind d).1, none, tare, other))

  words_said : ticket_sound t && not (is_for lot bag t) ≡ true → PlainWords first t.gross t.tare t.lot t.bag lot bag
  unfolding ticket_sound
  words_said e =
      let (sound, other) = and_both _ _ e in
      let (rest, tare) = and_both _ _ sound in
      let (start, weights) = and_both _ _ rest in
      let (kinds, zero_byte) = and_both _ _ start in
      let blank = eqb-true t.blank 0 zero_byte in
      record {
        kind = λ d.
            let two_is = unless_equal t.kind 1 (eqb t.kind 2) kinds (λ q. d (omega arith)) in
            (omega (arith, eqb-true t.kind 2 two_is), eqb-true t.gross 0 (and_left _ _ (under (eqb t.kind 2) _ weights two_is)));
        weights = leb-true t.tare t.gross tare;
        other = for_none t lot bag (not-true _ other);
      }

-- the words of ticket i
abbrev WordsAt : List ℕ → ℕ → ℕ → ℕ → Type 0
WordsAt page i lot bag =
    PlainWords (number (part (i * 16) 4 page) % 65536) (number (part (i * 16 + 8) 4 page)) (number (part (i * 16 + 12) 4 page)) (number (part (i * 16 + 4) 4 page))
    (number (part (i * 16) 4 page) / 65536) lot bag

module _ (page : List ℕ) (i lot bag : ℕ) (fits : i * 16 + 16 ≤ length page) (low : get_or page (i * 16) 0 < 256) (high : get_or page (i * 16 + 1) 0 < 256) where
  plain_is : WordsAt page i lot bag → is_plain page lot bag i ≡ true
  unfolding is_plain
  plain_is h =
      rw (sym (ticket_is page i))
      (words_say _ _ lot bag (first_two page (i * 16) (omega arith) low high) (rw (last_two page (i * 16) (omega arith) low high) at h))

  plain_says : is_plain page lot bag i ≡ true → WordsAt page i lot bag
  unfolding is_plain
  plain_says e =
      rw (last_two page (i * 16) (omega arith) low high)
      (words_said _ _ lot bag (first_two page (i * 16) (omega arith) low high) (rw (sym (ticket_is page i)) at e))

  -- a test that says so of the words
  pub plain_by : (test : Bool) → (test ≡ true → WordsAt page i lot bag) → (WordsAt page i lot bag → test ≡ true) → test ≡ is_plain page lot bag i
  plain_by test there back = same_tests test (is_plain page lot bag i) (λ e. plain_is (there e)) (λ e. back (plain_says e))

-- whether all tickets are plain so far
pub plain_none : (page : List ℕ) (lot bag : ℕ) → true ≡ all_below 0 (is_plain page lot bag)
unfolding all_below
plain_none page lot bag = refl

pub plain_more : (page : List ℕ) (lot bag i : ℕ) {plain one : Bool} → plain ≡ all_below i (is_plain page lot bag) → one ≡ is_plain page lot bag i
    → plain && one ≡ all_below (i + 1) (is_plain page lot bag)
unfolding all_below
plain_more page lot bag i e f = rw (add-one, e, f)

-- plain tickets, of which none is for the lot and bag
pub seen_plain : (page : List ℕ) (lot bag n : ℕ) → ((t : ℕ) → t < n → is_plain page lot bag t ≡ true) → Seen (tickets_in page) lot bag n None
unfolding all_below last_below is_plain
seen_plain page lot bag zero h = seen_none (tickets_in page) lot bag
seen_plain page lot bag (suc n) h =
    let (sound, other) = and_both (ticket_sound (tickets_in page n)) (not (is_for lot bag (tickets_in page n))) (h n (omega arith)) in
    let s = seen_plain page lot bag n (λ t b. h t (omega arith)) in
    record { sound = rw (s.sound, sound); told = s.told ∙ rw (not-true (is_for lot bag (tickets_in page n)) other) }
