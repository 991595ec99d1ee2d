-- What a walk through the pages has found is the log's end, its soundness, its reads, and what stands.
use Prim.Native.Nat.{ℕ, ◌+◌, ◌*◌, ◌/◌, ◌%◌, ◌≤◌, ◌<◌}
use native.Mathlib.Nat.{zero-mul, suc-mul, mul-le-mul, mod-lt, div-add-mod', div-eq_of_lt, mod-eq_of_lt}
use native.Mathlib.Numerals.{add-one}
use native.Mathlib.Omega.{arith}
use mathlib.Core.Path.{◌≡◌, refl, sym, ap, ◌∙◌}
use mathlib.Core.Bool.{true, false, ◌||◌}
use mathlib.Core.List.{List}
use lib.Arith.{digits_lt, digits_div, digits_mod}
use lib.Dec.{eqb}
use lib.ListN.{length}
use borrow.Author.Tests.{eqb-true}
use Rattle.std.specs.Prelude.{Option, Some, None, is_some, unwrap_or}
use Rattle.ranges.specs.Look.{first_below, last_below, sum_below, when_found}
use Rattle.ranges.proofs.Looks.{by_test, by_order, by_found, at_last, both, all_at, first_at, first_is, first_none}
use Rattle.ranges.proofs.Sums.{sum_more}
use Rattle.ranges.proofs.Tests.{and_left}
use Rattle.layout.specs.Layout.{Layout}
use Rattle.layout.specs.Rotation.{parity_chip}
use Rattle.layout.specs.Images.{Images}
use Rattle.layout.proofs.Limits.{Within}
use Rattle.layout.proofs.Rotations.{stripe_fits, member_fits}
use Rattle.rules.specs.declared.Origin.{Origin}
use Rattle.rules.specs.declared.Origin.TheVariants.{Unwritten}
use Rattle.rules.specs.declared.Ticket.{Ticket}
use Rattle.rules.specs.Read.{fetch, fetch_member}
use Rattle.rules.specs.Origins.{greater, greatest_origin}
use Rattle.rules.specs.Tickets.{ticket_bytes, is_empty, ticket_sound, is_for, weight_of}
use Rattle.rules.specs.Log.{carried, per_page, places, falls_in, bytes_at, ticket_at, contents, origins, log_end, log_length, log_sound, latest, standing, log_pages, log_origin, log_reads}
use Rattle.ticket_log.specs.declared.Shown.{Shown}
use Rattle.ticket_log.specs.declared.Latest.{Latest}
use Rattle.ticket_log.specs.declared.Position.{Position}
use Rattle.ticket_log.specs.declared.Looked.{Looked}
use Rattle.ticket_log.specs.declared.Walk.{Walk}
use Rattle.ticket_log.specs.Walks.{tickets_in, Held, held_by, held_from, nothing_held, position_of, PageShows, PageLooked, Walked, whole, walk_of}
use Rattle.ticket_log.proofs.Seeing.{StandsTo, stands_none, seen_page, stood_is}

-- a store has few pages
pub pages_few : (l : Layout) → Within l → l.N * l.S ≤ 393210
pages_few l w = mul-le-mul w.members_high w.stripes_high

-- and few places
pub places_few : (l : Layout) → Within l → {i n : ℕ} → i < l.N * l.S → n ≡ l.W → i * (n / ticket_bytes) ≤ 100661760
places_few l w {i} {n} h e =
    let low : i ≤ 393210 = omega (arith, h, pages_few l w) in
    let per : n / ticket_bytes ≤ 256 = rw e (omega (arith, w.bytes_high)) in
    mul-le-mul low per

-- a sound ticket is not empty
kind_some : (k : ℕ) → eqb k 1 || eqb k 2 ≡ true → eqb k 0 ≡ false
kind_some k e = by_test (eqb k 1)
    (λ one. rw (eqb-true k 1 one))
    (λ other. rw (eqb-true k 2 (rw other at e)))

not_empty : (t : Ticket) → ticket_sound t ≡ true → is_empty t ≡ false
unfolding ticket_sound
not_empty t e = kind_some t.kind (and_left _ _ (and_left _ _ (and_left _ _ e)))

module _ (l : Layout) (f : ℕ → List ℕ) where
  -- the tickets of page i in the log
  in_page : (i k : ℕ) → k < per_page l → ticket_at l f (i * per_page l + k) ≡ tickets_in (f i) k
  unfolding bytes_at
  in_page i k h = rw (digits_mod i h, digits_div i h)

  -- o tells how each page was got
  module _ (o : ℕ → Origin) (lot bag : ℕ) where
    -- what the ticket at a place lets stand
    abbrev held_at : ℕ → Held
    held_at t = held_by (ticket_at l f t) (o (falls_in l t))

    -- the log's tickets before place n are sound, and let this stand
    abbrev pub SeenTo : ℕ → Held → Type 0
    SeenTo n last = StandsTo lot bag (ticket_at l f) held_at nothing_held n last

    held_in : (i k : ℕ) → k < per_page l → (ticket_at l f (i * per_page l + k) ≡ tickets_in (f i) k) × (held_at (i * per_page l + k) ≡ held_by (tickets_in (f i) k) (o i))
    held_in i k h = (in_page i k h, rw (in_page i k h, digits_div i h))

    pub seen_to : {i : ℕ} {mid last : Held} {r : Shown} → length (f i) ≡ l.W → SeenTo (i * per_page l) mid → PageShows (f i) lot bag r
        → last ≡ when_found r.latest (λ k. held_by (tickets_in (f i) k) (o i)) mid → SeenTo (i * per_page l + r.kept) last
    seen_to {i} {mid} {last} {r} long s p after =
        let few : r.kept ≤ per_page l = rw long at p.few in
        seen_page lot bag (λ k h. held_in i k (omega arith)) s p.seen (after ∙ stood_is (tickets_in (f i)) lot bag (λ k. held_by (tickets_in (f i) k) (o i)) mid p.seen)

    -- what stands of the log, and how it was got
    abbrev Told : Option ℕ → ℕ → Held → Type 0
    Told end pages last =
        (log_end l f ≡ end) × (log_sound l f ≡ true) × (standing l f lot bag ≡ last.standing)
        × (log_origin l f o lot bag ≡ carried last.standing last.origin (greatest_origin pages o))

    stands_held : (r : Option ℕ) → when_found r (λ t. weight_of (ticket_at l f t)) None ≡ (when_found r held_at nothing_held).standing
    unfolding when_found
    stands_held (Some t) = refl
    stands_held None = refl

    origin_held : (r : Option ℕ) → when_found r (λ t. o (falls_in l t)) Unwritten ≡ (when_found r held_at nothing_held).origin
    unfolding when_found
    origin_held (Some t) = refl
    origin_held None = refl

    none_empty : {n : ℕ} {last : Held} → SeenTo n last → (k : ℕ) → k < n → is_empty (ticket_at l f k) ≡ false
    none_empty {n} s k h = not_empty (ticket_at l f k) (all_at n (λ t. ticket_sound (ticket_at l f t)) s.sound k h)

    -- the log ends here
    told : (end : Option ℕ) {last : Held} → SeenTo (when_found end (λ t. t) (places l)) last → first_below (places l) (λ t. is_empty (ticket_at l f t)) ≡ end
        → Told end (when_found end (λ t. falls_in l t + 1) (l.N * l.S)) last
    unfolding log_end log_length log_sound latest standing log_pages log_origin
    told end {last} s e =
        let found = last_below (when_found end (λ t. t) (places l)) (λ t. is_for lot bag (ticket_at l f t)) in
        let stands : when_found found held_at nothing_held ≡ last = sym s.stands in (
          e,
          rw e s.sound,
          rw e (stands_held found ∙ ap (λ (x : Held). x.standing) stands),
          rw (e, stands_held found, origin_held found, stands),
        )

    -- the ticket at place n ends the log
    pub ended : {n : ℕ} {last : Held} → SeenTo n last → n < places l → is_empty (ticket_at l f n) ≡ true → Told (Some n) (falls_in l n + 1) last
    unfolding when_found
    ended {n} {last} s h e = told (Some n) s (first_is (places l) (λ t. is_empty (ticket_at l f t)) n h e (none_empty s))

    -- no ticket ends it
    pub full : {last : Held} → SeenTo (places l) last → Told None (l.N * l.S) last
    unfolding when_found
    full {last} s = told None s (first_none (places l) (λ t. is_empty (ticket_at l f t)) (none_empty s))

    -- the log goes beyond place n
    beyond : (n : ℕ) → n < places l → ((k : ℕ) → k ≤ n → is_empty (ticket_at l f k) ≡ false) → n < log_length l f
    unfolding log_end log_length when_found
    beyond n h kept = by_found (log_end l f)
        (λ t e.
        let empty = (first_at (places l) (λ t. is_empty (ticket_at l f t)) t e).1 in
        rw e (by_order n t (λ less. less) (λ more. both _ empty (kept t more))))
        (λ e. rw e h)

    -- the ticket at place n breaks the rules
    pub breaks : {n : ℕ} {mid : Held} → SeenTo n mid → n < places l → is_empty (ticket_at l f n) ≡ false → ticket_sound (ticket_at l f n) ≡ false → log_sound l f ≡ false
    unfolding log_sound
    breaks {n} s h kept wrong = by_test (log_sound l f)
        (λ e. both _ (all_at (log_length l f) (λ t. ticket_sound (ticket_at l f t)) e n (beyond n h (λ k low. at_last k n (omega arith) (none_empty s k) (λ same. rw same kept)))) wrong)
        (λ e. e)

-- ---- the walk of a store's log

module _ (l : Layout) (s : Images) (lost lot bag : ℕ) where
  open l use {N, W, S}

  -- the pages read for the first i
  abbrev pub reads_to : ℕ → ℕ
  reads_to i = sum_below i (λ k. (fetch l s lost k).reads)

  -- i pages have been walked, none of whose tickets ends the log or breaks the rules
  pub record Going (latest : Latest) (greatest : Origin) (reads i : ℕ) : Type 0 where
    pub below : i ≤ N * S
    pub seen : SeenTo l (contents l s lost) (origins l s lost) lot bag (i * per_page l) (held_from latest)
    pub told : greatest ≡ greatest_origin i (origins l s lost)
    pub counted : reads ≡ reads_to i
    pub few : reads ≤ 7 * i

  pub going : {latest : Latest} → held_from latest ≡ nothing_held → Going latest Unwritten 0 0
  unfolding sum_below greatest_origin
  going e = record {
    below = omega arith;
    seen = rw (zero-mul, e) (stands_none lot bag (ticket_at l (contents l s lost)) (held_at l (contents l s lost) (origins l s lost) lot bag) nothing_held);
    told = refl;
    counted = refl;
    few = omega arith;
  }

  -- the next one was looked at
  pub record Next (greatest : Origin) (reads i : ℕ) (r : Looked) : Type 0 where
    pub inside : i < N * S
    pub long : length (contents l s lost i) ≡ W
    pub shows : PageShows (contents l s lost i) lot bag r.shown
    pub seen : SeenTo l (contents l s lost) (origins l s lost) lot bag (i * per_page l + r.shown.kept) (held_from r.latest)
    pub told : greater greatest r.origin ≡ greatest_origin (i + 1) (origins l s lost)
    pub counted : reads + r.reads ≡ reads_to (i + 1)
    pub few : reads + r.reads ≤ 7 * (i + 1)

  pub next : {latest : Latest} {greatest : Origin} {reads i : ℕ} {r : Looked} → Going latest greatest reads i → i < N * S → PageLooked l s lost lot bag i latest r
      → Next greatest reads i r
  unfolding greatest_origin
  next {latest} {greatest} {reads} {i} {r} g h p = record {
    inside = h;
    long = p.long;
    shows = p.shows;
    seen = seen_to l (contents l s lost) (origins l s lost) lot bag p.long g.seen p.shows p.stands;
    told = rw (add-one, g.told, p.origin);
    counted = rw (add-one, sum_more) (ap (λ (n : ℕ). n + r.reads) g.counted ∙ ap (λ (n : ℕ). reads_to i + n) p.reads);
    few = omega (arith, g.few, p.few);
  }

  module _ {greatest : Origin} {reads i : ℕ} {r : Looked} (x : Next greatest reads i r) where
    pub goes_on : {now : Origin} → now ≡ greater greatest r.origin → per_page l ≤ r.shown.kept → Going r.latest now (reads + r.reads) (i + 1)
    goes_on e h =
        let few : r.shown.kept ≤ per_page l = rw x.long at x.shows.few in
        let all : r.shown.kept ≡ per_page l = omega arith in
        let place : (i + 1) * per_page l ≡ i * per_page l + per_page l = rw (add-one, suc-mul) in
        record {
          below = omega (arith, x.inside);
          seen = rw place (rw all at x.seen);
          told = e ∙ x.told;
          counted = x.counted;
          few = x.few;
        }

  module _ (w : Within l) where
    module _ {greatest : Origin} {reads i : ℕ} {r : Looked} (x : Next greatest reads i r) where
      pub walk_ended : {o : Walk} → o ≡ whole (Some (i * per_page l + r.shown.kept)) (reads + r.reads) r.latest (greater greatest r.origin) → r.shown.ended ≡ true
          → r.shown.kept < per_page l → Walked l s lost lot bag (Some o)
      unfolding log_reads log_pages when_found
      walk_ended is ends h =
          let inside : r.shown.kept < length (contents l s lost i) / ticket_bytes = rw x.long h in
          let empty = ap (λ (t : Ticket). is_empty t) (in_page l (contents l s lost) i r.shown.kept h) ∙ sym (x.shows.ends inside) ∙ ends in
          let t = rw (digits_div i h) at (ended l (contents l s lost) (origins l s lost) lot bag x.seen (digits_lt x.inside h) empty) in
          rw is
          (record {
            tells = rw (t.0, t.1, t.2, t.3, x.told, digits_div i h, x.counted);
            few = λ o e. rw (ap (λ (w : Option Walk). (unwrap_or w o).reads) (sym e)) (omega (arith, x.few, x.inside, pages_few l w));
          })

      pub walk_broken : r.shown.ended ≡ false → Walked l s lost lot bag None
      walk_broken ends =
          let few : r.shown.kept ≤ per_page l = rw x.long at x.shows.few in
          by_order r.shown.kept (per_page l)
          (λ h.
          let inside : r.shown.kept < length (contents l s lost i) / ticket_bytes = rw x.long h in
          let is = in_page l (contents l s lost) i r.shown.kept h in
          let wrong =
          breaks l (contents l s lost) (origins l s lost) lot bag x.seen (digits_lt x.inside h)
          (ap (λ (t : Ticket). is_empty t) is ∙ sym (x.shows.ends inside) ∙ ends) (ap ticket_sound is ∙ x.shows.next inside) in
          record { tells = rw wrong; few = λ o e. both _ (ap (λ (w : Option Walk). is_some w) e) refl })
          (λ h. let all : r.shown.kept ≡ length (contents l s lost i) / ticket_bytes = rw x.long (omega arith) in both _ (x.shows.over all) ends)

    pub walk_full : {latest : Latest} {greatest : Origin} {reads i : ℕ} {o : Walk} → o ≡ whole None reads latest greatest → Going latest greatest reads i → N * S ≤ i
        → Walked l s lost lot bag (Some o)
    unfolding log_reads log_pages when_found
    walk_full {i = i} is g h =
        let all : i ≡ N * S = omega (arith, g.below) in
        let t = full l (contents l s lost) (origins l s lost) lot bag (rw all at g.seen) in
        rw is
        (record {
          tells = rw (t.0, t.1, t.2, t.3, g.told, g.counted, all);
          few = λ o e. rw (ap (λ (w : Option Walk). (unwrap_or w o).reads) (sym e)) (omega (arith, g.few, g.below, pages_few l w));
        })

  -- what the walk tells of the log
  pub told_broken : {r : Option Walk} → r ≡ walk_of l s lost lot bag → r ≡ None → log_sound l (contents l s lost) ≡ false
  told_broken e none = by_test (log_sound l (contents l s lost)) (λ h. both _ refl (ap (λ (w : Option Walk). is_some w) (sym (rw h at e) ∙ none))) (λ h. h)

  pub told_whole : {r : Option Walk} {x : Walk} → r ≡ walk_of l s lost lot bag → r ≡ Some x
      → (log_sound l (contents l s lost) ≡ true) × (log_end l (contents l s lost) ≡ x.end) × (log_reads l s lost ≡ x.reads) × (standing l (contents l s lost) lot bag ≡ x.standing)
      × (log_origin l (contents l s lost) (origins l s lost) lot bag ≡ x.origin)
  told_whole {r} {x} e some = by_test (log_sound l (contents l s lost))
      (λ sound.
      let is = ap (λ (w : Option Walk). unwrap_or w x) (sym (rw sound at e) ∙ some) in (
        sound,
        ap (λ (o : Walk). o.end) is,
        ap (λ (o : Walk). o.reads) is,
        ap (λ (o : Walk). o.standing) is,
        ap (λ (o : Walk). o.origin) is,
      ))
      (λ h. both _ refl (ap (λ (w : Option Walk). is_some w) (sym some ∙ rw h at e)))

-- ---- positions

module _ (l : Layout) (w : Within l) where
  open l use {N}

  -- the next member of the stripe, or the first of the next one
  pub same_stripe : (i : ℕ) → i % N + 1 < N → ((i + 1) / N ≡ i / N) × ((i + 1) % N ≡ i % N + 1)
  same_stripe i h =
      let e : i + 1 ≡ i / N * N + (i % N + 1) = ap (λ (n : ℕ). n + 1) (sym (div-add-mod' i N)) ∙ omega arith in
      (ap (λ (n : ℕ). n / N) e ∙ digits_div (i / N) h, ap (λ (n : ℕ). n % N) e ∙ digits_mod (i / N) h)

  pub next_stripe : (i : ℕ) → N ≤ i % N + 1 → ((i + 1) / N ≡ i / N + 1) × ((i + 1) % N ≡ 0)
  next_stripe i h =
      let some : 0 < N = omega (arith, w.members_low) in
      let all : i % N + 1 ≡ N = omega (arith, mod-lt i some) in
      let product : (i / N + 1) * N ≡ i / N * N + N = rw (add-one, suc-mul) in
      let e : i + 1 ≡ (i / N + 1) * N + 0 = ap (λ (n : ℕ). n + 1) (sym (div-add-mod' i N)) ∙ omega (arith, all, product) in
      (ap (λ (n : ℕ). n / N) e ∙ digits_div (i / N + 1) some, ap (λ (n : ℕ). n % N) e ∙ digits_mod (i / N + 1) some)

  pub position_first : {parity : ℕ} → parity ≡ parity_chip l 0 → record { page = 0; stripe = 0; member = 0; parity = parity } ≡ position_of l 0
  position_first e =
      let some : 0 < N = omega (arith, w.members_low) in
      rw (div-eq_of_lt some, mod-eq_of_lt some, e)

  pub position_same : {at : Position} → at ≡ position_of l at.page → at.member + 1 < N
      → record { page = at.page + 1; stripe = at.stripe; member = at.member + 1; parity = at.parity } ≡ position_of l (at.page + 1)
  position_same {at} e h =
      let member = ap (λ (p : Position). p.member) e in
      let t = same_stripe at.page (rw member at h) in
      rw (t.0, t.1, member, ap (λ (p : Position). p.stripe) e, ap (λ (p : Position). p.parity) e)

  pub position_next : {at : Position} {parity : ℕ} → at ≡ position_of l at.page → N ≤ at.member + 1 → parity ≡ parity_chip l (at.stripe + 1)
      → record { page = at.page + 1; stripe = at.stripe + 1; member = 0; parity = parity } ≡ position_of l (at.page + 1)
  position_next {at} e h chip =
      let t = next_stripe at.page (rw (ap (λ (p : Position). p.member) e) at h) in
      rw (t.0, t.1, chip, ap (λ (p : Position). p.stripe) e)

  -- what a position says of its page
  module _ {at : Position} (e : at ≡ position_of l at.page) where
    pub at_stripe : at.page < N * l.S → at.stripe < l.S
    at_stripe h = rw (ap (λ (p : Position). p.stripe) e) (stripe_fits l w at.page h)

    pub at_member : at.member < N
    at_member = rw (ap (λ (p : Position). p.member) e) (member_fits l w at.page)

    pub at_parity : at.parity ≡ parity_chip l at.stripe
    at_parity = ap (λ (p : Position). p.parity) e ∙ ap (parity_chip l) (sym (ap (λ (p : Position). p.stripe) e))

    pub at_fetch : (s : Images) (lost : ℕ) → fetch_member l s lost at.stripe at.member ≡ fetch l s lost at.page
    unfolding fetch
    at_fetch s lost = rw (ap (λ (p : Position). p.stripe) e, ap (λ (p : Position). p.member) e)
