-- The search for a place: what it has found of the blocks below b, and the answers.
use Prim.Native.Nat.{ℕ, suc, ◌+◌, ◌-◌, ◌*◌, ◌≤◌, ◌<◌}
use native.Mathlib.Nat.{add-zero}
use native.Mathlib.Numerals.{add-one}
use native.Mathlib.Omega.{arith}
use mathlib.Core.Path.{◌≡◌, refl, sym, ap, ◌∙◌}
use mathlib.Core.Logic.{◌≢◌}
use mathlib.Core.Bool.{true, false}
use Rattle.std.specs.Prelude.{Option, Some, None}
use Rattle.ranges.specs.Look.{count_below, first_below}
use Rattle.ranges.proofs.Looks.{both, not_found, first_start, first_keeps, first_here, first_not_here, first_nothing, first_is}
use Rattle.ranges.proofs.Counts.{count_start, count_le, count_pass, count_fail}
use Rattle.layout.specs.Layout.{Layout}
use Rattle.layout.specs.Page.{Page, clean}
use Rattle.rules.specs.Blocks.{clean_in, clean_block}
use Rattle.rules.specs.Place.{open_block, place_of}
use Rattle.rules.proofs.Space.Places.{place_begun, place_fresh, place_nowhere}

-- ---- the places of block b

module _ (l : Layout) (x : ℕ → Page) (b : ℕ) where
  -- its first page is used
  pub begun_inside : clean (x (b * l.K)) ≡ false → first_below 1 (clean_in l x b) ≡ None
  begun_inside t = first_not_here 0 (clean_in l x b) (first_start (clean_in l x b)) (rw add-zero t)

  -- its last page is clean, so a look at all places finds one
  pub room_inside {ℓ} : {P : Type ℓ} → 0 < l.K → clean (x (b * l.K + l.K - 1)) ≡ true → (i : ℕ) → first_below i (clean_in l x b) ≡ None → l.K ≤ i → P
  room_inside some t i e high =
      let last : b * l.K + l.K - 1 ≡ b * l.K + (l.K - 1) = omega arith in
      both (clean_in l x b (l.K - 1)) (rw last at t) (first_nothing i (clean_in l x b) e (l.K - 1) (omega arith))

-- ---- the blocks of a chip

-- nothing is found yet: of the blocks below b none is begun and has room, so many are clean, and this is the first page of the lowest clean one
pub record Searched (l : Layout) (x : ℕ → Page) (b : ℕ) (found : Option ℕ) (cleans lowest : ℕ) : Type 0 where
  pub nothing : found ≡ None
  pub shut : first_below b (open_block l x) ≡ None
  pub count : cleans ≡ count_below b (clean_block l x)
  pub none_clean : cleans ≡ 0 → first_below b (clean_block l x) ≡ None
  pub some_clean : cleans ≢ 0 → (d : ℕ) × (first_below b (clean_block l x) ≡ Some d) × (lowest ≡ d * l.K)

module _ {l : Layout} {x : ℕ → Page} where
  -- no block before the first
  pub search_start : Searched l x 0 None 0 0
  search_start =
      record {
        nothing = refl;
        shut = first_start (open_block l x);
        count = sym (count_start (clean_block l x));
        none_clean = λ _. first_start (clean_block l x);
        some_clean = λ d. absurd (d refl);
      }

  module _ {b cleans lowest : ℕ} {found : Option ℕ} (h : Searched l x b found cleans lowest) where
    -- no more clean blocks than blocks
    pub search_few : cleans ≤ b
    search_few = rw h.count (count_le b (clean_block l x))

    -- a clean block, and the lowest clean one up to it
    clean_next : clean_block l x b ≡ true → (lowest' : ℕ) → ((d : ℕ) × (first_below (suc b) (clean_block l x) ≡ Some d) × (lowest' ≡ d * l.K))
        → Searched l x (b + 1) found (cleans + 1) lowest'
    unfolding open_block
    clean_next t lowest' e = rw add-one (record {
      nothing = h.nothing;
      shut = first_not_here b (open_block l x) h.shut (rw t);
      count = omega (arith, h.count, count_pass b (clean_block l x) t);
      none_clean = λ q. absurd (omega arith);
      some_clean = λ _. e;
    })

    -- the first one, whose first page is the lowest
    pub search_first : clean_block l x b ≡ true → cleans ≡ 0 → Searched l x (b + 1) found (cleans + 1) (b * l.K)
    search_first t e = clean_next t (b * l.K) (b, first_here b (clean_block l x) (h.none_clean e) t, refl)

    -- a later one
    pub search_later : clean_block l x b ≡ true → cleans ≢ 0 → Searched l x (b + 1) found (cleans + 1) lowest
    search_later t d = let (k, e, q) = h.some_clean d in clean_next t lowest (k, first_keeps b (clean_block l x) k e, q)

    -- a full block
    pub search_full : clean_block l x b ≡ false → open_block l x b ≡ false → Searched l x (b + 1) found cleans lowest
    search_full t s = rw add-one (record {
      nothing = h.nothing;
      shut = first_not_here b (open_block l x) h.shut s;
      count = h.count ∙ sym (count_fail b (clean_block l x) t);
      none_clean = λ e. first_not_here b (clean_block l x) (h.none_clean e) t;
      some_clean = λ d. let (k, e, q) = h.some_clean d in (k, first_keeps b (clean_block l x) k e, q);
    })

-- the answers after the search: the place that was found, or by the number of clean blocks
pub record Answered (l : Layout) (x : ℕ → Page) (found : Option ℕ) (cleans lowest : ℕ) : Type 0 where
  pub begun : (p : ℕ) → found ≡ Some p → Some p ≡ place_of l x
  pub fresh : found ≡ None → 2 ≤ cleans → Some lowest ≡ place_of l x
  pub nowhere : found ≡ None → cleans < 2 → None ≡ place_of l x

module _ {l : Layout} {x : ℕ → Page} {b cleans lowest : ℕ} {found : Option ℕ} (h : Searched l x b found cleans lowest) where
  -- in block b, which is begun and has room, i is the lowest clean place
  pub answer_begun : {found' : Option ℕ} (i : ℕ) → found' ≡ Some (b * l.K + i) → b < l.B → open_block l x b ≡ true → i < l.K → first_below i (clean_in l x b) ≡ None
      → clean_in l x b i ≡ true → Answered l x found' cleans lowest
  answer_begun i e block s place none t =
      let is = place_begun l x b i
      (first_is l.B (open_block l x) b block s (first_nothing b (open_block l x) h.shut))
      (first_is l.K (clean_in l x b) i place t (first_nothing i (clean_in l x b) none)) in
      record { begun = λ p q. cc; fresh = λ q. not_found (b * l.K + i) (sym q ∙ e); nowhere = λ q. not_found (b * l.K + i) (sym q ∙ e) }

  -- no block has room
  pub answer_none : b ≡ l.B → Answered l x found cleans lowest
  answer_none e =
      record {
        begun = λ p q. not_found p (sym h.nothing ∙ q);
        fresh = λ _ few.
            let (d, q, is) = h.some_clean (λ z. omega arith) in
            ap Some (is ∙ sym (add-zero (d * l.K))) ∙ sym (place_fresh l x d (rw e at h.shut) (rw (h.count, e) at few) (rw e at q));
        nowhere = λ _ few. sym (place_nowhere l x (rw e at h.shut) (rw (h.count, e) at few));
      }
