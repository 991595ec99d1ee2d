-- A page is the twin of at most one page of the victim, the one that it is copied from; so one table of counts serves all places.
use Prim.Native.Nat.{ℕ, suc, ◌+◌, ◌-◌, ◌*◌, ◌≤◌, ◌<◌}
use native.Mathlib.Numerals.{add-one}
use native.Mathlib.Omega.{arith}
use mathlib.Core.Path.{◌≡◌, refl, sym, ap, ◌∙◌}
use mathlib.Core.Bool.{Bool, true, false, not, ◌&&◌, ◌||◌}
use mathlib.Core.List.{List}
use mathlib.Core.Logic.{◌≢◌}
use lib.ListN.{get_or, set, replicate, length-set, get_or-replicate}
use lib.Seq.{get_or-set_same, get_or-set_other}
use lib.Dec.{eqb, ltb, leb}
use borrow.Author.Tests.{eq-eqb, eqb-true, le-ltb, ltb-false, leb-true, leb-false}
use Rattle.std.specs.Prelude.{Some, None}
use Rattle.ranges.proofs.Looks.{by_test, by_same, first_none, first_is, first_at, first_nothing}
use Rattle.ranges.proofs.Counts.{count_start, count_le, count_pass, count_fail}
use Rattle.ranges.proofs.Tests.{and_both, neither, or_else}
use Rattle.layout.specs.Layout.{Layout, page_in}
use Rattle.layout.specs.Page.{Page}
use Rattle.layout.specs.Record.{Record}
use Rattle.rules.specs.Names.{named as namedPage, unnamed}
use Rattle.rules.specs.Sound.{twin, twin_in}
use Rattle.codec.specs.declared.Spare.{Spare}
use Rattle.codec.specs.Views.{spare_of}
use Rattle.spares.specs.Phases.{twin_of, twin_place, Twins}

-- the test of a twin as the code makes it: u are the spare bytes of page q, t those of the page it is copied from, and n says whether q
-- is named
abbrev pub same_stamp : Spare → Spare → Bool → Bool
same_stamp u t n = eqb u.kind t.kind && eqb u.member t.member && eqb u.stripe t.stripe && not n

last_true : (a b : Bool) → (a && true) && b ≡ a && b
last_true true b = refl
last_true false b = refl

-- p is neither below the first of a block nor behind its end
pub between : (p first end : ℕ) → ltb p first || leb end p ≡ false → (first ≤ p) × (p < end)
between p first end e = let (a, b) = neither (ltb p first) (leb end p) e in (ltb-false p first a, leb-false end p b)

module _ (l : Layout) (r : ℕ → Record) (x : ℕ → Page) (c v : ℕ) where
  open l use {K}

  twin_test : (q m : ℕ) {u t : Spare} {n : Bool} → u ≡ spare_of (x q) → t ≡ spare_of (x (page_in l v m)) → n ≡ namedPage l r c q → (x q).copied ≡ page_in l v m
      → same_stamp u t n ≡ twin_of l r x c v q m
  unfolding twin
  twin_test q m e f named from =
      rw (e, f, named, eq-eqb (x q).copied (page_in l v m) from)
      (sym (last_true (eqb (x q).kind (x (page_in l v m)).kind && eqb (x q).member (x (page_in l v m)).member && eqb (x q).stripe (x (page_in l v m)).stripe) (unnamed l r c q)))

  -- a twin is copied from its page
  twin_from : (q m : ℕ) → twin_of l r x c v q m ≡ true → (x q).copied ≡ page_in l v m
  unfolding twin
  twin_from q m t =
      let p = page_in l v m in
      let same = eqb (x q).kind (x p).kind && eqb (x q).member (x p).member && eqb (x q).stripe (x p).stripe in
      eqb-true (x q).copied p (and_both same (eqb (x q).copied p) (and_both (same && eqb (x q).copied p) (unnamed l r c q) t).0).1

  -- of no other page
  twin_apart : (q m i : ℕ) → (x q).copied ≡ page_in l v m → i ≢ m → twin_of l r x c v q i ≡ false
  twin_apart q m i from d = by_test (twin_of l r x c v q i) (λ t. absurd (d (omega (arith, from, twin_from q i t)))) (λ f. f)

  -- what the code finds: copied from outside the block, a twin, or none
  pub twin_outside : (q : ℕ) {u : Spare} → u ≡ spare_of (x q) → ltb u.copied (v * K) || leb (v * K + K) u.copied ≡ true → twin_place l r x c v q ≡ None
  unfolding twin_place
  twin_outside q {u} e out = first_none K (twin_of l r x c v q) (λ m low. by_test (twin_of l r x c v q m)
      (λ t.
      let here : u.copied ≡ page_in l v m = rw e (twin_from q m t) in
      let behind = or_else (ltb u.copied (v * K)) (leb (v * K + K) u.copied) out (le-ltb u.copied (v * K) (omega arith)) in
      absurd (omega (arith, leb-true (v * K + K) u.copied behind)))
      (λ f. f))

  module _ (q : ℕ) {u t : Spare} {n : Bool} (e : u ≡ spare_of (x q)) (f : t ≡ spare_of (x u.copied)) (named : n ≡ namedPage l r c q)
      (in_block : ltb u.copied (v * K) || leb (v * K + K) u.copied ≡ false) where
    place : ℕ
    place = u.copied - v * K

    low : (place < K) × (v * K ≤ u.copied)
    unfolding place
    low = omega (arith, between u.copied (v * K) (v * K + K) in_block)

    from : (x q).copied ≡ page_in l v place
    unfolding place
    from = let here : u.copied ≡ (x q).copied = rw e in omega (arith, low, here)

    test : same_stamp u t n ≡ twin_of l r x c v q place
    unfolding place
    test = let here : u.copied ≡ page_in l v place = omega (arith, low) in twin_test q place e (rw here at f) named from

    pub twin_found : same_stamp u t n ≡ true → twin_place l r x c v q ≡ Some (u.copied - v * K)
    unfolding twin_place place
    twin_found s = first_is K (twin_of l r x c v q) place low.0 (sym test ∙ s) (λ i less. twin_apart q place i from (omega arith))

    pub twin_missed : same_stamp u t n ≡ false → twin_place l r x c v q ≡ None
    unfolding twin_place
    twin_missed s = first_none K (twin_of l r x c v q) (λ m _. by_same m place (λ e. rw e (sym test ∙ s)) (twin_apart q place m from))

  -- what is found is the place of the page that q is copied from
  pub twin_there : (q m : ℕ) → twin_place l r x c v q ≡ Some m → (m < K) × ((x q).copied ≡ page_in l v m) × (twin_of l r x c v q m ≡ true)
  unfolding twin_place
  twin_there q m e = let h = first_at K (twin_of l r x c v q) m e in (h.0, twin_from q m h.1, h.1)

  -- where none is found, q is no twin of that page
  pub twin_nowhere : (q : ℕ) → twin_place l r x c v q ≡ None → v * K ≤ (x q).copied → (x q).copied < v * K + K → twin l r x c (x q).copied q ≡ false
  unfolding twin_place
  twin_nowhere q e low high =
      let m = (x q).copied - v * K in
      let from : (x q).copied ≡ page_in l v m = omega (arith, low) in
      rw from (first_nothing K (twin_of l r x c v q) e m (omega (arith, high, low)))

  -- ---- the table

  module _ {d i : ℕ} {counts : List ℕ} (h : Twins l r x c v d i counts) where
    -- no more twins than places looked at
    pub twins_few : (m : ℕ) → m < K → get_or counts m 0 ≤ i
    twins_few m low = rw (h.are m low) (count_le i (twin_in l r x c d (page_in l v m)))

    -- a place that is found is one of the counts, which are small
    pub twin_counted : (q : ℕ) {m : ℕ} → K ≤ 128 → i < K → twin_place l r x c v q ≡ Some m → (m < 128) × (get_or counts m 0 < 128)
    twin_counted q {m} few less e = let low = (twin_there q m e).0 in (omega arith, omega (arith, twins_few m low))

    pub twins_same : twin_place l r x c v (page_in l d i) ≡ None → Twins l r x c v d (i + 1) counts
    unfolding twin_place
    twins_same e = record {
      long = h.long;
      are = λ m low. rw add-one (h.are m low ∙ sym (count_fail i (twin_in l r x c d (page_in l v m)) (first_nothing K (twin_of l r x c v (page_in l d i)) e m low)));
    }

    pub twins_more : (m : ℕ) → K ≤ 128 → twin_place l r x c v (page_in l d i) ≡ Some m → Twins l r x c v d (i + 1) (set counts m (get_or counts m 0 + 1))
    unfolding twin_place
    twins_more m few e =
        let (low, t, _) = first_at K (twin_of l r x c v (page_in l d i)) m e in
        record {
          long = length-set counts m (get_or counts m 0 + 1) ∙ h.long;
          are = λ k in_block. rw (add-one i) (by_same k m
              (λ q. rw q (get_or-set_same counts m (get_or counts m 0 + 1) 0 (rw h.long (omega arith)) ∙ add-one (get_or counts m 0) ∙ ap suc (h.are m low) ∙ sym (count_pass i (twin_in l r x c d (page_in l v m)) t)))
              (λ d'. get_or-set_other counts m k (get_or counts m 0 + 1) 0 d' ∙ h.are k in_block
              ∙ sym (count_fail i (twin_in l r x c d (page_in l v k)) (twin_apart (page_in l d i) m k (twin_from (page_in l d i) m t) d'))));
        }

  pub twins_start : (d : ℕ) → K ≤ 128 → Twins l r x c v d 0 (replicate 128 0)
  twins_start d few = record { long = refl; are = λ m low. get_or-replicate 128 m 0 0 (omega arith) ∙ sym (count_start (twin_in l r x c d (page_in l v m))) }
