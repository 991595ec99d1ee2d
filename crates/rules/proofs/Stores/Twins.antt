-- What it is for a page to be the twin of another, and for a copy to be due.
use Prim.Native.Nat.{ℕ}
use mathlib.Core.Path.{◌≡◌, refl}
use mathlib.Core.Bool.{Bool, true, false}
use mathlib.Core.List.{[], ◌∷◌}
use lib.Dec.{eqb}
use borrow.Author.Tests.{eq-eqb, eqb-true, not-true}
use Rattle.ranges.proofs.Tests.{chain_all}
use Rattle.layout.specs.Layout.{Layout, page_in, in_block}
use Rattle.layout.specs.Page.{Page, page_at}
use Rattle.layout.specs.Record.{Record, record_at}
use Rattle.layout.specs.Collection.{Collection, collection_at}
use Rattle.layout.specs.Images.{Images}
use Rattle.rules.specs.Names.{named, unnamed}
use Rattle.rules.specs.Sound.{twin}
use Rattle.rules.specs.Open.{due}
use Rattle.rules.proofs.Soundness.Statements.{IsTwin}

module _ (l : Layout) where
  -- a twin by its test, one way and the other
  pub twin_is : (r : ℕ → Record) (x : ℕ → Page) (c p q : ℕ) → twin l r x c p q ≡ true → IsTwin l r x c p q
  unfolding twin
  twin_is r x c p q e =
      let h =
      chain_all (eqb (x q).kind (x p).kind) (eqb (x q).member (x p).member ∷ eqb (x q).stripe (x p).stripe ∷ eqb (x q).copied p ∷ unnamed l r c q ∷ []) e in
      record {
        kind = eqb-true (x q).kind (x p).kind h.0;
        member = eqb-true (x q).member (x p).member h.1.0;
        stripe = eqb-true (x q).stripe (x p).stripe h.1.1.0;
        copied = eqb-true (x q).copied p h.1.1.1.0;
        free = not-true (named l r c q) h.1.1.1.1.0;
      }

  pub is_twin : (r : ℕ → Record) (x : ℕ → Page) (c p q : ℕ) → IsTwin l r x c p q → twin l r x c p q ≡ true
  unfolding twin
  is_twin r x c p q f =
      rw (
        eq-eqb (x q).kind (x p).kind f.kind,
        eq-eqb (x q).member (x p).member f.member,
        eq-eqb (x q).stripe (x p).stripe f.stripe,
        eq-eqb (x q).copied p f.copied,
        f.free,
      )

  -- page q is due: its original is a page of the victim that a record names, and it is the twin of it
  module _ (co : Collection) (x : ℕ → Page) where
    pub due_is : (r : ℕ → Record) (q : ℕ) → due l co x r q ≡ true
        → (in_block l co.victim (x q).copied ≡ true) × (named l r co.chip (x q).copied ≡ true) × (twin l r x co.chip (x q).copied q ≡ true)
    unfolding due
    due_is r q e =
        let h = chain_all (in_block l co.victim (x q).copied) (named l r co.chip (x q).copied ∷ twin l r x co.chip (x q).copied q ∷ []) e in
        (h.0, h.1.0, h.1.1.0)

    pub is_due_lem : (r : ℕ → Record) (q : ℕ) → in_block l co.victim (x q).copied ≡ true → named l r co.chip (x q).copied ≡ true
        → twin l r x co.chip (x q).copied q ≡ true → due l co x r q ≡ true
    unfolding due
    is_due_lem r q a b c = rw (a, b, c)

    -- with other records, where names have only gone from the victim and come to the destination
    pub due_before : (r r' : ℕ → Record) (q : ℕ) → due l co x r' q ≡ true
        → (named l r' co.chip (x q).copied ≡ true → named l r co.chip (x q).copied ≡ true)
        → (named l r' co.chip q ≡ false → named l r co.chip q ≡ false) → due l co x r q ≡ true
    due_before r r' q e names frees =
        let d = due_is r' q e in
        let h = twin_is r' x co.chip (x q).copied q d.2 in
        is_due_lem r q d.0 (names d.1)
        (is_twin r x co.chip (x q).copied q
        (record { kind = h.kind; member = h.member; stripe = h.stripe; copied = refl; free = frees h.free }))

  -- place k of the destination is due
  abbrev pub due_at : Images → ℕ → Bool
  due_at s k =
      due l (collection_at l s.records) (page_at l s.chips (collection_at l s.records).chip) (record_at l s.records)
      (page_in l (collection_at l s.records).destination k)
