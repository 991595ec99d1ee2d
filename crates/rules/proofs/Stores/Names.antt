-- Names: the numbers of a stripe on each chip, and what soundness says of the pages that records name.
use Prim.Native.Nat.{ℕ, ◌+◌, ◌<◌}
use native.Mathlib.Decide.{ℕ_discrete}
use mathlib.Core.Path.{◌≡◌, refl, sym, ◌∙◌}
use mathlib.Core.Logic.{◌≢◌}
use mathlib.Core.Bool.{true, false, or-false}
use lib.Dec.{eqb}
use borrow.Author.Tests.{eq-eqb, ne_eqb, eqb-true}
use Rattle.ranges.proofs.Looks.{by_test, both, all_at, some_true, some_at, some_false}
use Rattle.ranges.proofs.Tests.{or_right, or_else}
use Rattle.layout.specs.Layout.{Layout, none, page_in}
use Rattle.layout.specs.Rotation.{parity_chip, member_chip, member_on}
use Rattle.layout.specs.Page.{Page, data_kind, parity_kind, clean}
use Rattle.layout.specs.Record.{Record, has_slot}
use Rattle.layout.specs.Collection.{Collection}
use Rattle.layout.proofs.Limits.{Within}
use Rattle.layout.proofs.Rotations.{member_chip_other, member_of_chip, chip_of_member, member_on_fits}
use Rattle.layout.proofs.Pages.{page_in_fits, page_number_lem}
use Rattle.rules.specs.Names.{main_number, side_number, role_of, kind_on, member_byte, names, named}
use Rattle.rules.specs.Blocks.{clean_in, clean_block}
use Rattle.rules.specs.Fetch.{chip_in, number_in}
use Rattle.rules.proofs.Soundness.Statements.{RecordSound, Stamped, ChipSound, sound_member}
use Rattle.rules.proofs.Data.Contents.{bit_slot}

module _ (l : Layout) where
  open l use {N, K, B, S}

  -- the numbers of a stripe on the chip of a member, and on the parity's
  pub main_member : (j m : ℕ) (r : Record) → main_number l (member_chip l j m) j r ≡ r.current m
  unfolding main_number
  main_member j m r = rw (ne_eqb (member_chip l j m) (parity_chip l j) (member_chip_other l j m), member_of_chip l j m)

  pub side_member : (j m : ℕ) (r : Record) → side_number l (member_chip l j m) j r ≡ r.old m
  unfolding side_number
  side_member j m r = rw (ne_eqb (member_chip l j m) (parity_chip l j) (member_chip_other l j m), member_of_chip l j m)

  pub main_parity : (j : ℕ) (r : Record) → main_number l (parity_chip l j) j r ≡ r.parity
  unfolding main_number
  main_parity j r = rw (eq-eqb (parity_chip l j) (parity_chip l j) refl)

  pub side_parity : (j : ℕ) (r : Record) → side_number l (parity_chip l j) j r ≡ none l
  unfolding side_number
  side_parity j r = rw (eq-eqb (parity_chip l j) (parity_chip l j) refl)

  pub kind_member : (j m : ℕ) → kind_on l (member_chip l j m) j ≡ data_kind
  unfolding kind_on
  kind_member j m = rw (ne_eqb (member_chip l j m) (parity_chip l j) (member_chip_other l j m))

  pub stamp_member : (j m : ℕ) → member_byte l (member_chip l j m) j ≡ m
  unfolding member_byte
  stamp_member j m = rw (ne_eqb (member_chip l j m) (parity_chip l j) (member_chip_other l j m)) (member_of_chip l j m)

  pub kind_parity : (j : ℕ) → kind_on l (parity_chip l j) j ≡ parity_kind
  unfolding kind_on
  kind_parity j = rw (eq-eqb (parity_chip l j) (parity_chip l j) refl)

  pub stamp_parity : (j : ℕ) → member_byte l (parity_chip l j) j ≡ 0
  unfolding member_byte
  stamp_parity j = rw (eq-eqb (parity_chip l j) (parity_chip l j) refl)

  -- a chip is the parity's or a member's
  pub by_chip {ℓ} : {P : Type ℓ} (c j : ℕ) → c < N + 1 → (c ≡ parity_chip l j → P) → ((m : ℕ) → m < N → c ≡ member_chip l j m → P) → P
  by_chip c j chip parity member = elim (ℕ_discrete c (parity_chip l j)) [
    | yes e ↦ parity e
    | no d ↦ member (member_on l j c) (member_on_fits l j c chip d) (sym (chip_of_member l j c d))
  ]

  -- a page that the record of stripe j names has its role there: its chip, and its number in the record
  pub role_is : (r : ℕ → Record) (c p j : ℕ) → names l r c p j ≡ true → p ≢ none l
      → (chip_in l j (role_of l c j (r j) p) ≡ c) × (number_in l (r j) (role_of l c j (r j) p) ≡ p)
  unfolding names main_number side_number role_of
  role_is r c p j h d = elim (ℕ_discrete c (parity_chip l j)) [
    | yes e ↦
        let t = rw (eq-eqb c (parity_chip l j) e, ne_eqb (none l) p (λ q. d (sym q)), or-false) at h in
        rw (eq-eqb c (parity_chip l j) e) (sym e, eqb-true (r j).parity p t)
    | no q ↦
        let m = member_on l j c in
        let t = rw (ne_eqb c (parity_chip l j) q) at h in
        rw (ne_eqb c (parity_chip l j) q)
        (by_test (eqb ((r j).current m) p)
        (λ s. rw s (chip_of_member l j c q, eqb-true ((r j).current m) p s))
        (λ s. rw s (chip_of_member l j c q, eqb-true ((r j).old m) p (or_else (eqb ((r j).current m) p) (eqb ((r j).old m) p) t s))))
  ]

  -- a record's own numbers
  module _ (w : Within l) where
    pub side_slot : (r : Record) → RecordSound l r → (c j : ℕ) → c < N + 1 → side_number l c j r ≢ none l → has_slot r ≡ true
    side_slot r f c j chip =
        by_chip c j chip
        (λ e. rw (e, side_parity j r) (λ d. absurd (d refl)))
        (λ m h e. rw (e, side_member j m r) (λ d. bit_slot l w r f m ((sound_member l w r f m h).old_under_bit_lem d)))

  -- names
  module _ (r : ℕ → Record) (c p : ℕ) where
    pub by_name {ℓ} : {P : Type ℓ} (j : ℕ) → names l r c p j ≡ true → (main_number l c j (r j) ≡ p → P) → (side_number l c j (r j) ≡ p → P) → P
    unfolding names
    by_name j t main side =
        by_test (eqb (main_number l c j (r j)) p)
        (λ e. main (eqb-true (main_number l c j (r j)) p e))
        (λ e. side (eqb-true (side_number l c j (r j)) p (rw e at t)))

    pub main_names : (j : ℕ) → main_number l c j (r j) ≡ p → names l r c p j ≡ true
    unfolding names
    main_names j e = rw (eq-eqb (main_number l c j (r j)) p e)

    pub side_names : (j : ℕ) → side_number l c j (r j) ≡ p → names l r c p j ≡ true
    unfolding names
    side_names j e = or_right (eqb (main_number l c j (r j)) p) (eq-eqb (side_number l c j (r j)) p e)

    pub not_names : (j : ℕ) → main_number l c j (r j) ≢ p → side_number l c j (r j) ≢ p → names l r c p j ≡ false
    unfolding names
    not_names j d d' = rw (ne_eqb (main_number l c j (r j)) p d, ne_eqb (side_number l c j (r j)) p d')

    -- a page is named where a stripe names it
    pub named_by : named l r c p ≡ true → (j : ℕ) × (j < S) × (names l r c p j ≡ true)
    unfolding named
    named_by t = some_at S (names l r c p) t

    pub name_named : (j : ℕ) → j < S → names l r c p j ≡ true → named l r c p ≡ true
    unfolding named
    name_named j h t = some_true S (names l r c p) j h t

    pub unnamed_at : named l r c p ≡ false → (j : ℕ) → j < S → (main_number l c j (r j) ≢ p) × (side_number l c j (r j) ≢ p)
    unnamed_at t j h = (
      λ e. both (named l r c p) (name_named j h (main_names j e)) t,
      λ e. both (named l r c p) (name_named j h (side_names j e)) t,
    )

    pub named_none : ((j : ℕ) → j < S → names l r c p j ≡ false) → named l r c p ≡ false
    unfolding named
    named_none h = some_false S (names l r c p) h

  -- what a sound chip says of a named page
  module _ (r : ℕ → Record) (x : ℕ → Page) (c : ℕ) (co : Collection) (f : ChipSound l r x c co) where
    stamped_as : (p q j : ℕ) → q ≡ p → p ≢ none l → (q ≢ none l → Stamped l x c j q) → Stamped l x c j p
    stamped_as p q j e d = rw e (λ g. g d)

    -- it has the stamp of its stripe, so one stripe names it, and it is not clean
    pub name_stamped : (p j : ℕ) → j < S → p ≢ none l → names l r c p j ≡ true → Stamped l x c j p
    name_stamped p j h d t =
        by_name r c p j t
        (λ e. stamped_as p (main_number l c j (r j)) j e d (f.main j h))
        (λ e. stamped_as p (side_number l c j (r j)) j e d (f.side j h))

    pub one_stripe : (p i j : ℕ) → i < S → j < S → p ≢ none l → names l r c p i ≡ true → names l r c p j ≡ true → i ≡ j
    one_stripe p i j h h' d t t' = sym (name_stamped p i h d t).stripe ∙ (name_stamped p j h' d t').stripe

    stamped_used : (p j : ℕ) → Stamped l x c j p → clean (x p) ≡ false
    unfolding kind_on
    stamped_used p j g =
        by_test (eqb c (parity_chip l j)) (λ t. rw (g.kind, t)) (λ t. rw (g.kind, t))

    pub named_used : (p : ℕ) → p ≢ none l → named l r c p ≡ true → clean (x p) ≡ false
    named_used p d t =
        let (j, h, e) = named_by r c p t in
        stamped_used p j (name_stamped p j h d e)

    pub clean_unnamed : (p : ℕ) → p ≢ none l → clean (x p) ≡ true → named l r c p ≡ false
    clean_unnamed p d t = by_test (named l r c p) (λ e. both (clean (x p)) t (named_used p d e)) (λ e. e)

    pub clean_block_unnamed : Within l → (b : ℕ) → b < B → clean_block l x b ≡ true → (i : ℕ) → i < K → named l r c (page_in l b i) ≡ false
    unfolding clean_block
    clean_block_unnamed w b block t i place =
        clean_unnamed (page_in l b i) (page_number_lem l w (page_in l b i) (page_in_fits l b i block place)) (all_at K (clean_in l x b) t i place)
