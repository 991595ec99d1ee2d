-- What it is to keep what the images hold: soundness, the slots and bitmaps of the records, and the bytes behind every number.
use Prim.Native.Nat.{ℕ, ◌+◌, ◌<◌}
use mathlib.Core.Path.{◌≡◌, refl, ap, ◌∙◌}
use mathlib.Core.Logic.{◌≢◌}
use mathlib.Core.Bool.{true, false}
use borrow.Author.Tests.{eqb-false}
use Rattle.ranges.specs.Look.{count_below}
use Rattle.ranges.proofs.Looks.{by_test, both}
use Rattle.layout.specs.Layout.{Layout, none, is_none, page_in}
use Rattle.layout.specs.Page.{Page, page_at}
use Rattle.layout.specs.Record.{Record, has_slot, record_at}
use Rattle.layout.specs.Collection.{Collection, collection_at}
use Rattle.layout.specs.Images.{Images, slot_at}
use Rattle.rules.specs.Names.{main_number, side_number}
use Rattle.rules.specs.Blocks.{named_in, unnamed_in}
use Rattle.rules.specs.Sound.{twin_in}
use Rattle.rules.specs.Fetch.{itself}
use Rattle.rules.proofs.Soundness.Statements.{Sound}

module _ (l : Layout) where
  open l use {N, K, S}

  -- In phase 2, with the pages x of the collection's chip: a copy that is due holds the bytes of its original, and the copies
  -- stand in the order of the originals.
  pub record Copies (r : ℕ → Record) (x : ℕ → Page) (co : Collection) : Type 0 where
    pub bytes : co.phase ≡ 2 → (i k : ℕ) → i < K → k < K → named_in l r co.chip co.victim i ≡ true
        → twin_in l r x co.chip co.destination (page_in l co.victim i) k ≡ true
        → (x (page_in l co.destination k)).bytes ≡ (x (page_in l co.victim i)).bytes
    pub ranks : co.phase ≡ 2 → (i k : ℕ) → i < K → k < K → named_in l r co.chip co.victim i ≡ true
        → twin_in l r x co.chip co.destination (page_in l co.victim i) k ≡ true
        → count_below k (unnamed_in l r co.chip co.destination) ≡ count_below i (named_in l r co.chip co.victim)

  -- of images
  abbrev pub CopiesOf : Images → Type 0
  CopiesOf s =
      Copies (record_at l s.records) (page_at l s.chips (collection_at l s.records).chip) (collection_at l s.records)

  -- number a' on chip c names, among the pages y', what number a named among the pages y
  pub record Same (y y' : ℕ → ℕ → Page) (c a a' : ℕ) : Type 0 where
    pub none_too : is_none l a' ≡ is_none l a
    pub bytes : (itself l y' c a').bytes ≡ (itself l y c a).bytes

  -- t holds what s holds
  pub record Kept (s t : Images) : Type 0 where
    pub sound : Sound l t
    pub slot : (j : ℕ) → j < S → (record_at l t.records j).slot ≡ (record_at l s.records j).slot
    pub bitmap : (j : ℕ) → j < S → (record_at l t.records j).bitmap ≡ (record_at l s.records j).bitmap
    pub memory : (j : ℕ) → j < S → has_slot (record_at l s.records j) ≡ true
        → slot_at l t.slots (record_at l s.records j).slot ≡ slot_at l s.slots (record_at l s.records j).slot
    pub copies : CopiesOf s → CopiesOf t
    pub main : CopiesOf s → (c j : ℕ) → c < N + 1 → j < S
        → Same (page_at l s.chips) (page_at l t.chips) c (main_number l c j (record_at l s.records j)) (main_number l c j (record_at l t.records j))
    pub side : CopiesOf s → (c j : ℕ) → c < N + 1 → j < S
        → Same (page_at l s.chips) (page_at l t.chips) c (side_number l c j (record_at l s.records j)) (side_number l c j (record_at l t.records j))

  pub same_refl : (y : ℕ → ℕ → Page) (c a : ℕ) → Same y y c a a
  same_refl y c a = record { none_too = refl; bytes = refl }

  -- the same number, and the same page
  pub same_number : (y : ℕ → ℕ → Page) (c a a' : ℕ) → a' ≡ a → Same y y c a a'
  same_number y c a a' e = rw e (same_refl y c a)

  same_trans : (y y' y'' : ℕ → ℕ → Page) (c a a' a'' : ℕ) → Same y y' c a a' → Same y' y'' c a' a'' → Same y y'' c a a''
  same_trans y y' y'' c a a' a'' g h = record { none_too = h.none_too ∙ g.none_too; bytes = h.bytes ∙ g.bytes }

  pub same_page : (y y' : ℕ → ℕ → Page) (c a : ℕ) → (a ≢ none l → y' c a ≡ y c a) → Same y y' c a a
  unfolding itself
  same_page y y' c a h = record {
    none_too = refl;
    bytes = by_test (is_none l a) (λ t. rw t) (λ t. rw t (ap (λ (x : Page). x.bytes) (h (eqb-false a (none l) t))));
  }

  pub kept_refl : (s : Images) → Sound l s → Kept s s
  kept_refl s f = record {
    sound = f;
    slot = λ j h. refl;
    bitmap = λ j h. refl;
    memory = λ j h t. refl;
    copies = λ h. h;
    main = λ h c j chip below. same_refl (page_at l s.chips) c (main_number l c j (record_at l s.records j));
    side = λ h c j chip below. same_refl (page_at l s.chips) c (side_number l c j (record_at l s.records j));
  }

  memory_trans : (s t u : Images) → Kept s t → Kept t u → (j : ℕ) → j < S → has_slot (record_at l s.records j) ≡ true
      → slot_at l u.slots (record_at l s.records j).slot ≡ slot_at l s.slots (record_at l s.records j).slot
  memory_trans s t u g h j below has =
      (rw (g.slot j below) at (h.memory j below (rw (g.slot j below) has))) ∙ g.memory j below has

  pub kept_trans : (s t u : Images) → Kept s t → Kept t u → Kept s u
  kept_trans s t u g h = record {
    sound = h.sound;
    slot = λ j below. h.slot j below ∙ g.slot j below;
    bitmap = λ j below. h.bitmap j below ∙ g.bitmap j below;
    memory = memory_trans s t u g h;
    copies = λ held. h.copies (g.copies held);
    main = λ held c j chip below.
        same_trans (page_at l s.chips) (page_at l t.chips) (page_at l u.chips) c
        (main_number l c j (record_at l s.records j)) (main_number l c j (record_at l t.records j)) (main_number l c j (record_at l u.records j))
        (g.main held c j chip below) (h.main (g.copies held) c j chip below);
    side = λ held c j chip below.
        same_trans (page_at l s.chips) (page_at l t.chips) (page_at l u.chips) c
        (side_number l c j (record_at l s.records j)) (side_number l c j (record_at l t.records j)) (side_number l c j (record_at l u.records j))
        (g.side held c j chip below) (h.side (g.copies held) c j chip below);
  }

  -- with no copy due there is nothing to say of one
  pub no_copies : (r : ℕ → Record) (x : ℕ → Page) (co : Collection)
      → (co.phase ≡ 2 → (i : ℕ) → i < K → named_in l r co.chip co.victim i ≡ false) → Copies r x co
  no_copies r x co none_named = record {
    bytes = λ busy i k h h' t. both (named_in l r co.chip co.victim i) t (none_named busy i h);
    ranks = λ busy i k h h' t. both (named_in l r co.chip co.victim i) t (none_named busy i h);
  }

  pub no_copies_yet : (r : ℕ → Record) (x : ℕ → Page) (co : Collection) → co.phase ≢ 2 → Copies r x co
  no_copies_yet r x co d = no_copies r x co (λ busy. absurd (d busy))
