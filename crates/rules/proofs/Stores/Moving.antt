-- A copy in place of its original, in all records and on the chip of the collection.
use Prim.Native.Nat.{ℕ, ◌<◌}
use native.Mathlib.Omega.{arith}
use mathlib.Core.Path.{◌≡◌, refl, sym, ap, ◌∙◌}
use mathlib.Core.Logic.{◌≢◌}
use mathlib.Core.Bool.{true, false, and-false}
use lib.Dec.{eqb}
use borrow.Author.Tests.{eq-eqb, ne_eqb}
use Rattle.ranges.specs.Update.{at}
use Rattle.ranges.proofs.Looks.{both, some_cong, by_same}
use Rattle.ranges.proofs.Updates.{by_at}
use Rattle.ranges.proofs.Counts.{count_cong, Loses, ranks_stay}
use Rattle.layout.specs.Layout.{Layout, none, is_none, pages, page_in, in_block}
use Rattle.layout.specs.Page.{Page}
use Rattle.layout.specs.Record.{Record, slotted}
use Rattle.layout.specs.Collection.{Collection}
use Rattle.layout.proofs.Limits.{Within}
use Rattle.layout.proofs.Pages.{page_number_lem, page_in_fits, same_place, place_in}
use Rattle.rules.specs.Names.{main_number, side_number, names, named}
use Rattle.rules.specs.Blocks.{named_in, unnamed_in}
use Rattle.rules.specs.Sound.{twin, twin_in, collecting}
use Rattle.rules.specs.Open.{moved, repointed, due}
use Rattle.rules.specs.Fetch.{itself}
use Rattle.rules.proofs.Soundness.Statements.{RecordSound, RecordsSound, Stamped, IsTwin, OneTwin, ChipSound}
use Rattle.rules.proofs.Stores.Kept.{Copies, Same, same_number}
use Rattle.rules.proofs.Stores.Names.{by_name, main_names, side_names, not_names, named_by, name_named, unnamed_at, named_none, name_stamped, one_stripe}
use Rattle.rules.proofs.Stores.Twins.{twin_is, is_twin, due_is}
use Rattle.rules.proofs.Stores.Repoint.{moved_here, moved_other, by_moved, repointed_bitmap, repointed_slot, repointed_main, repointed_side, repointed_other, repointed_beyond, repointed_sound}

-- The records r and the pages x of the chip of a collection in phase 2, where place k of the destination holds a page that is due.
pub record Moving (l : Layout) (r : ℕ → Record) (x : ℕ → Page) (co : Collection) (k : ℕ) : Type 0 where
  pub within : Within l
  pub records : RecordsSound l r co
  pub chip : ChipSound l r x co.chip co
  pub busy : co.phase ≡ 2
  pub fits : k < l.K
  pub is_due_lem : due l co x r (page_in l co.destination k) ≡ true

module _ (l : Layout) (r : ℕ → Record) (x : ℕ → Page) (co : Collection) (k : ℕ) (g : Moving l r x co k) where
  open l use {K, S}
  open g use {within, records, chip, busy, fits, is_due_lem}

  abbrev c : ℕ
  c = co.chip

  abbrev v : ℕ
  v = co.victim

  abbrev d : ℕ
  d = co.destination

  -- the copy, its original, their stripe, and the records after the move
  abbrev q : ℕ
  q = page_in l d k

  abbrev p : ℕ
  p = (x q).copied

  abbrev j : ℕ
  j = (x q).stripe

  abbrev new : ℕ → Record
  new = at j (repointed l c j p q (r j)) r

  due_parts : (in_block l v p ≡ true) × (named l r c p ≡ true) × (twin l r x c p q ≡ true)
  due_parts = due_is l co x r q is_due_lem

  begun : co.phase ≢ 0
  begun = omega (arith, busy)

  -- where they stand
  original_place : (i : ℕ) × (i < K) × (p ≡ page_in l v i)
  original_place = place_in l v p due_parts.0

  original_fits : p < pages l
  original_fits = rw original_place.2 (page_in_fits l v original_place.0 (records.collection.victim begun) original_place.1)

  copy_fits : q < pages l
  copy_fits = page_in_fits l d k (records.collection.destination begun) fits

  original_page : p ≢ none l
  original_page = page_number_lem l within p original_fits

  copy_page : q ≢ none l
  copy_page = page_number_lem l within q copy_fits

  blocks_apart : (i m : ℕ) → i < K → m < K → page_in l v i ≢ page_in l d m
  blocks_apart i m hi hm e = records.collection.apart begun (same_place l v i d m hi hm e).0

  moved_away : p ≢ q
  moved_away e = blocks_apart original_place.0 k original_place.1 fits (sym original_place.2 ∙ e)

  -- the stamp of the copy is that of the original
  stamps : IsTwin l r x c p q
  stamps = twin_is l r x c p q due_parts.2

  owner : (i : ℕ) × (i < S) × (names l r c p i ≡ true)
  owner = named_by l r c p due_parts.1

  owner_is : owner.0 ≡ j
  owner_is = sym (stamps.stripe ∙ (name_stamped l r x c co chip p owner.0 owner.1 original_page owner.2).stripe)

  pub stripe_fits : j < S
  stripe_fits = rw (← owner_is) owner.1

  stripe_names : names l r c p j ≡ true
  stripe_names = rw owner_is at owner.2

  -- the new record
  free : (i : ℕ) → i < S → (main_number l c i (r i) ≢ q) × (side_number l c i (r i) ≢ q)
  free = unnamed_at l r c q stamps.free

  pub new_sound : RecordSound l (repointed l c j p q (r j))
  new_sound =
      repointed_sound l c j p q (r j) original_page copy_fits copy_page (records.stripe j stripe_fits) (free j stripe_fits).0 (free j stripe_fits).1

  pub new_beyond : (m : ℕ) → ((r j).current m ≡ none l) × ((r j).old m ≡ none l)
      → ((repointed l c j p q (r j)).current m ≡ none l) × ((repointed l c j p q (r j)).old m ≡ none l)
  new_beyond = repointed_beyond l c j p q (r j) original_page copy_fits copy_page

  -- the records after the move
  by_stripe {ℓ} : {P : Type ℓ} (i : ℕ) → (i ≡ j → new i ≡ repointed l c j p q (r j) → P) → (i ≢ j → new i ≡ r i → P) → P
  by_stripe = by_at j (repointed l c j p q (r j)) r

  pub new_slot : (i : ℕ) → (new i).slot ≡ (r i).slot
  new_slot i = by_stripe i (λ e n. rw (n, e) (repointed_slot l c j p q (r j))) (λ _ n. rw n)

  pub new_bitmap : (i : ℕ) → (new i).bitmap ≡ (r i).bitmap
  new_bitmap i = by_stripe i (λ e n. rw (n, e) (repointed_bitmap l c j p q (r j))) (λ _ n. rw n)

  new_stripe : (i : ℕ) → i < S → RecordSound l (new i)
  new_stripe i h = by_stripe i (λ _ n. rw n new_sound) (λ _ n. rw n (records.stripe i h))

  -- all records are sound
  pub new_records : RecordsSound l new co
  new_records = record {
    stripe = new_stripe;
    own = λ i m b h t e. records.own i m b h (rw (new_slot m) at t) (sym (new_slot i) ∙ e ∙ new_slot m);
    few = rw (count_cong S (slotted new) (slotted r) (λ i h. rw (new_slot i))) records.few;
    collection = records.collection;
  }

  -- On another chip all numbers are as they were; on this one q stands for p in every stripe, since no other stripe has p.
  new_other : (c' i : ℕ) → c' ≢ c → (main_number l c' i (new i) ≡ main_number l c' i (r i)) × (side_number l c' i (new i) ≡ side_number l c' i (r i))
  new_other c' i o = by_stripe i (λ e n. rw (n, e) (repointed_other l c j p q (r j) c' o)) (λ _ n. rw n (refl, refl))

  not_there : (i : ℕ) → i < S → i ≢ j → names l r c p i ≢ true
  not_there i h o t = o (one_stripe l r x c co chip p i j h stripe_fits original_page t stripe_names)

  new_main : (i : ℕ) → i < S → main_number l c i (new i) ≡ moved p q (main_number l c i (r i))
  new_main i h = by_stripe i
      (λ e n. rw (n, e) (repointed_main l c j p q (r j)))
      (λ o n. rw n (sym (moved_other p q (main_number l c i (r i)) (λ e. not_there i h o (main_names l r c p i e)))))

  new_side : (i : ℕ) → i < S → side_number l c i (new i) ≡ moved p q (side_number l c i (r i))
  new_side i h = by_stripe i
      (λ e n. rw (n, e) (repointed_side l c j p q (r j) original_page))
      (λ o n. rw n (sym (moved_other p q (side_number l c i (r i)) (λ e. not_there i h o (side_names l r c p i e)))))

  -- names after the move
  pub new_to : named l new c q ≡ true
  new_to = name_named l new c q j stripe_fits
      (by_name l r c p j stripe_names
      (λ e. main_names l new c q j (new_main j stripe_fits ∙ rw e (moved_here p q)))
      (λ e. side_names l new c q j (new_side j stripe_fits ∙ rw e (moved_here p q))))

  no_longer : (a : ℕ) → moved p q a ≢ p
  no_longer a e = by_moved p q a (λ _ m. moved_away (sym e ∙ m)) (λ o m. o (sym m ∙ e))

  pub new_from : named l new c p ≡ false
  new_from = named_none l new c p (λ i h. not_names l new c p i
      (λ e. no_longer (main_number l c i (r i)) (sym (new_main i h) ∙ e))
      (λ e. no_longer (side_number l c i (r i)) (sym (new_side i h) ∙ e)))

  test_stays : (n a : ℕ) → a ≢ p → a ≢ q → eqb (moved p q n) a ≡ eqb n a
  test_stays n a op oq = by_moved p q n
      (λ e m. rw (m, e, ne_eqb q a (λ z. oq (sym z)), ne_eqb p a (λ z. op (sym z))))
      (λ _ m. rw m)

  pub new_name : (a : ℕ) → a ≢ p → a ≢ q → named l new c a ≡ named l r c a
  unfolding named names
  new_name a op oq =
      some_cong S (names l new c a) (names l r c a)
      (λ i h. rw (new_main i h, new_side i h, test_stays (main_number l c i (r i)) a op oq, test_stays (side_number l c i (r i)) a op oq))

  -- stamps after the move
  stamped_moved : (i n : ℕ) → Stamped l x c i n → Stamped l x c i (moved p q n)
  stamped_moved i n t = by_moved p q n
      (λ e m. record {
        stripe = rw (m, stamps.stripe, ← e) t.stripe;
        kind = rw (m, stamps.kind, ← e) t.kind;
        member = rw (m, stamps.member, ← e) t.member;
      })
      (λ _ m. rw m t)

  stamped_after : (i n n' : ℕ) → n' ≡ moved p q n → (n ≢ none l → Stamped l x c i n) → n' ≢ none l → Stamped l x c i n'
  stamped_after i n n' e t o =
      let page : n ≢ none l = λ z. o (e ∙ moved_other p q n (λ h. original_page (sym h ∙ z)) ∙ z) in
      rw e (stamped_moved i n (t page))

  -- the pairs of original and copy after the move
  from_victim : (m : ℕ) → m < K → page_in l d m ≢ p
  from_victim m h e = blocks_apart original_place.0 m original_place.1 h (sym original_place.2 ∙ sym e)

  twin_stays : (a m : ℕ) → a ≢ p → m < K → twin_in l new x c d a m ≡ twin_in l r x c d a m
  unfolding twin
  twin_stays a m o h = by_same (page_in l d m) q
      (λ e. rw (e, ne_eqb p a (λ z. o (sym z)), and-false))
      (λ other. rw (new_name (page_in l d m) (from_victim m h) other))

  still_named : (i : ℕ) → i < K → named_in l new c v i ≡ true → (page_in l v i ≢ p) × (named_in l r c v i ≡ true)
  still_named i h t =
      let other : page_in l v i ≢ p = λ e. both (named_in l new c v i) t (rw e new_from) in
      (other, sym (new_name (page_in l v i) other (blocks_apart i k h fits)) ∙ t)

  one_twin_lem : (a : ℕ) → a ≢ p → OneTwin l r x c d a → OneTwin l new x c d a
  one_twin_lem a o t = record {
    place = t.place;
    fits = t.fits;
    is_twin = twin_is l new x c a (page_in l d t.place) (twin_stays a t.place o t.fits ∙ is_twin l r x c a (page_in l d t.place) t.is_twin);
    only = λ m h f. t.only m h (twin_is l r x c a (page_in l d m) (sym (twin_stays a m o h) ∙ is_twin l new x c a (page_in l d m) f));
  }

  -- the chip of the collection, and the others
  pub new_chip : ChipSound l new x c co
  new_chip = record {
    main = λ i h. stamped_after i (main_number l c i (r i)) (main_number l c i (new i)) (new_main i h) (chip.main i h);
    side = λ i h. stamped_after i (side_number l c i (r i)) (side_number l c i (new i)) (new_side i h) (chip.side i h);
    order = chip.order;
    spare = λ t. both (collecting co c) (rw (busy, eq-eqb c c refl)) t;
    phase_1 = λ e. absurd (omega (arith, busy, e));
    phase_2 = λ e same i h t.
        let before = still_named i h t in
        one_twin_lem (page_in l v i) before.0 (chip.phase_2 e same i h before.1);
  }

  pub new_chip_other : (c' : ℕ) (x' : ℕ → Page) → c' ≢ c → ChipSound l r x' c' co → ChipSound l new x' c' co
  new_chip_other c' x' o f = record {
    main = λ i h. rw (new_other c' i o).0 (f.main i h);
    side = λ i h. rw (new_other c' i o).1 (f.side i h);
    order = f.order;
    spare = f.spare;
    phase_1 = λ e. absurd (omega (arith, busy, e));
    phase_2 = λ _ e. absurd (o (sym e));
  }

  -- the pair that is moved
  original_named : named_in l r c v original_place.0 ≡ true
  original_named = rw (← original_place.2) due_parts.1

  original_twin : twin_in l r x c d (page_in l v original_place.0) k ≡ true
  original_twin = rw (← original_place.2) due_parts.2

  victim_loses : Loses K (named_in l r c v) (named_in l new c v) original_place.0
  victim_loses = record {
    had = original_named;
    lost = rw (← original_place.2) new_from;
    other = λ i h o. new_name (page_in l v i)
        (λ e. o (same_place l v i v original_place.0 h original_place.1 (e ∙ original_place.2)).1)
        (blocks_apart i k h fits);
  }

  destination_loses : Loses K (unnamed_in l r c d) (unnamed_in l new c d) k
  destination_loses = record {
    had = rw stamps.free;
    lost = rw new_to;
    other = λ i h o. rw (new_name (page_in l d i) (from_victim i h) (λ e. o (same_place l d i d k h fits e).1));
  }

  module _ (copies : Copies l r x co) where
    pub new_copies : Copies l new x co
    new_copies = record {
      bytes = λ e i m hi hm n t.
          let before = still_named i hi n in
          copies.bytes e i m hi hm before.1 (sym (twin_stays (page_in l v i) m before.0 hm) ∙ t);
      ranks = λ e i m hi hm n t.
          let before = still_named i hi n in
          let was = sym (twin_stays (page_in l v i) m before.0 hm) ∙ t in
          ranks_stay K (named_in l r c v) (named_in l new c v) (unnamed_in l r c d) (unnamed_in l new c d) original_place.0 k victim_loses destination_loses
          (copies.ranks e original_place.0 k original_place.1 fits original_named original_twin)
          i m hi hm
          (λ z. before.0 (sym (rw z at (twin_is l r x c (page_in l v i) (page_in l d m) was).copied)))
          (copies.ranks e i m hi hm before.1 was);
    }

    -- the copy holds the bytes of the original, so every number still names the same bytes
    same_bytes : (x q).bytes ≡ (x p).bytes
    same_bytes =
        copies.bytes busy original_place.0 k original_place.1 fits original_named original_twin ∙ sym (ap (λ (a : ℕ). (x a).bytes) original_place.2)

    module _ (y : ℕ → ℕ → Page) (pages_of : y c ≡ x) where
      moved_bytes : (n : ℕ) → (itself l y c (moved p q n)).bytes ≡ (itself l y c n).bytes
      unfolding itself
      moved_bytes n = by_moved p q n
          (λ e m. rw (m, e, ne_eqb q (none l) copy_page, ne_eqb p (none l) original_page, pages_of) same_bytes)
          (λ _ m. rw m)

      moved_none : (n : ℕ) → is_none l (moved p q n) ≡ is_none l n
      moved_none n = test_stays n (none l) (λ e. original_page (sym e)) (λ e. copy_page (sym e))

      same_moved : (c' n n' : ℕ) → c' ≡ c → n' ≡ moved p q n → Same l y y c' n n'
      same_moved c' n n' e to = record { none_too = rw to (moved_none n); bytes = rw (to, e) (moved_bytes n) }

      same_of : (c' n n' : ℕ) → (c' ≡ c → n' ≡ moved p q n) → (c' ≢ c → n' ≡ n) → Same l y y c' n n'
      same_of c' n n' here other = by_same c' c (λ e. same_moved c' n n' e (here e)) (λ o. same_number l y c' n n' (other o))

      pub same_main : (c' i : ℕ) → i < S → Same l y y c' (main_number l c' i (r i)) (main_number l c' i (new i))
      same_main c' i h = same_of c' (main_number l c' i (r i)) (main_number l c' i (new i)) (λ e. rw e (new_main i h)) (λ o. (new_other c' i o).0)

      pub same_side : (c' i : ℕ) → i < S → Same l y y c' (side_number l c' i (r i)) (side_number l c' i (new i))
      same_side c' i h = same_of c' (side_number l c' i (r i)) (side_number l c' i (new i)) (λ e. rw e (new_side i h)) (λ o. (new_other c' i o).1)
