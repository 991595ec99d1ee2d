-- What the slots and the parity pages hold: the two XOR groups of a stripe.
use Prim.Native.Nat.{ℕ, ◌+◌, ◌*◌, ◌≤◌, ◌<◌}
use native.Mathlib.Decide.{ℕ_discrete}
use native.Mathlib.Omega.{arith}
use mathlib.Core.Path.{◌≡◌, refl, sym, ap, ◌∙◌}
use mathlib.Core.Logic.{◌≢◌}
use mathlib.Core.Bool.{Bool, true, false, cond}
use mathlib.Core.List.{List, []}
use lib.ListN.{length}
use lib.Arith.{digits_lt}
use lib.Seq.{length-take-le}
use borrow.Author.Tests.{eq-eqb, ne_eqb}
use Rattle.octets.specs.Units.{unit}
use Rattle.octets.specs.Xor.{◌⊕◌}
use Rattle.ranges.proofs.Looks.{by_test, both}
use Rattle.octets.proofs.Units.{length_unit, unit_unit}
use Rattle.octets.proofs.Xors.{xor_below_cong, xor_below_nil, xor_below_one, xor_below_split, length_xor_below, length_xor_below_exact}
use Rattle.layout.specs.Layout.{Layout, none, pages, page_bytes}
use Rattle.layout.specs.Rotation.{parity_chip, member_chip}
use Rattle.layout.specs.Page.{Page, page_of, page_at}
use Rattle.layout.specs.Record.{Record, bit, no_slot, has_slot, record_at}
use Rattle.layout.specs.Images.{Images, chips_length, slots_length, slot_at}
use Rattle.layout.proofs.Limits.{Within}
use Rattle.layout.proofs.Bits.{bit_test, nonzero_has_bit}
use Rattle.layout.proofs.Rotations.{member_chip_fits}
use Rattle.layout.proofs.Records.{bits_of_none}
use Rattle.rules.specs.declared.Origin.TheVariants.{Direct}
use Rattle.rules.specs.Fetch.{Fetched, itself, members_feed, gathered, under_parity}
use Rattle.rules.proofs.Soundness.Statements.{Numbered, RecordSound}

-- what is found of a page that is there
abbrev pub directly : List ℕ → Fetched
directly xs = record { bytes = xs; reads = 1; origin = Direct }

module _ (l : Layout) where
  open l use {N, W, S, M}

  -- the current pages of the set members, which the partial parity is made of
  unfoldable pub current_inside : Record → ℕ → ℕ
  current_inside r m = cond (bit r m) (r.current m) (none l)

  -- stripe j with its record r, where y gives the pages of each chip and z the slots
  pub record StripeData (y : ℕ → ℕ → Page) (z : ℕ → List ℕ) (j : ℕ) (r : Record) : Type 0 where
    pub partial : has_slot r ≡ true → z r.slot ≡ (gathered l y j (current_inside r)).bytes
    pub parity : (itself l y (parity_chip l j) r.parity).bytes ≡ (gathered l y j (under_parity l r)).bytes

  -- every page holds W bytes
  abbrev pub Whole : (ℕ → ℕ → Page) → Type 0
  Whole y = (c p : ℕ) → c < N + 1 → p < pages l → length (y c p).bytes ≡ W

  -- every stripe of the images
  abbrev pub Data : Images → Type 0
  Data s = (j : ℕ) → j < S → StripeData (page_at l s.chips) (slot_at l s.slots) j (record_at l s.records j)

  -- ---- one page

  pub bytes_none : (y : ℕ → ℕ → Page) (c : ℕ) → (itself l y c (none l)).bytes ≡ []
  unfolding itself
  bytes_none y c = rw (eq-eqb (none l) (none l) refl)

  pub page_itself : (y : ℕ → ℕ → Page) (c p : ℕ) → p ≢ none l → itself l y c p ≡ directly (y c p).bytes
  unfolding itself
  page_itself y c p d = rw (ne_eqb p (none l) d)

  pub bytes_page : (y : ℕ → ℕ → Page) (c p : ℕ) → p ≢ none l → (itself l y c p).bytes ≡ (y c p).bytes
  bytes_page y c p d = ap (λ (x : Fetched). x.bytes) (page_itself y c p d)

  bytes_at_none : (y : ℕ → ℕ → Page) (c p : ℕ) → p ≡ none l → (itself l y c p).bytes ≡ []
  bytes_at_none y c p e = rw e (bytes_none y c)

  -- a number that is none or a page: one of two, or none
  pub numbered_none : Numbered l (none l)
  numbered_none d = absurd (d refl)

  pub numbered_cond : (b : Bool) (p q : ℕ) → Numbered l p → Numbered l q → Numbered l (cond b p q)
  numbered_cond true p q h k = h
  numbered_cond false p q h k = k

  module _ (y : ℕ → ℕ → Page) (whole : Whole y) where
    pub length_bytes : (c p : ℕ) → c < N + 1 → Numbered l p → p ≢ none l → length (itself l y c p).bytes ≡ W
    length_bytes c p chip h d = ap length (bytes_page y c p d) ∙ whole c p chip (h d)

    pub length_bytes_most : (c p : ℕ) → c < N + 1 → Numbered l p → length (itself l y c p).bytes ≤ W
    length_bytes_most c p chip h = elim (ℕ_discrete p (none l)) [
      | yes e ↦ omega (arith, ap length (bytes_at_none y c p e))
      | no d ↦ omega (arith, length_bytes c p chip h d)
    ]

  -- ---- the pages of a stripe

  -- the data of page f m of member m of stripe j
  abbrev pub member_bytes : (ℕ → ℕ → Page) → ℕ → (ℕ → ℕ) → ℕ → List ℕ
  member_bytes y j f m = (itself l y (member_chip l j m) (f m)).bytes

  -- the same bytes
  pub gathered_cong : (y y' : ℕ → ℕ → Page) (j : ℕ) (f f' : ℕ → ℕ)
      → ((m : ℕ) → m < N → (itself l y' (member_chip l j m) (f' m)).bytes ≡ (itself l y (member_chip l j m) (f m)).bytes)
      → (gathered l y' j f').bytes ≡ (gathered l y j f).bytes
  unfolding gathered members_feed
  gathered_cong y y' j f f' h = xor_below_cong N (member_bytes y' j f') (member_bytes y j f) h

  module _ (y : ℕ → ℕ → Page) (j : ℕ) where
    -- the same numbers
    pub gathered_same : (f f' : ℕ → ℕ) → ((m : ℕ) → m < N → f' m ≡ f m) → (gathered l y j f').bytes ≡ (gathered l y j f).bytes
    gathered_same f f' h = gathered_cong y y j f f' (λ m b. ap (λ p. (itself l y (member_chip l j m) p).bytes) (h m b))

    pub gathered_none : (f : ℕ → ℕ) → ((m : ℕ) → m < N → f m ≡ none l) → (gathered l y j f).bytes ≡ []
    unfolding gathered members_feed
    gathered_none f h = xor_below_nil N (member_bytes y j f) (λ m b. bytes_at_none y (member_chip l j m) (f m) (h m b))

    -- g has the page of member m more than f
    pub gathered_one : (f g : ℕ → ℕ) (m : ℕ) → m < N → f m ≡ none l → ((k : ℕ) → k < N → k ≢ m → f k ≡ g k)
        → (gathered l y j g).bytes ≡ (gathered l y j f).bytes ⊕ (itself l y (member_chip l j m) (g m)).bytes
    unfolding gathered members_feed
    gathered_one f g m h e same =
        xor_below_one N m (member_bytes y j f) (member_bytes y j g) h (bytes_at_none y (member_chip l j m) (f m) e)
        (λ k b d. ap (λ p. (itself l y (member_chip l j k) p).bytes) (same k b d))

    -- the pages of h, some in f and the others in g
    pub gathered_split : (f g h : ℕ → ℕ)
        → ((m : ℕ) → m < N → (itself l y (member_chip l j m) (f m)).bytes ⊕ (itself l y (member_chip l j m) (g m)).bytes ≡ (itself l y (member_chip l j m) (h m)).bytes)
        → (gathered l y j f).bytes ⊕ (gathered l y j g).bytes ≡ (gathered l y j h).bytes
    unfolding gathered members_feed
    gathered_split f g h e =
        sym (xor_below_split N (member_bytes y j f) (member_bytes y j g))
        ∙ xor_below_cong N (λ m. member_bytes y j f m ⊕ member_bytes y j g m) (member_bytes y j h) e

    module _ (whole : Whole y) (f : ℕ → ℕ) (numbered : (m : ℕ) → m < N → Numbered l (f m)) where
      length_member : (m : ℕ) → m < N → length (member_bytes y j f m) ≤ W
      length_member m h = length_bytes_most y whole (member_chip l j m) (f m) (member_chip_fits l j m h) (numbered m h)

      pub length_gathered : length (gathered l y j f).bytes ≤ W
      unfolding gathered members_feed
      length_gathered = length_xor_below N W (member_bytes y j f) length_member

      pub gathered_whole : (m : ℕ) → m < N → f m ≢ none l → length (gathered l y j f).bytes ≡ W
      unfolding gathered members_feed
      gathered_whole m h d =
          length_xor_below_exact N W m (member_bytes y j f) length_member h
          (length_bytes y whole (member_chip l j m) (f m) (member_chip_fits l j m h) (numbered m h) d)

  -- ---- images of their lengths

  -- every page and every slot is W bytes long
  pub pages_whole : (s : Images) → length s.chips ≡ chips_length l → Whole (page_at l s.chips)
  unfolding page_at page_of chips_length
  pages_whole s long c p chip inside =
      let whole : length (unit (page_bytes l) (c * pages l + p) s.chips) ≡ page_bytes l =
      length_unit ((N + 1) * pages l) (page_bytes l) (c * pages l + p) s.chips long (digits_lt chip inside) in
      rw (unit_unit (pages l) (page_bytes l) c p s.chips inside)
      (length-take-le W (unit (page_bytes l) (c * pages l + p) s.chips) (omega arith))

  pub slot_whole : (s : Images) → length s.slots ≡ slots_length l → (i : ℕ) → i < M + 1 → length (slot_at l s.slots i) ≡ W
  unfolding slot_at slots_length
  slot_whole s long i h = length_unit (M + 1) W i s.slots long h

  -- ---- a record has a slot exactly where some bit is set

  -- from the slot to the bits
  pub slot_bits : (r : Record) → RecordSound l r → has_slot r ≡ true → r.bitmap ≢ 0
  slot_bits r f t e = both (has_slot r) t (rw (f.no_slot_lem e))

  pub some_bit : (r : Record) → RecordSound l r → has_slot r ≡ true → (m : ℕ) × (m < N) × (bit r m ≡ true)
  some_bit r f t =
      let (m, h, e) = nonzero_has_bit N r.bitmap f.bitmap (slot_bits r f t) in
      (m, h, bit_test r m ∙ e)

  module _ (w : Within l) (r : Record) (f : RecordSound l r) where
    bits_slot : r.bitmap ≢ 0 → has_slot r ≡ true
    bits_slot d = rw (ne_eqb r.slot no_slot (omega (arith, f.slot d, w.partials_high)))

    pub bit_slot : (m : ℕ) → bit r m ≡ true → has_slot r ≡ true
    bit_slot m t = bits_slot (λ e. both (bit r m) t (bits_of_none r e m))

    pub no_slot_no_bit : has_slot r ≡ false → (m : ℕ) → bit r m ≡ false
    no_slot_no_bit e m = by_test (bit r m) (λ t. both (has_slot r) (bit_slot m t) e) (λ t. t)
