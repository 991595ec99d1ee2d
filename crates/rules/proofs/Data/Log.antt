-- The log of document 02, 1: it depends on the bytes of the logical pages alone; and a page with one ticket more.
use Prim.Native.Nat.{ℕ, zero, suc, ◌*◌, ◌%◌, ◌≤◌, ◌<◌}
use native.Mathlib.Nat.{div-lt_iff_lt-mul, div-add-mod', mod-lt, lt_of_lt_of_le, le_refl, le_step, lt-suc_self}
use native.Mathlib.Decide.{ℕ_discrete}
use native.Mathlib.Omega.{arith}
use mathlib.Core.Path.{◌≡◌, refl, sym, ap, ◌∙◌}
use mathlib.Core.List.{List}
use lib.ListN.{length, length-replicate}
use Rattle.std.specs.Prelude.{Some}
use Rattle.ranges.specs.Look.{when_found}
use Rattle.ranges.specs.Update.{at}
use Rattle.ranges.proofs.Looks.{by_same, by_found, all_cong, first_at, first_cong, last_at, last_cong}
use Rattle.ranges.proofs.Updates.{at_same, at_other, at_unique}
use Rattle.octets.proofs.Units.{length_unit_put, unit_same, unit_other}
use Rattle.layout.specs.Layout.{Layout, no_chip, none}
use Rattle.layout.specs.Rotation.{member_chip, member_of, stripe_of}
use Rattle.layout.specs.Page.{page_at}
use Rattle.layout.specs.Record.{record_at}
use Rattle.layout.specs.Images.{Images}
use Rattle.layout.proofs.Limits.{Within}
use Rattle.layout.proofs.Rotations.{stripe_fits, member_fits, page_chip_fits}
use Rattle.rules.specs.declared.Origin.{Origin}
use Rattle.rules.specs.Fetch.{Fetched}
use Rattle.rules.specs.Origins.{greatest_origin}
use Rattle.rules.specs.Tickets.{ticket_bytes, ticket_of, is_empty, ticket_sound, is_for, weight_of}
use Rattle.rules.specs.Log.{per_page, places, falls_in, bytes_at, ticket_at, log_end, log_length, log_sound, latest, standing, log_pages, log_origin, with_ticket, contents}
use Rattle.rules.proofs.Soundness.Statements.{Sound, sound_member}
use Rattle.rules.proofs.Data.Contents.{length_bytes, pages_whole}
use Rattle.rules.proofs.Data.Rebuild.{fetch_unwritten, fetch_direct}

greatest_cong : (n : ℕ) (o p : ℕ → Origin) → ((i : ℕ) → i < n → o i ≡ p i) → greatest_origin n o ≡ greatest_origin n p
unfolding greatest_origin
greatest_cong zero o p h = refl
greatest_cong (suc n) o p h = rw (greatest_cong n o p (λ i b. h i (le_step b)), h n (lt-suc_self n))

module _ (l : Layout) where
  open l use {N, W, S}

  -- f and g have the same bytes in each logical page
  abbrev pub SamePages : (f g : ℕ → List ℕ) → Type 0
  SamePages f g = (i : ℕ) → i < N * S → f i ≡ g i

  -- the end of a log is a place of a page, and so is every place before it
  pub end_fits : (f : ℕ → List ℕ) (t : ℕ) → log_end l f ≡ Some t → t < places l
  unfolding log_end
  end_fits f t e = (first_at _ _ t e).0

  length_most : (f : ℕ → List ℕ) → log_length l f ≤ places l
  unfolding log_length when_found
  length_most f = by_found (log_end l f) (λ t e. rw e (omega (arith, end_fits f t e))) (λ e. rw e (le_refl (places l)))

  latest_fits : (f : ℕ → List ℕ) (lot bag t : ℕ) → latest l f lot bag ≡ Some t → t < places l
  unfolding latest
  latest_fits f lot bag t e = lt_of_lt_of_le (last_at _ _ t e) (length_most f)

  module _ (w : Within l) where
    -- a page is tickets and nothing else
    pub some_tickets : 0 < per_page l
    some_tickets = omega (arith, w.bytes_low)

    pub all_tickets : per_page l * ticket_bytes ≡ W
    all_tickets = omega (arith, w.bytes_unit)

    pub page_fits : (t : ℕ) → t < places l → falls_in l t < N * S
    page_fits t h = (div-lt_iff_lt-mul some_tickets).1 h

    pages_most : (f : ℕ → List ℕ) → log_pages l f ≤ N * S
    unfolding log_pages when_found
    pages_most f = by_found (log_end l f) (λ t e. rw e (omega (arith, page_fits t (end_fits f t e)))) (λ e. rw e (le_refl (N * S)))

    -- ---- the log of the same pages is the same

    module _ (f g : ℕ → List ℕ) (same : SamePages f g) where
      bytes_same : (t : ℕ) → t < places l → bytes_at l f t ≡ bytes_at l g t
      unfolding bytes_at
      bytes_same t h = rw (same (falls_in l t) (page_fits t h))

      pub with_same : (ticket : List ℕ) (t : ℕ) → t < places l → with_ticket l f ticket t ≡ with_ticket l g ticket t
      unfolding with_ticket
      with_same ticket t h = rw (same (falls_in l t) (page_fits t h))

      pub end_same : log_end l f ≡ log_end l g
      unfolding log_end
      end_same =
          first_cong (places l) (λ t. is_empty (ticket_at l f t)) (λ t. is_empty (ticket_at l g t))
          (λ t h. ap (λ xs. is_empty (ticket_of xs)) (bytes_same t h))

      length_same : log_length l f ≡ log_length l g
      unfolding log_length
      length_same = rw end_same

      pub sound_same : log_sound l f ≡ log_sound l g
      unfolding log_sound
      sound_same =
          rw length_same
          (all_cong (log_length l g) (λ t. ticket_sound (ticket_at l f t)) (λ t. ticket_sound (ticket_at l g t))
          (λ t h. ap (λ xs. ticket_sound (ticket_of xs)) (bytes_same t (lt_of_lt_of_le h (length_most g)))))

      latest_same : (lot bag : ℕ) → latest l f lot bag ≡ latest l g lot bag
      unfolding latest
      latest_same lot bag =
          rw length_same
          (last_cong (log_length l g) (λ t. is_for lot bag (ticket_at l f t)) (λ t. is_for lot bag (ticket_at l g t))
          (λ t h. ap (λ xs. is_for lot bag (ticket_of xs)) (bytes_same t (lt_of_lt_of_le h (length_most g)))))

      pub standing_same : (lot bag : ℕ) → standing l f lot bag ≡ standing l g lot bag
      unfolding standing when_found
      standing_same lot bag = by_found (latest l g lot bag)
          (λ t e. rw (latest_same lot bag, e) (ap (λ xs. weight_of (ticket_of xs)) (bytes_same t (latest_fits g lot bag t e))))
          (λ e. rw (latest_same lot bag, e))

      pages_same : log_pages l f ≡ log_pages l g
      unfolding log_pages
      pages_same = rw end_same

      -- and so is how it was got, where each page was got alike
      module _ (o p : ℕ → Origin) (told : (i : ℕ) → i < N * S → o i ≡ p i) where
        all_told : greatest_origin (log_pages l f) o ≡ greatest_origin (log_pages l g) p
        all_told = rw pages_same (greatest_cong (log_pages l g) o p (λ i h. told i (lt_of_lt_of_le h (pages_most g))))

        pub origin_same : (lot bag : ℕ) → log_origin l f o lot bag ≡ log_origin l g p lot bag
        unfolding log_origin when_found
        origin_same lot bag = by_found (latest l g lot bag)
            (λ t e. rw (standing_same lot bag, latest_same lot bag, e, told (falls_in l t) (page_fits t (latest_fits g lot bag t e)), all_told))
            (λ e. rw (standing_same lot bag, latest_same lot bag, e, all_told))

    -- ---- a ticket put into its page

    -- two places in one page are two tickets of it
    same_place : (t u : ℕ) → falls_in l u ≡ falls_in l t → u % per_page l ≡ t % per_page l → u ≡ t
    same_place t u e q = sym (div-add-mod' u (per_page l)) ∙ rw (e, q) (div-add-mod' t (per_page l))

    module _ (f : ℕ → List ℕ) (ticket : List ℕ) (t : ℕ) (page : length (f (falls_in l t)) ≡ W) (whole : length ticket ≡ ticket_bytes) where
      units : length (f (falls_in l t)) ≡ per_page l * ticket_bytes
      units = page ∙ sym all_tickets

      -- "other bytes kept"
      pub with_bytes : bytes_at l (at (falls_in l t) (with_ticket l f ticket t) f) ≡ at t ticket (bytes_at l f)
      unfolding bytes_at with_ticket
      with_bytes =
          let g = at (falls_in l t) (with_ticket l f ticket t) f in
          at_unique t ticket (bytes_at l f) (bytes_at l g)
          (rw (at_same (falls_in l t) (with_ticket l f ticket t) f)
          (unit_same (per_page l) ticket_bytes (t % per_page l) ticket (f (falls_in l t)) units (mod-lt t some_tickets) whole))
          (λ u d. by_same (falls_in l u) (falls_in l t)
          (λ e.
          rw (e, at_same (falls_in l t) (with_ticket l f ticket t) f)
          (unit_other (per_page l) ticket_bytes (t % per_page l) (u % per_page l) ticket (f (falls_in l t)) units (mod-lt t some_tickets) whole (λ q. d (same_place t u e q))))
          (λ other. rw (at_other (falls_in l t) (with_ticket l f ticket t) f (falls_in l u) other)))

      pub with_whole : length (with_ticket l f ticket t) ≡ W
      unfolding with_ticket
      with_whole =
          length_unit_put (per_page l) ticket_bytes (t % per_page l) ticket (f (falls_in l t)) units (mod-lt t some_tickets) whole ∙ page

    -- every page of sound images reads as W bytes
    pub contents_whole : (s : Images) → Sound l s → (i : ℕ) → i < N * S → length (contents l s no_chip i) ≡ W
    contents_whole s sound i page =
        let r = record_at l s.records (stripe_of l i) in
        elim (ℕ_discrete (r.current (member_of l i)) (none l)) [
          | yes e ↦ ap (λ (x : Fetched). length x.bytes) (fetch_unwritten l s no_chip i e) ∙ length-replicate W 0
          | no d ↦
              ap (λ (x : Fetched). length x.bytes) (fetch_direct l w s i d)
              ∙ length_bytes l (page_at l s.chips) (pages_whole l s sound.chips) (member_chip l (stripe_of l i) (member_of l i)) (r.current (member_of l i))
              (page_chip_fits l w i)
              (sound_member l w r (sound.stripes.stripe (stripe_of l i) (stripe_fits l w i page)) (member_of l i) (member_fits l w i)).current
              d
        ]
