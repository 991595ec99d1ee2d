-- What holds of the images and the book from a finished format on, whatever is called and wherever it is cut.
use Prim.Native.Nat.{ℕ, ◌*◌, ◌<◌}
use native.Mathlib.Omega.{arith}
use mathlib.Core.Path.{◌≡◌, refl, sym, ap, ◌∙◌}
use mathlib.Core.Bool.{Bool, true, false, not, cond, true≢false}
use mathlib.Core.List.{List}
use borrow.Author.Tests.{ne_eqb}
use Rattle.ranges.specs.Update.{at}
use Rattle.ranges.proofs.Looks.{by_test, by_same}
use Rattle.ranges.proofs.Updates.{at_same, at_other}
use Rattle.layout.specs.Layout.{Layout, no_chip, none, is_none}
use Rattle.layout.specs.Rotation.{parity_chip, member_chip, member_of, stripe_of}
use Rattle.layout.specs.Page.{page_at}
use Rattle.layout.specs.Record.{Record, bit, empty_record, record_at}
use Rattle.layout.specs.Collection.{Collection, collection_at}
use Rattle.layout.specs.Images.{Images}
use Rattle.layout.proofs.Rotations.{stripe_fits, page_chip_fits}
use Rattle.rules.specs.declared.Origin.{Origin}
use Rattle.rules.specs.declared.Origin.TheVariants.{Unwritten, Direct}
use Rattle.rules.specs.Refusals.{lost_named}
use Rattle.rules.specs.Fetch.{Fetched, under_parity}
use Rattle.rules.specs.Read.{unwritten, fetch}
use Rattle.rules.specs.Origins.{origin_number}
use Rattle.rules.specs.Calls.{cut, refused, read_call}
use Rattle.rules.specs.Book.{Book, finished, completed, Writes, no_page, page_with, into_book, into_note}
use Rattle.rules.specs.Demand.{World, origin_owed, TellsTheOrigin}
use Rattle.rules.proofs.Soundness.Statements.{Usable, SoundBut, Sound}
use Rattle.rules.proofs.Soundness.Accepted.{read_passes}
use Rattle.rules.proofs.Stores.Kept.{CopiesOf, no_copies_yet}
use Rattle.rules.proofs.Data.Contents.{Data, bytes_none, gathered_none}
use Rattle.rules.proofs.Data.Rebuild.{fetch_unwritten, fetch_origin, fetch_rebuilt}
use Rattle.rules.proofs.Data.Carries.{Carries, Wrote}
use Rattle.rules.proofs.Lists.Fresh.{Fresh}
use Rattle.rules.proofs.Lists.FreshSound.{fresh_sound}
use Rattle.rules.specs.Sound.{is_lost}

-- how a page is got where every chip is there
abbrev pub when_written : Bool → Origin
when_written written = cond written Direct Unwritten

-- a call that is cut or refused changes neither the book nor the note
pub cut_keeps : (x : Writes) (book : Book) (written : ℕ → Bool) → (into_book x cut book ≡ book) × (into_note x cut written ≡ written)
unfolding completed
cut_keeps no_page book written = (refl, refl)
cut_keeps (page_with page xs) book written = (refl, refl)

pub refused_keeps : (x : Writes) (book : Book) (written : ℕ → Bool) → (into_book x refused book ≡ book) × (into_note x refused written ≡ written)
unfolding completed
refused_keeps no_page book written = (refl, refl)
refused_keeps (page_with page xs) book written = (refl, refl)

module _ (l : Layout) where
  open l use {N, S}

  -- the images are sound, the copies of a collection and both XOR groups hold, and every page reads as the book has it: off its chip where a
  -- write of it was completed, and else as one never written
  pub record Inv (s : Images) (book : Book) (written : ℕ → Bool) : Type 0 where
    pub sound : Sound l s
    pub copies : CopiesOf l s
    pub data_too : Data l s
    pub reads : (i : ℕ) → i < N * S → (fetch l s no_chip i).bytes ≡ book i
    pub told : (i : ℕ) → i < N * S → (fetch l s no_chip i).origin ≡ when_written (written i)

  pub carries_inv : {s t : Images} {book : Book} {written : ℕ → Bool} → Carries l s t → Inv s book written → Inv t book written
  carries_inv c f = record {
    sound = c.sound;
    copies = c.copies f.copies;
    data_too = c.data_too f.copies f.data_too;
    reads = λ i h. ap (λ (x : Fetched). x.bytes) (c.reads f.copies i h) ∙ f.reads i h;
    told = λ i h. ap (λ (x : Fetched). x.origin) (c.reads f.copies i h) ∙ f.told i h;
  }

  pub wrote_inv : (page : ℕ) (xs : List ℕ) {s t : Images} {book : Book} {written : ℕ → Bool} → Wrote l page xs s t → Inv s book written
      → Inv t (at page xs book) (at page true written)
  wrote_inv page xs {book = book} {written = written} w f = record {
    sound = w.sound;
    copies = w.copies f.copies;
    data_too = w.data_too f.copies f.data_too;
    reads = λ i h. by_same i page
        (λ same. rw (same, at_same page xs book) (ap (λ (x : Fetched). x.bytes) w.here))
        (λ other. rw (at_other page xs book i other) (ap (λ (x : Fetched). x.bytes) (w.elsewhere f.copies i h other) ∙ f.reads i h));
    told = λ i h. by_same i page
        (λ same. rw (same, at_same page true written) (ap (λ (x : Fetched). x.origin) w.here))
        (λ other. rw (at_other page true written i other) (ap (λ (x : Fetched). x.origin) (w.elsewhere f.copies i h other) ∙ f.told i h));
  }

  -- at rest no copy is due
  pub no_copies_at_rest : (s : Images) → (collection_at l s.records).phase ≡ 0 → CopiesOf l s
  no_copies_at_rest s e =
      no_copies_yet l (record_at l s.records) (page_at l s.chips (collection_at l s.records).chip) (collection_at l s.records) (λ two. absurd (omega arith))

  module _ (u : Usable l) where
    -- what a finished format leaves
    nothing_under : (m : ℕ) → under_parity l (empty_record l) m ≡ none l
    unfolding under_parity empty_record
    nothing_under m = by_test (bit (empty_record l) m) (λ e. rw e) (λ e. rw e)

    fresh_data : (s : Images) → Fresh l s → Data l s
    unfolding empty_record
    fresh_data s f j h =
        rw (f.stripe j h)
        (record {
          partial = λ e. absurd (true≢false (sym e));
          parity =
              bytes_none l (page_at l s.chips) (parity_chip l j)
              ∙ sym (gathered_none l (page_at l s.chips) j (under_parity l (empty_record l)) (λ m below. nothing_under m));
        })

    fresh_page : (s : Images) → Fresh l s → (i : ℕ) → i < N * S → fetch l s no_chip i ≡ unwritten l
    unfolding empty_record
    fresh_page s f i h =
        fetch_unwritten l s no_chip i (ap (λ (r : Record). r.current (member_of l i)) (f.stripe (stripe_of l i) (stripe_fits l u.within i h)))

    pub fresh_inv : (s : Images) → Fresh l s → Inv s (finished l) (λ i. false)
    fresh_inv s f = record {
      sound = fresh_sound l u.within s f;
      copies = no_copies_at_rest s (ap (λ (o : Collection). o.phase) f.collection);
      data_too = fresh_data s f;
      reads = λ i h. ap (λ (x : Fetched). x.bytes) (fresh_page s f i h);
      told = λ i h. ap (λ (x : Fetched). x.origin) (fresh_page s f i h);
    }

    -- how a page is got with any chip named
    origin_any : {s : Images} {book : Book} {written : ℕ → Bool} → Inv s book written → (lost i : ℕ) → i < N * S
        → (fetch l s lost i).origin ≡ origin_owed l lost (record { images = s; book = book; written = written }) i
    origin_any {s} {book} {written} f lost i inside =
        let some = page_chip_fits l u.within i in
        let no_chip_lem = ne_eqb (member_chip l (stripe_of l i) (member_of l i)) no_chip (omega (arith, some, u.within.members_high)) in
        let told : cond (not (is_none l ((record_at l s.records (stripe_of l i)).current (member_of l i)))) Direct Unwritten ≡ when_written (written i)
        = rw (fetch_origin l s no_chip i, no_chip_lem) at (f.told i inside) in
        rw (fetch_origin l s lost i)
        (by_test (is_none l ((record_at l s.records (stripe_of l i)).current (member_of l i)))
        (λ e. by_test (written i)
        (λ t. let z : ◌≡◌ {A = ℕ} 0 1 = ap origin_number (rw (e, t) at told) in absurd (omega arith))
        (λ t. rw (e, t)))
        (λ e. by_test (written i)
        (λ t. rw (e, t))
        (λ t. let z : ◌≡◌ {A = ℕ} 1 0 = ap origin_number (rw (e, t) at told) in absurd (omega arith))))

    -- Of images that a read naming `lost` takes for s, the read is not refused, says how its page was got, and gives the book's page.
    pub reads_book : (s : Images) (x : World) → Inv s x.book x.written → (lost : ℕ) → lost_named l lost ≡ true → SoundBut l (is_lost lost) x.images
        → x.images.records ≡ s.records → ((i : ℕ) → fetch l x.images lost i ≡ fetch l s lost i) → TellsTheOrigin l lost x
    unfolding read_call
    reads_book s x f lost is_named_lem sound records same i inside buffer whole = (
      record { reads = (fetch l s lost i).reads; programs = 0; erases = 0; stores = 0 },
      rw (
        read_passes l x.images lost i buffer (record { within = u.within; named = is_named_lem; sound = sound; page = inside; whole = whole }),
        same i,
        fetch_rebuilt l u.within s f.sound f.data_too lost i inside,
        f.reads i inside,
        origin_any f lost i inside,
        records,
      ),
    )
