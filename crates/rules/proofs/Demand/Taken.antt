-- One chip taken: whatever bytes stand in its stretch, calls that name it store nothing, and reads that name it look elsewhere.
use Prim.Native.Nat.{ℕ, ◌+◌, ◌*◌, ◌≤◌, ◌<◌}
use native.Mathlib.Nat.{mul_assoc}
use native.Mathlib.Omega.{arith}
use mathlib.Core.Path.{◌≡◌, refl, ap, ◌∙◌}
use mathlib.Core.Logic.{◌≢◌}
use mathlib.Core.Bool.{true}
use mathlib.Core.List.{List}
use lib.ListN.{length}
use lib.Dec.{eqb}
use borrow.Author.Tests.{le-leb, eqb-false}
use Rattle.octets.specs.Units.{unit, unit_put}
use Rattle.octets.proofs.Units.{unit_other, length_unit_put}
use Rattle.ranges.proofs.Tests.{or_right}
use Rattle.layout.specs.Layout.{Layout, no_chip, pages, page_bytes, chip_bytes}
use Rattle.layout.specs.Page.{Page, page_of, page_at}
use Rattle.layout.specs.Images.{Images, chips_length}
use Rattle.steps.specs.Steps.{no_counts}
use Rattle.steps.proofs.Prefixes.{every_nil}
use Rattle.rules.specs.Refusals.{Check, lost_named, checked, images_rows, write_rows, commit_rows, collect_rows, add_rows}
use Rattle.std.specs.Prelude.{Ok, Err}
use Rattle.rules.specs.Open.{open_steps}
use Rattle.rules.specs.Calls.{run, outcome, open_call, write_call, commit_call, collect_call, add_call, Call, open_call_lem, write_call_lem, commit_call_lem, collect_call_lem, add_call_lem, query_call, lost_chip, ended}
use Rattle.rules.specs.Book.{completed, writes, booked, noted}
use Rattle.rules.specs.Demand.{World, called, chip_taken, TellsTheOrigin}
use Rattle.rules.proofs.Soundness.Statements.{Usable, SoundBut, sound_but}
use Rattle.rules.proofs.Soundness.Accepted.{write_accepted, commit_accepted, collect_accepted, add_accepted, lost_refused}
use Rattle.rules.proofs.Data.Rebuild.{fetch_elsewhere}
use Rattle.rules.proofs.Lists.EachCall.{open_lost}
use Rattle.rules.proofs.Demand.Invariant.{Inv, refused_keeps, reads_book}
use Rattle.rules.specs.Sound.{is_lost}

module _ (l : Layout) where
  open l use {N}

  -- t is s but for chip c
  pub record Taken (c : ℕ) (s t : Images) : Type 0 where
    pub chips : length t.chips ≡ chips_length l
    pub records : t.records ≡ s.records
    pub slots : t.slots ≡ s.slots
    pub others : (c' : ℕ) → c' ≢ c → page_at l t.chips c' ≡ page_at l s.chips c'

  taken_bytes : (c : ℕ) → c < N + 1 → (bytes chips : List ℕ) → length bytes ≡ chip_bytes l → length chips ≡ chips_length l
      → (length (unit_put (chip_bytes l) c bytes chips) ≡ chips_length l)
      × ((c' : ℕ) → c' ≢ c → page_at l (unit_put (chip_bytes l) c bytes chips) c' ≡ page_at l chips c')
  unfolding chips_length page_at
  taken_bytes c chip bytes chips whole long =
      let long' : length chips ≡ (N + 1) * chip_bytes l = long ∙ mul_assoc (N + 1) (pages l) (page_bytes l) in (
        length_unit_put (N + 1) (chip_bytes l) c bytes chips long' chip whole ∙ long,
        λ c' other.
            ap {B = ℕ → Page} (λ (chip : List ℕ). λ p. page_of l (unit (page_bytes l) p chip)) (unit_other (N + 1) (chip_bytes l) c c' bytes chips long' chip whole other),
      )

  -- taken for the first time, and again
  pub take_chip : (c : ℕ) → c < N + 1 → (bytes : List ℕ) → length bytes ≡ chip_bytes l → (x : World) → length x.images.chips ≡ chips_length l
      → Taken c x.images (chip_taken l c bytes x).images
  unfolding chip_taken
  take_chip c chip bytes whole x long =
      let h = taken_bytes c chip bytes x.images.chips whole long in
      record { chips = h.0; records = refl; slots = refl; others = h.1 }

  pub taken_trans : (c : ℕ) (s t v : Images) → Taken c s t → Taken c t v → Taken c s v
  taken_trans c s t v a b = record {
    chips = b.chips;
    records = b.records ∙ a.records;
    slots = b.slots ∙ a.slots;
    others = λ c' other. b.others c' other ∙ a.others c' other;
  }

  -- soundness asks nothing of the chip that is named
  taken_sound : (c : ℕ) (s t : Images) → SoundBut l (is_lost c) s → Taken c s t → SoundBut l (is_lost c) t
  taken_sound c s t f k = record {
    chips = k.chips;
    records = ap length k.records ∙ f.records;
    slots = ap length k.slots ∙ f.slots;
    stripes = rw k.records f.stripes;
    chip = λ c' fits other. rw (k.records, k.others c' (eqb-false c' c other)) (f.chip c' fits other);
  }

  module _ (u : Usable l) (c : ℕ) (chip : c ≤ N) where
    is_named_lem : lost_named l c ≡ true
    is_named_lem = or_right (eqb c no_chip) (le-leb c N chip)

    not_none : c ≢ no_chip
    not_none = omega (arith, u.within.members_high)

    -- the read of each page, with that chip named
    pub taken_reads : (s : Images) (x : World) → Inv l s x.book x.written → Taken c s x.images → TellsTheOrigin l c x
    taken_reads s x f k =
        reads_book l u s x f c is_named_lem (taken_sound c s x.images (sound_but l u.within s (is_lost c) f.sound) k) k.records
        (λ i. fetch_elsewhere l s x.images c i k.records k.slots k.others)

    -- a call that names it changes nothing
    open_stays : (t : Images) (a : ℕ) (check : Check) → (outcome l check no_counts a (open_steps l c) t).images ≡ t
    unfolding run
    open_stays t a (Ok tt) = rw (open_lost l t c not_none) (every_nil l (λ v. v ≡ t) t refl a)
    open_stays t a (Err r) = refl

    -- of every kind of call
    pub call_stays : (call : Call) → lost_chip call ≡ c → (x : World) → called l call x ≡ x
    unfolding called ended completed writes booked noted open_call write_call commit_call collect_call add_call
    call_stays (open_call_lem lost a) e x = rw (e, open_stays x.images a (checked (images_rows l x.images c)))
    call_stays (write_call_lem lost page xs a) e x =
        let (r, refused) = lost_refused c (write_rows l x.images c page xs) not_none (λ h. (write_accepted l x.images c page xs h).0) in rw (e, refused)
    call_stays (commit_call_lem lost j a) e x =
        let (r, refused) = lost_refused c (commit_rows l x.images c j) not_none (λ h. (commit_accepted l x.images c j h).0) in rw (e, refused)
    call_stays (collect_call_lem lost d a) e x =
        let (r, refused) = lost_refused c (collect_rows l x.images c d) not_none (λ h. (collect_accepted l x.images c d h).0) in rw (e, refused)
    call_stays (add_call_lem lost ticket a) e x =
        let (r, refused) = lost_refused c (add_rows l x.images c ticket) not_none (λ h. (add_accepted l x.images c ticket h).0) in
        let kept = refused_keeps (writes l (add_call_lem c ticket a) x.book) x.book x.written in
        rw (e, refused, kept.0, kept.1)
    call_stays (query_call q) e x = refl
