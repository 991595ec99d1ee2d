-- What the rows about the images come to, test by test, and what a call may rely on once they have passed.
use Prim.Native.Nat.{ℕ, ◌*◌, ◌/◌, ◌%◌, ◌<◌}
use native.Mathlib.Nat.{mul_comm, le-div_iff_mul-le, div-lt_iff_lt-mul}
use native.Mathlib.Omega.{arith}
use mathlib.Core.Path.{◌≡◌, refl, sym, ap, ◌∙◌}
use mathlib.Core.Bool.{Bool, true, false}
use mathlib.Core.List.{List, [], ◌∷◌, ◌++◌}
use lib.Dec.{ltb}
use borrow.Author.Tests.{lt-ltb, le-ltb, ltb-true, ltb-false}
use Rattle.ranges.proofs.Looks.{by_test}
use Rattle.layout.specs.declared.Geometry.{Geometry}
use Rattle.layout.specs.Layout.{Layout, layout_of, no_chip, limits}
use Rattle.layout.specs.Page.{page_at}
use Rattle.layout.specs.Record.{record_at}
use Rattle.layout.specs.Images.{Images, lengths}
use Rattle.layout.proofs.Limits.{Within, limited}
use Rattle.layout.proofs.Rotations.{stripe_fits, member_fits}
use Rattle.rules.specs.declared.Refusal.{Refusal}
use Rattle.rules.specs.declared.Refusal.TheVariants.{LostChip, Records, Spares, Collection}
use Rattle.rules.specs.Refusals.{Check, Row, page_row, unless, checked, lost_named, records_check, spares_check, at_rest, buffers_rows, images_rows, settled_rows}
use Rattle.std.specs.Prelude.{Option, None, Some, Result, Ok, Err, ok_or}
use Rattle.ranges.specs.Look.{when_found}
use Rattle.std.specs.Result.{IsErrAnd}
use Rattle.std.proofs.lemmas.Result.{err_from_is_err_and}
use Rattle.rules.specs.Sound.{record_sound, is_lost}
use Rattle.rules.proofs.Soundness.Table.{by_check, not_passed, rows_passed, below_passed, below_failed, both_passed}
use Rattle.rules.proofs.Soundness.Accepted.{buffers_accepted, images_accepted, settled_accepted}
use Rattle.rules.proofs.Soundness.Checks.{lengths_are, records_check_pass, spares_check_pass}
use Rattle.rules.proofs.Soundness.RecordChecks.{record_pass}
use Rattle.codec.specs.Fit.{ChipsFit, RecordsFit, SlotsFit}
use Rattle.names.specs.Checked.{Checked, Settled}
use Rattle.names.proofs.Statements.{stamps_pass}
use Rattle.records.specs.Slots.{slot_scan}
use Rattle.spares.specs.Scans.{chip_scans}
use Rattle.space.specs.Victims.{Victims}
use Rattle.space.proofs.Victims.{victims_known}
use Rattle.looks.specs.declared.Look.{Look}
use Rattle.looks.specs.Looks.{below, look_of}

-- what `?` answers where a check has failed
pub turned_back : {T : Type 0} {given : Result T Refusal} (r : Refusal) → IsErrAnd given (λ e. e ≡ r) → given ≡ Err r
turned_back {given = given} r h = let p = err_from_is_err_and given h in p.1 ∙ ap (λ (e : Refusal). Err e) p.2

refused_at : (test : Bool) (row : Refusal) (below : Check) {r : Refusal} → unless test row (Ok tt) ≡ Err r → unless test row below ≡ Err r
refused_at true row below {r} e = not_passed r (sym e)
refused_at false row below e = e

passed_at : (test : Bool) (row : Refusal) (below : Check) → unless test row (Ok tt) ≡ Ok tt → unless test row below ≡ below
passed_at true row below e = refl
passed_at false row below e = not_passed row e

-- a row that the code requires has failed: its refusal is the first, whatever stands below
pub row_refused : {told : Check} {made test : Bool} {r : Refusal} (row : Refusal) (below : Check) → told ≡ unless made row (Ok tt) → made ≡ test → told ≡ Err r
    → unless test row below ≡ Err r
row_refused {test = test} row below e f g = refused_at test row below (rw (sym f) (sym e ∙ g))

-- or it has passed: the rows below decide
pub row_passed : {told : Check} {made test : Bool} (row : Refusal) (below : Check) → told ≡ unless made row (Ok tt) → made ≡ test → told ≡ Ok tt
    → unless test row below ≡ below
row_passed {test = test} row below e f g = passed_at test row below (rw (sym f) (sym e ∙ g))

-- and so does its test
pub test_passed : {told : Check} {made test : Bool} (row : Refusal) → told ≡ unless made row (Ok tt) → made ≡ test → told ≡ Ok tt → test ≡ true
test_passed {test = test} row e f g = (rows_passed ((test, row) ∷ []) (rw (sym f) (sym e ∙ g))).0

-- rows below others, as a check goes on from what the others came to
pub rows_below : (above rest : List Row) → checked (above ++ rest) ≡ below (checked above) (checked rest)
rows_below above rest = by_check (checked above)
    (λ h. rw h (below_passed above rest h))
    (λ r h. rw h (below_failed above rest r h))

-- rows in three parts, as a call goes through them
module _ (top mid below : List Row) where
  pub top_refused : {r : Refusal} → checked top ≡ Err r → checked ((top ++ mid) ++ below) ≡ Err r
  top_refused {r} e = below_failed (top ++ mid) below r (below_failed top mid r e)

  pub mid_refused : {r : Refusal} → checked top ≡ Ok tt → checked mid ≡ Err r → checked ((top ++ mid) ++ below) ≡ Err r
  mid_refused {r} e f = below_failed (top ++ mid) below r (below_passed top mid e ∙ f)

  pub below_decide : checked top ≡ Ok tt → checked mid ≡ Ok tt → checked ((top ++ mid) ++ below) ≡ checked below
  below_decide e f = below_passed (top ++ mid) below (below_passed top mid e ∙ f)

-- what a number that was found, or not, comes to as a check
abbrev pub told_of : Result ℕ Refusal → Check
told_of (Ok n) = Ok tt
told_of (Err r) = Err r

pub found_told : (found : Option ℕ) (row : Refusal) → unless (when_found found (λ n. true) false) row (Ok tt) ≡ told_of (ok_or found row)
unfolding when_found
found_told None row = refl
found_told (Some n) row = refl

-- ---- looks

-- what a look has come to, as a check
abbrev pub told_by : Result Look Refusal → Check
told_by (Ok look) = Ok tt
told_by (Err r) = Err r

abbrev seen_by : Look → Result Look Refusal → Look
seen_by default (Ok look) = look
seen_by default (Err r) = default

module _ (l : Layout) (s : Images) (lost : ℕ) where
  check_told : (k : Check) → told_by (look_of l s lost k) ≡ k
  check_told (Ok tt) = refl
  check_told (Err r) = refl

  -- rows below those of a look, as a check goes on from it
  pub rows_told : (above rest : List Row) {given : Result Look Refusal} {k : Check} → given ≡ look_of l s lost (checked above)
      → k ≡ below (told_by given) (checked rest) → k ≡ checked (above ++ rest)
  rows_told above rest seen e = e ∙ rw (ap told_by seen ∙ check_told (checked above)) (sym (rows_below above rest))

  -- a look that ends in a refusal
  pub look_refused : {k : Check} {given : Result Look Refusal} {r : Refusal} → given ≡ look_of l s lost k → given ≡ Err r → k ≡ Err r
  look_refused {k} e f = sym (check_told k) ∙ ap told_by (sym e ∙ f)

  -- one that finds what there is
  pub look_passed : {k : Check} {given : Result Look Refusal} {look : Look} → given ≡ look_of l s lost k → given ≡ Ok look → k ≡ Ok tt
  look_passed {k} e f = sym (check_told k) ∙ ap told_by (sym e ∙ f)

  pub look_found : (k : Check) {given : Result Look Refusal} {look : Look} → given ≡ look_of l s lost k → given ≡ Ok look
      → (look.chips ≡ chip_scans l (record_at l s.records) (page_at l s.chips) lost l.B) × (look.slots ≡ slot_scan l (record_at l s.records))
  look_found k {look = look} e f =
      let found = ap (seen_by look) (sym f ∙ e ∙ ap (look_of l s lost) (look_passed e f)) in
      (ap (λ (o : Look). o.chips) found, ap (λ (o : Look). o.slots) found)

  -- what a look answers
  pub refusal_told : {k : Check} {given : Result Look Refusal} {r : Refusal} → given ≡ Err r → k ≡ Err r → given ≡ look_of l s lost k
  refusal_told e f = rw f e

-- rows 1 and 2 have passed: the geometry is within the limits, and the images fit it
pub record BuffersFit (g : Geometry) (s : Images) : Type 0 where
  pub chips : ChipsFit g s.chips
  pub records : RecordsFit g s.records
  pub slots : SlotsFit g s.slots

buffers_by : (g : Geometry) (s : Images) → limits (layout_of g) ≡ true → lengths (layout_of g) s ≡ true → BuffersFit g s
buffers_by g s low long =
    let n = lengths_are (layout_of g) s long in
    record {
      chips = record { limited = low; long = n.0 };
      records = record { limited = low; long = n.1 };
      slots = record { limited = low; long = n.2 };
    }

pub buffers_fit : (g : Geometry) (s : Images) → checked (buffers_rows (layout_of g) s) ≡ Ok tt → BuffersFit g s
buffers_fit g s e = let (low, long) = buffers_accepted (layout_of g) s e in buffers_by g s low long

module _ (l : Layout) (s : Images) (lost : ℕ) where
  -- a refusal of rows 1 and 2 is that of rows 1 to 5
  pub images_first : {r : Refusal} → checked (buffers_rows l s) ≡ Err r → checked (images_rows l s lost) ≡ Err r
  unfolding images_rows
  images_first {r} e = below_failed (buffers_rows l s) ((lost_named l lost, LostChip) ∷ (records_check l s, Records) ∷ (spares_check l s lost, Spares) ∷ []) r e

  -- rows 1 and 2 have passed: rows 3 to 5 decide
  pub images_next : checked (buffers_rows l s) ≡ Ok tt
      → checked (images_rows l s lost) ≡ unless (lost_named l lost) LostChip (unless (records_check l s) Records (unless (spares_check l s lost) Spares (Ok tt)))
  unfolding images_rows
  images_next e = below_passed (buffers_rows l s) ((lost_named l lost, LostChip) ∷ (records_check l s, Records) ∷ (spares_check l s lost, Spares) ∷ []) e

  -- a refusal of rows 1 to 5 is that of rows 1 to 6
  pub settled_first : {r : Refusal} → checked (images_rows l s lost) ≡ Err r → checked (settled_rows l s lost) ≡ Err r
  unfolding settled_rows
  settled_first {r} e = below_failed (images_rows l s lost) ((at_rest l s, Collection) ∷ []) r e

  -- rows 1 to 5 have passed: row 6 decides
  pub settled_next : checked (images_rows l s lost) ≡ Ok tt → checked (settled_rows l s lost) ≡ unless (at_rest l s) Collection (Ok tt)
  unfolding settled_rows
  settled_next e = below_passed (images_rows l s lost) ((at_rest l s, Collection) ∷ []) e

  -- rows 1 to 6 have passed: so have rows 1 to 5
  pub settled_images : checked (settled_rows l s lost) ≡ Ok tt → checked (images_rows l s lost) ≡ Ok tt
  unfolding settled_rows
  settled_images e = (both_passed (images_rows l s lost) ((at_rest l s, Collection) ∷ []) e).0

-- rows 1 to 5 have passed
pub record ImagesFit (g : Geometry) (s : Images) : Type 0 where
  pub fit : BuffersFit g s
  pub within_limits : Within (layout_of g)
  pub stripe : (j : ℕ) → j < g.s → record_sound (layout_of g) (record_at (layout_of g) s.records j) ≡ true

pub images_fit : (g : Geometry) (s : Images) (lost : ℕ) → checked (images_rows (layout_of g) s lost) ≡ Ok tt → ImagesFit g s
images_fit g s lost e =
    let l = layout_of g in
    let h = images_accepted l s lost e in
    let low = limited l h.within in
    record {
      fit = record {
        chips = record { limited = low; long = h.sound.chips };
        records = record { limited = low; long = h.sound.records };
        slots = record { limited = low; long = h.sound.slots };
      };
      within_limits = h.within;
      stripe = λ j low. record_pass l (record_at l s.records j) (h.sound.stripes.stripe j low);
    }

-- and the tests of the images have passed
pub images_checked : (g : Geometry) (s : Images) (lost : ℕ) → checked (images_rows (layout_of g) s lost) ≡ Ok tt → Checked g lost s.chips s.records
images_checked g s lost e =
    let l = layout_of g in
    let h = images_accepted l s lost e in
    let fit = (images_fit g s lost e).fit in
    record {
      chips_fit = fit.chips;
      records_pass = record { fit = fit.records; pass = records_check_pass l s (is_lost lost) h.sound };
      spares_pass = spares_check_pass l s (is_lost lost) h.sound;
    }

pub at_no_chip : {g : Geometry} {lost : ℕ} {chips records : List ℕ} → lost ≡ no_chip → Checked g lost chips records → Checked g no_chip chips records
at_no_chip none_lost h = rw none_lost at h

-- rows 1 to 6 have passed, and no chip is lost
pub record StoreReady (g : Geometry) (s : Images) : Type 0 where
  pub settled : Settled g s.chips s.records
  pub slots_fit : SlotsFit g s.slots
  pub within_limits : Within (layout_of g)

pub store_ready : (g : Geometry) (s : Images) (lost : ℕ) → checked (settled_rows (layout_of g) s lost) ≡ Ok tt → lost ≡ no_chip → StoreReady g s
store_ready g s lost e none_lost =
    let l = layout_of g in
    let h = settled_images l s lost e in
    record {
      settled = record {
        checked = at_no_chip none_lost (images_checked g s lost h);
        at_rest = (settled_accepted l s lost e none_lost).at_rest;
      };
      slots_fit = (images_fit g s lost h).fit.slots;
      within_limits = (images_fit g s lost h).within_limits;
    }

-- a page that there is, without the product of N and S
pub page_test : (n s page : ℕ) → 0 < n → ltb (page / n) s ≡ ltb page (n * s)
page_test n s page some = by_test (ltb (page / n) s)
    (λ e. e ∙ sym (lt-ltb page (n * s) (rw mul_comm ((div-lt_iff_lt-mul some).0 (ltb-true (page / n) s e)))))
    (λ e. e ∙ sym (le-ltb page (n * s) (rw mul_comm ((le-div_iff_mul-le some).0 (ltb-false (page / n) s e)))))

-- rows 1 to 5 have passed, and there is such a page
pub record PageReady (g : Geometry) (s : Images) (page : ℕ) : Type 0 where
  pub fit : ImagesFit g s
  pub stripe : page / g.n < g.s
  pub member : page % g.n < g.n

pub page_ready : (g : Geometry) (s : Images) (lost page : ℕ) (rest : List Row)
    → checked (images_rows (layout_of g) s lost ++ (page_row (layout_of g) page ∷ rest)) ≡ Ok tt → PageReady g s page
page_ready g s lost page rest e =
    let l = layout_of g in
    let (above, more) = both_passed (images_rows l s lost) (page_row l page ∷ rest) e in
    let fit = images_fit g s lost above in
    record {
      fit = fit;
      stripe = stripe_fits l fit.within_limits page (ltb-true page (g.n * g.s) (rows_passed (page_row l page ∷ rest) more).0);
      member = member_fits l fit.within_limits page;
    }

-- a call that stores passes rows 1 to 6, and no chip is lost: what holds of the images, and what the look has found
pub record Ready (g : Geometry) (s : Images) (look : Look) : Type 0 where
  pub store : StoreReady g s
  pub known : Victims g s.chips s.records look.chips
  pub slots : look.slots ≡ slot_scan (layout_of g) (record_at (layout_of g) s.records)

pub ready : (g : Geometry) (s : Images) (lost : ℕ) {given : Result Look Refusal} {look : Look}
    → given ≡ look_of (layout_of g) s lost (checked (settled_rows (layout_of g) s lost)) → given ≡ Ok look → lost ≡ no_chip → Ready g s look
ready g s lost seen found none_lost =
    let (chips, slots) = look_found (layout_of g) s lost _ seen found in
    let store = store_ready g s lost (look_passed (layout_of g) s lost seen found) none_lost in
    record {
      store = store;
      known = victims_known (stamps_pass g s.chips s.records store.settled.checked) lost (omega (arith, store.within_limits.members_high)) chips;
      slots = slots;
    }
