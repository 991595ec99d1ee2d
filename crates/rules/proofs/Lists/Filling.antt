-- A page programmed at the place that was found: it is new, and nothing else changes.
use Prim.Native.Nat.{ℕ, ◌+◌, ◌<◌}
use native.Mathlib.Omega.{arith}
use mathlib.Core.Path.{◌≡◌, ap, ◌∙◌}
use mathlib.Core.Logic.{◌≢◌}
use mathlib.Core.Bool.{false}
use Rattle.ranges.specs.Update.{at}
use Rattle.ranges.proofs.Updates.{at_same}
use Rattle.layout.specs.Layout.{Layout, pages}
use Rattle.layout.specs.Page.{Page, clean_kind, page_at}
use Rattle.layout.specs.Record.{record_at}
use Rattle.layout.specs.Collection.{collection_at}
use Rattle.layout.specs.Images.{Images}
use Rattle.layout.proofs.Codec.{PageFits}
use Rattle.layout.proofs.Pages.{page_in_fits, page_number_lem}
use Rattle.steps.specs.Store.{program, apply}
use Rattle.rules.specs.Names.{kind_on, member_byte, named}
use Rattle.rules.proofs.Soundness.Statements.{Usable, Sound, sound_chip}
use Rattle.rules.proofs.Stores.Names.{clean_unnamed}
use Rattle.rules.proofs.Stores.Kept.{Kept}
use Rattle.rules.proofs.Stores.Storing.{kept_program, program_view}
use Rattle.rules.proofs.Data.NewRecord.{NewPage}
use Rattle.rules.proofs.Space.Room.{PlaceAt}

module _ (l : Layout) (u : Usable l) (t : Images) (g : Sound l t) (rest : (collection_at l t.records).phase ≡ 0)
    (c : ℕ) (chip : c < l.N + 1) (p : ℕ) (o : PlaceAt l (page_at l t.chips c) p)
    (page : Page) (fits : PageFits l page) (used : page.kind ≢ clean_kind) where
  fits_in : p < pages l
  fits_in = rw o.is (page_in_fits l o.block o.place o.fillable.block o.fillable.place)

  -- the store keeps what the images hold
  pub fill_kept : Kept l t (apply l (program c p page) t)
  fill_kept =
      rw o.is
      (kept_program l u t g c o.block o.place page chip o.fillable fits used (λ e. absurd (omega arith)) (λ e. o.spare))

  filled : page_at l (apply l (program c p page) t).chips c p ≡ page
  filled =
      ap (λ (y : ℕ → ℕ → Page). y c p) (program_view l u t g c p page chip fits_in fits)
      ∙ ap (λ (x : ℕ → Page). x p) (at_same c (at p page (page_at l t.chips c)) (page_at l t.chips))
      ∙ at_same p page (page_at l t.chips c)

  not_named : named l (record_at l t.records) c p ≡ false
  not_named =
      clean_unnamed l (record_at l t.records) (page_at l t.chips c) c (collection_at l t.records) (sound_chip l u t g c chip) p
      (page_number_lem l u.within p fits_in) (rw o.is o.fillable.is_clean)

  -- and the page is new
  pub fill_new : (j : ℕ) → page.stripe ≡ j → page.kind ≡ kind_on l c j → page.member ≡ member_byte l c j
      → NewPage l (apply l (program c p page) t) c j p page.bytes
  unfolding apply
  fill_new j stripe kind member = record {
    fits = fits_in;
    unnamed = not_named;
    stamped = record {
      stripe = ap (λ (y : Page). y.stripe) filled ∙ stripe;
      kind = ap (λ (y : Page). y.kind) filled ∙ kind;
      member = ap (λ (y : Page). y.member) filled ∙ member;
    };
    bytes = ap (λ (y : Page). y.bytes) filled;
  }
