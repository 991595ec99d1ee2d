-- The page goes through the work page, since the chips cannot be read while they are lent to be stored into.
use mathlib.Core.Path.{◌≡◌, ap, ◌∙◌}
use mathlib.Core.List.{List}
use Prim.Native.Nat.{ℕ, ◌≤◌, ◌<◌}
use lib.ListN.{length, replicate}
use native.Mathlib.Omega.{arith}
use Rattle.layout.specs.declared.Geometry.{Geometry}
use Rattle.layout.specs.Layout.{layout_of, none, no_chip, pages}
use Rattle.layout.specs.Page.{page_at}
use Rattle.layout.specs.Record.{record_at}
use Rattle.layout.specs.Images.{Images}
use Rattle.layout.proofs.Limits.{within}
use Rattle.steps.specs.Allowance.{images}
use Rattle.rules.specs.declared.Role.{Role}
use Rattle.rules.specs.Names.{role_of}
use Rattle.rules.specs.Fetch.{fetch_in}
use Rattle.rules.specs.Collect.{copy_feed}
use Rattle.codec.specs.declared.Spare.{Spare}
use Rattle.codec.specs.Fit.{ChipsFit}
use Rattle.fetch.specs.declared.Got.{Got}
use Rattle.fetch.specs.Into.{Into}
use Rattle.fetch.proofs.Pages.{into_same}
use Rattle.copying.specs.Copyable.{Copyable}
use Rattle.copying.proofs.Copies.{copy_ran, copy_fetched}
use Rattle.copying.proofs.copy_page.Goals as goal

-- what was fetched, in the page's role and of its stripe, is what the copy is fed with
fed_by : (g : Geometry) (s : Images) (c p : ℕ) → ChipsFit g s.chips → c ≤ g.n → p < pages (layout_of g) → Copyable (layout_of g) s.chips s.records c p
    → {j : ℕ} {role : Role} {n : ℕ} {after : List ℕ} {got : Got} → j ≡ (page_at (layout_of g) s.chips c p).stripe → role ≡ role_of (layout_of g) c j (record_at (layout_of g) s.records j) p
    → n ≡ g.w → Into (fetch_in (layout_of g) s no_chip j role) (replicate n 0) after got
    → (after ≡ (copy_feed (layout_of g) c s p).bytes) × (got.reads ≡ (copy_feed (layout_of g) c s p).reads) × (length after ≡ g.w)
fed_by g s c p fit chip page copyable {j} stripe role long into =
    let l = layout_of g in
    copy_fetched l (within l fit.limited) s c p (omega (arith, chip)) page copyable fit.long
    (into_same
    (ap (λ (q : Role). fetch_in l s no_chip j q) role ∙ ap (λ i. fetch_in l s no_chip i (role_of l c i (record_at l s.records i) p)) stripe)
    (ap (λ (n : ℕ). replicate n 0) long) into)

pub role_of-role-requires : goal.role_of-role-requires
role_of-role-requires c = (c.requires.1, rw (ap (λ (t : Spare). t.stripe) c.spare_at-t.ensures.0) c.requires.7.stripe, c.requires.3)

pub fetch-got-requires : goal.fetch-got-requires
fetch-got-requires c =
    let stripe = ap (λ (t : Spare). t.stripe) c.spare_at-t.ensures.0 in
    (c.requires.8, rw stripe c.requires.7.stripe, c.role_of-role.ensures.1, rw stripe c.requires.7.sound)

pub program-requires : goal.program-requires
unfolding none
program-requires c =
    let a = c.args in
    let stripe = ap (λ (t : Spare). t.stripe) c.spare_at-t.ensures.0 in
    let fed = fed_by a.g (images a.chips.now a.records.now a.slots.now) a.c a.p c.requires.0 c.requires.3 c.requires.4 c.requires.7 stripe c.role_of-role.ensures.0 c.requires.8 c.fetch-got.ensures in
    let w = within (layout_of a.g) c.requires.0.limited in
    let t = c.spare_at-t.ensures.1 in (
      c.requires.0,
      c.requires.3,
      c.requires.5,
      fed.2,
      record { kind = t.kind; member = t.member; stripe = t.stripe; copied = omega (arith, c.requires.4, w.pages_numbered) },
      omega (arith, c.fetch-got.ensures.few),
      c.requires.6,
    )

pub returns : goal.returns
returns c =
    let a = c.args in
    let l = layout_of a.g in
    let before = images a.chips.now a.records.now a.slots.now in
    let spare = c.spare_at-t in
    let stripe = ap (λ (t : Spare). t.stripe) spare.ensures.0 in
    let fed = fed_by a.g before a.c a.p c.requires.0 c.requires.3 c.requires.4 c.requires.7 stripe c.role_of-role.ensures.0 c.requires.8 c.fetch-got.ensures in
    λ rs zs.
    copy_ran l a.c a.p a.q (page_at l a.chips.now a.c) (copy_feed l a.c before a.p) spare.result a.run _ _ _ fed.0 fed.1 spare.ensures.0 (c.program.ensures rs zs)
