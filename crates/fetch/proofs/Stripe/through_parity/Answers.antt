-- The first page is XORed in, and then the others. A sound record's numbers are those of pages.
use Prim.Native.Nat.{ℕ, ◌+◌}
use native.Mathlib.Omega.{arith}
use mathlib.Core.Path.{◌≡◌, ap, ap₂, ◌∙◌}
use mathlib.Core.Bool.{false}
use Rattle.octets.specs.Xor.{◌⊕◌}
use Rattle.layout.specs.Layout.{layout_of}
use Rattle.layout.specs.Rotation.{parity_chip}
use Rattle.layout.specs.Page.{page_at}
use Rattle.layout.specs.Record.{record_at}
use Rattle.layout.proofs.Limits.{within}
use Rattle.rules.specs.Fetch.{Fetched, Feed, itself, gathered}
use Rattle.rules.proofs.Soundness.RecordChecks.{record_sound_lem}
use Rattle.fetch.specs.Into.{begun, others, first_in}
use Rattle.fetch.proofs.Others.{first_fits, full_fetched}
use Rattle.fetch.proofs.Stripe.through_parity.Goals as goal

pub add_page-first-requires : goal.add_page-first-requires
add_page-first-requires c =
    let s = c.args.self.now in
    let l = layout_of s.view.g in
    let r = record_at l s.view.records.now s.j in
    (c.requires, s.beside.1, rw c.first_number-p.ensures (first_fits l r (record_sound_lem l r s.sound) c.args.role))

pub returns : goal.returns
returns c z =
    let a = c.args in
    let s = a.self.now in
    let l = layout_of s.view.g in
    let y = page_at l s.view.chips.now in
    let r = record_at l s.view.records.now s.j in
    let first = c.add_page-first.ensures in
    let called = c.gather.ensures in
    let page : itself l y s.parity c.first_number-p.result ≡ itself l y (parity_chip l s.j) (first_in l r a.role) = ap₂ (itself l y) s.beside.0 c.first_number-p.ensures in
    let rest = ap (λ (m : ℕ). gathered l y s.j (others l false m r)) c.left_out-m.ensures in
    full_fetched l (within l s.view.chips_fit.limited) y z s.j r a.role
    (called.0 ∙ ap₂ ◌⊕◌ (first.0 ∙ ap (λ (x : Fetched). begun a.fresh a.work.now ⊕ x.bytes) page) (ap (λ (x : Feed). x.bytes) rest))
    (ap₂ ◌+◌ (first.1 ∙ ap (λ (x : Fetched). x.reads) page) (called.1 ∙ ap (λ (x : Feed). x.reads) rest))
    (omega (arith, first.2, called.2))
