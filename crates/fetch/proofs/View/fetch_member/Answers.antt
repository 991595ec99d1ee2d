-- What `fetch` leaves in a fresh buffer is the member: it is as long as a page, or there is none.
use Prim.Native.Nat.{ℕ}
use mathlib.Core.Path.{refl, ap}
use lib.ListN.{replicate}
use Rattle.layout.specs.Layout.{layout_of}
use Rattle.layout.specs.Record.{record_at}
use Rattle.layout.proofs.Limits.{within}
use Rattle.steps.specs.Allowance.{images}
use Rattle.rules.proofs.Soundness.RecordChecks.{record_sound_lem}
use Rattle.fetch.proofs.Pages.{into_same}
use Rattle.fetch.proofs.Whole.{read_is}
use Rattle.fetch.proofs.View.fetch_member.Goals as goal

pub returns : goal.returns
returns c =
    let a = c.args in
    let v = a.self.now in
    let l = layout_of v.g in
    let h = c.fetch.ensures in (
      read_is l (within l v.chips_fit.limited) (images v.chips.now v.records.now v.slots.now) v.chips_fit.long v.slots_fit.long a.lost a.j a.m c.requires.2
          (record_sound_lem l (record_at l v.records.now a.j) c.requires.3) (into_same refl (ap (λ (n : ℕ). replicate n 0) c.requires.0) h),
      h.few,
    )
