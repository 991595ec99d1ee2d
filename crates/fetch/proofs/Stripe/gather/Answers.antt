use native.Mathlib.Omega.{arith}
use Rattle.layout.specs.Layout.{layout_of}
use Rattle.layout.specs.Record.{record_at}
use Rattle.layout.proofs.Limits.{within}
use Rattle.rules.proofs.Soundness.RecordChecks.{record_sound_lem}
use Rattle.fetch.specs.Into.{others}
use Rattle.fetch.proofs.Pages.{gathered_none, gathered_more, gathered_all}
use Rattle.fetch.proofs.Others.{others_fit}
use Rattle.fetch.proofs.Stripe.gather.Goals as goal

pub loop-i-init : goal.loop-i-init
loop-i-init c =
    let a = c.args in
    let s = a.self.now in
    let v = s.view in
    let l = layout_of v.g in
    gathered_none v.g v.chips.now s.j (others l a.inside a.m (record_at l v.records.now s.j)) a.work.now (within l v.chips_fit.limited).members_high c.requires

pub add_page-read-requires : goal.add_page-read-requires
add_page-read-requires c =
    let a = c.args in
    let s = a.self.now in
    let l = layout_of s.view.g in
    let r = record_at l s.view.records.now s.j in
    let o = c.loop-i in
    let low = c.loop-i-test.true in (
      o.invariant.long,
      omega (arith, c.chip_beside-c.ensures.1, low),
      rw c.other_number-p.ensures (others_fit l (within l s.view.chips_fit.limited) a.inside a.m r (record_sound_lem l r s.sound) o.i low),
    )

pub loop-i-preserved : goal.loop-i-preserved
loop-i-preserved c =
    let s = c.args.self.now in
    let call = c.add_page-read in
    gathered_more c.loop-i.invariant c.loop-i-test.true (c.chip_beside-c.ensures.0 (layout_of s.view.g) s.j s.beside.0) c.other_number-p.ensures call.auto.work call.ensures

pub returns : goal.returns
returns c = gathered_all c.loop-i.invariant c.loop-i-test.false
