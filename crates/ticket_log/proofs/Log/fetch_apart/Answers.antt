-- A page that is there takes one read; else the member is fetched.
use native.Mathlib.Omega.{arith}
use mathlib.Core.Path.{sym, ap, ◌∙◌}
use Rattle.ranges.proofs.Looks.{both}
use Rattle.layout.specs.Layout.{layout_of}
use Rattle.layout.proofs.Limits.{within}
use Rattle.steps.specs.Allowance.{images}
use Rattle.rules.specs.Fetch.{Fetched}
use Rattle.fetch.proofs.Whole.{direct_is}
use Rattle.ticket_log.proofs.Walking.{at_stripe, at_member, at_fetch}
use Rattle.ticket_log.proofs.Log.fetch_apart.Goals as goal

pub returns-then-direct : goal.returns-then-direct
returns-then-direct c =
    let a = c.args in
    let v = a.self.now.view in
    let l = layout_of v.g in
    let s = images v.chips.now v.records.now v.slots.now in
    let is = direct_is l s a.self.now.lost a.at.stripe a.at.member (sym c.requires.3 ∙ c.if-direct.true) ∙ at_fetch l (within l v.chips_fit.limited) c.requires.1 s a.self.now.lost in (
      ap (λ (x : Fetched). x.reads) is,
      omega arith,
      ap (λ (x : Fetched). x.origin) is,
      λ e. both _ c.if-direct.true e,
    )

pub fetch_member-requires : goal.fetch_member-requires
fetch_member-requires c =
    let log = c.args.self.now in
    let l = layout_of log.view.g in
    let inside = within l log.view.chips_fit.limited in
    let stripe = at_stripe l inside c.requires.1 c.requires.2 in
    (c.requires.0, stripe, at_member l inside c.requires.1, log.sound _ stripe)

pub returns : goal.returns
returns c =
    let a = c.args in
    let v = a.self.now.view in
    let l = layout_of v.g in
    let f = c.fetch_member in
    let is = f.ensures.0 ∙ at_fetch l (within l v.chips_fit.limited) c.requires.1 (images v.chips.now v.records.now v.slots.now) a.self.now.lost in
    (ap (λ (x : Fetched). x.reads) is, f.ensures.1, ap (λ (x : Fetched). x.origin) is, λ e. ap (λ (x : Fetched). x.bytes) is)
