-- The page that is looked at, where it lies or in the work page, is what it reads as.
use mathlib.Core.Path.{◌≡◌, sym, ap, ◌∙◌}
use mathlib.Core.List.{List}
use Prim.Native.Nat.{ℕ}
use lib.ListN.{length}
use Rattle.ranges.proofs.Looks.{by_test}
use Rattle.layout.specs.Layout.{layout_of}
use Rattle.layout.specs.Record.{record_at}
use Rattle.layout.proofs.Limits.{within}
use Rattle.steps.specs.Allowance.{images}
use Rattle.rules.specs.Fetch.{Fetched}
use Rattle.rules.specs.Log.{contents}
use Rattle.rules.proofs.Soundness.RecordChecks.{record_sound_lem}
use Rattle.fetch.proofs.Whole.{direct_is, direct_fits}
use Rattle.ticket_log.proofs.Seeing.{latest_fits}
use Rattle.ticket_log.proofs.Walking.{at_stripe, at_member, at_parity, at_fetch}
use Rattle.ticket_log.proofs.Log.look_at_page.Goals as goal

pub is_direct-direct-requires : goal.is_direct-direct-requires
is_direct-direct-requires c =
    let v = c.args.self.now.view in
    let l = layout_of v.g in
    let inside = within l v.chips_fit.limited in
    (v.records_fit, at_stripe l inside c.requires.1 c.requires.2, at_member l inside c.requires.1, at_parity l inside c.requires.1)

pub lent-page-requires : goal.lent-page-requires
lent-page-requires c =
    let a = c.args in
    let v = a.self.now.view in
    let l = layout_of v.g in
    let inside = within l v.chips_fit.limited in
    let stripe = at_stripe l inside c.requires.1 c.requires.2 in
    let member = at_member l inside c.requires.1 in (
      v.chips_fit,
      v.records_fit,
      c.fetch_apart-got.auto.work ∙ c.requires.0,
      stripe,
      member,
      at_parity l inside c.requires.1,
      λ e. direct_fits l (images v.chips.now v.records.now v.slots.now) a.self.now.lost a.at.stripe a.at.member inside
          (record_sound_lem l (record_at l v.records.now a.at.stripe) (a.self.now.sound _ stripe)) member (sym c.is_direct-direct.ensures ∙ e),
    )

pub latest_of-latest-requires : goal.latest_of-latest-requires
latest_of-latest-requires c = latest_fits c.look_at-shown.ensures

pub returns : goal.returns
returns c =
    let a = c.args in
    let v = a.self.now.view in
    let l = layout_of v.g in
    let s = images v.chips.now v.records.now v.slots.now in
    let is : contents l s a.self.now.lost a.at.page ≡ c.lent-page.result.now =
    by_test c.is_direct-direct.result
    (λ e.
    sym (ap (λ (x : Fetched). x.bytes)
    (direct_is l s a.self.now.lost a.at.stripe a.at.member (sym c.is_direct-direct.ensures ∙ e) ∙ at_fetch l (within l v.chips_fit.limited) c.requires.1 s a.self.now.lost))
    ∙ sym (c.lent-page.ensures.0 ∙ rw e))
    (λ e. sym (c.fetch_apart-got.ensures.3 e) ∙ sym (c.lent-page.ensures.0 ∙ rw e)) in
    record {
      long = ap (λ (xs : List ℕ). length xs) is ∙ c.lent-page.ensures.1;
      shows = rw is c.look_at-shown.ensures;
      reads = c.fetch_apart-got.ensures.0;
      few = c.fetch_apart-got.ensures.1;
      origin = c.fetch_apart-got.ensures.2;
      stands = rw (is, sym c.fetch_apart-got.ensures.2) c.latest_of-latest.ensures;
    }
