-- The page that is fetched, with the ticket put in, is what a write of it stores.
use Prim.Native.Nat.{ℕ, ◌+◌, ◌*◌, ◌%◌, ◌≤◌, ◌<◌}
use native.Mathlib.Nat.{div-lt_iff_lt-mul, mod-lt}
use native.Mathlib.Omega.{arith}
use mathlib.Core.Path.{◌≡◌, sym, ap, ◌∙◌}
use mathlib.Core.List.{List}
use lib.ListN.{length}
use Rattle.octets.specs.Units.{unit_put}
use Rattle.octets.proofs.Units.{unit_fits}
use Rattle.octets.proofs.Work.{front_long}
use Rattle.layout.specs.Layout.{Layout, layout_of}
use Rattle.layout.specs.Images.{Images}
use Rattle.layout.proofs.Limits.{Within, within}
use Rattle.layout.proofs.Rotations.{stripe_fits, member_fits}
use Rattle.steps.specs.Allowance.{images}
use Rattle.rules.specs.Fetch.{Fetched}
use Rattle.rules.specs.Read.{fetch}
use Rattle.rules.specs.Tickets.{ticket_bytes}
use Rattle.rules.specs.Log.{per_page, falls_in, contents, with_ticket}
use Rattle.rules.specs.Write.{write_steps}
use Rattle.tickets.proofs.append.Goals as goal

pub nonzero_div-i : goal.nonzero_div-i
nonzero_div-i c =
    let layout : Layout = layout_of c.args.g in
    let inside : Within layout = within layout c.requires.0.checked.chips_fit.limited in
    let some : 0 < per_page layout = omega (arith, inside.bytes_low) in
    some

pub nonzero_div-j : goal.nonzero_div-j
nonzero_div-j c =
    let layout : Layout = layout_of c.args.g in
    let inside : Within layout = within layout c.requires.0.checked.chips_fit.limited in
    omega (arith, inside.members_low)

pub nonzero_rem-m : goal.nonzero_rem-m
nonzero_rem-m c =
    let layout : Layout = layout_of c.args.g in
    let inside : Within layout = within layout c.requires.0.checked.chips_fit.limited in
    omega (arith, inside.members_low)

pub invariant_of-view : goal.invariant_of-view
invariant_of-view c = let fit = c.requires.0.checked in record { chips_fit = fit.chips_fit; records_fit = fit.records_pass.fit; slots_fit = c.requires.1 }

pub fetch_member-got-requires : goal.fetch_member-got-requires
fetch_member-got-requires c =
    let layout : Layout = layout_of c.args.g in
    let inside : Within layout = within layout c.requires.0.checked.chips_fit.limited in
    let page : ℕ = falls_in layout c.args.t in
    let some : 0 < per_page layout = omega (arith, inside.bytes_low) in
    let page_fits : page < c.args.g.n * c.args.g.s = (div-lt_iff_lt-mul some).1 c.requires.3 in
    let stripe = stripe_fits layout inside page page_fits in
    (c.requires.2, stripe, member_fits layout inside page, c.requires.8 _ stripe)

pub nonzero_rem-t : goal.nonzero_rem-t
nonzero_rem-t c =
    let layout : Layout = layout_of c.args.g in
    let inside : Within layout = within layout c.requires.0.checked.chips_fit.limited in
    let some : 0 < per_page layout = omega (arith, inside.bytes_low) in
    some

pub put_ticket-requires : goal.put_ticket-requires
put_ticket-requires c =
    let layout : Layout = layout_of c.args.g in
    let inside : Within layout = within layout c.requires.0.checked.chips_fit.limited in
    let some : 0 < per_page layout = omega (arith, inside.bytes_low) in
    let place_fits : (xs : List ℕ) → length xs ≡ c.args.g.w → c.args.t % per_page layout * ticket_bytes + ticket_bytes ≤ length xs = λ xs long.
    let whole : length xs ≡ per_page layout * 16 = long ∙ omega (arith, inside.bytes_unit) in
    unit_fits (per_page layout) 16 (c.args.t % per_page layout) xs whole (mod-lt c.args.t some) in
    (place_fits c.fetch_member-got.new.buffer (c.fetch_member-got.auto.buffer ∙ c.requires.2), c.requires.4)

pub slice_bounds-work-end : goal.slice_bounds-work-end
slice_bounds-work-end c =
    let layout : Layout = layout_of c.args.g in
    let inside : Within layout = within layout c.requires.0.checked.chips_fit.limited in
    inside.bytes_high

pub write_member-requires : goal.write_member-requires
write_member-requires c =
    let layout : Layout = layout_of c.args.g in
    let inside : Within layout = within layout c.requires.0.checked.chips_fit.limited in
    let page : ℕ = falls_in layout c.args.t in
    let some : 0 < per_page layout = omega (arith, inside.bytes_low) in
    let page_fits : page < c.args.g.n * c.args.g.s = (div-lt_iff_lt-mul some).1 c.requires.3 in (
      c.requires.0,
      c.requires.1,
      front_long c.args.g.w 4096 inside.bytes_high,
      stripe_fits layout inside page page_fits,
      member_fits layout inside page,
      c.put_ticket.auto.page ∙ c.fetch_member-got.auto.buffer ∙ c.requires.2,
      c.requires.5,
      c.requires.6,
      c.requires.7,
    )

pub returns : goal.returns
unfolding write_steps with_ticket fetch
returns c =
    let layout : Layout = layout_of c.args.g in
    let given : Images = images c.args.chips.now c.args.records.now c.args.slots.now in
    let page : ℕ = falls_in layout c.args.t in
    let read : c.fetch_member-got.new.buffer ≡ contents layout given c.args.lost page =
    ap (λ (x : Fetched). x.bytes) c.fetch_member-got.ensures.0 in
    let put = c.put_ticket.ensures ∙ ap (unit_put ticket_bytes (c.args.t % per_page layout) c.args.ticket.now) read in
    rw (sym put) c.write_member.ensures
