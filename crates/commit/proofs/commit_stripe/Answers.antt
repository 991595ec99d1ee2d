-- Room on the parity chip, then the place, then what a commit stores there.
use mathlib.Core.Path.{sym, ◌∙◌}
use Rattle.rules.specs.Commit.{commit_steps}
use Rattle.collect.proofs.Rooms.{ordered}
use Rattle.commit.proofs.Placing.{record_passes, place_fits, room_settled, room_slotted, placed_cut, placed_at, placed_nowhere, placed_on}
use Rattle.commit.proofs.commit_stripe.Goals as goal

pub make_room-run-requires : goal.make_room-run-requires
make_room-run-requires c =
    let h = c.requires in
    let on = c.parity_chip-c.ensures in
    (h.0, on.1, rw on.0 h.6, h.4, h.1, h.2)

pub returns-then-run : goal.returns-then-run
unfolding commit_steps
returns-then-run c =
    let h = c.requires in
    let on = c.parity_chip-c.ensures in
    placed_on _ on.0 _ (placed_cut h.0 h.1 on.1 c.make_room-run.ensures _ c.if-run.true)

pub place_on-requires : goal.place_on-requires
place_on-requires c =
    let h = c.requires in
    let low = c.parity_chip-c.ensures.1 in
    ordered (room_settled h.0 h.1 low c.make_room-run.ensures c.if-run.false).checked low

pub commit_at-requires : goal.commit_at-requires
commit_at-requires c =
    let h = c.requires in
    let low = c.parity_chip-c.ensures.1 in
    let made = c.make_room-run.ensures in
    let going = c.if-run.false in
    let r = room_settled h.0 h.1 low made going in (
      r.checked.chips_fit,
      r.checked.records_pass.fit,
      h.1,
      c.make_room-run.auto.work ∙ h.2,
      h.3,
      place_fits r low (sym c.place_on.ensures ∙ c.in-Some.is),
      made.sane,
      record_passes r h.3,
      room_slotted h.0 h.1 low made going h.3 h.5,
    )

pub returns-in-Some : goal.returns-in-Some
unfolding commit_steps
returns-in-Some c =
    let h = c.requires in
    let on = c.parity_chip-c.ensures in
    placed_on _ on.0 _ (placed_at h.0 h.1 on.1 c.make_room-run.ensures _ (sym c.place_on.ensures ∙ c.in-Some.is) c.commit_at.ensures)

pub returns-in-None : goal.returns-in-None
unfolding commit_steps
returns-in-None c =
    let h = c.requires in
    let on = c.parity_chip-c.ensures in
    placed_on _ on.0 _ (placed_nowhere h.0 h.1 on.1 c.make_room-run.ensures _ (sym c.place_on.ensures ∙ c.in-None.is))
