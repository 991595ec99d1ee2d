-- Room on the member's chip, then the place, then what a write stores there.
use mathlib.Core.Path.{refl, sym, ◌∙◌}
use Rattle.names.proofs.Statements.{stamps_pass}
use Rattle.space.specs.Victims.{VictimFor}
use Rattle.space.proofs.Victims.{victim_wanted_lem}
use Rattle.collect.proofs.Rooms.{ordered}
use Rattle.commit.proofs.Placing.{record_passes, place_fits, room_settled, room_free, placed_cut, placed_at, placed_nowhere, placed_on}
use Rattle.write.proofs.Owing.{same_victim}
use Rattle.write.proofs.place_member.Goals as goal
use Rattle.write.proofs.place_member.Goals.{else-anew, then-anew}

pub victim_on-victim-requires : goal.victim_on-victim-requires
victim_on-victim-requires c =
    let h = c.requires.0.checked in
    let low = c.member_chip-c.ensures.1 in
    (ordered h low, stamps_pass _ _ _ h _ low)

pub make_room-run-requires : goal.make_room-run-requires
make_room-run-requires c =
    let victim : let a = c.args in
    VictimFor a.g a.chips.now a.records.now c.member_chip-c.result c.if-anew.victim =
    elim c.if-anew.branch [
      | then-anew w ↦ same_victim refl w.victim-is (victim_wanted_lem w.victim_on-victim.ensures)
      | else-anew w ↦ same_victim c.member_chip-c.ensures.0 w.victim-is (c.requires.7 w.if-anew.false)
    ] in
    let h = c.requires in
    (h.0, c.member_chip-c.ensures.1, victim, h.6, h.1, h.2)

pub returns-then-run : goal.returns-then-run
returns-then-run c =
    let h = c.requires in
    let on = c.member_chip-c.ensures in
    placed_on _ on.0 _ (placed_cut h.0 h.1 on.1 c.make_room-run.ensures _ c.if-run.true)

pub place_on-requires : goal.place_on-requires
place_on-requires c =
    let h = c.requires in
    let low = c.member_chip-c.ensures.1 in
    ordered (room_settled h.0 h.1 low c.make_room-run.ensures c.if-run.false).checked low

pub write_at-requires : goal.write_at-requires
write_at-requires c =
    let h = c.requires in
    let low = c.member_chip-c.ensures.1 in
    let made = c.make_room-run.ensures in
    let going = c.if-run.false in
    let r = room_settled h.0 h.1 low made going in (
      r.checked.chips_fit,
      r.checked.records_pass.fit,
      h.1,
      c.make_room-run.auto.work ∙ h.2,
      h.3,
      h.4,
      h.5,
      place_fits r low (sym c.place_on.ensures ∙ c.in-Some.is),
      record_passes r h.3,
      made.sane,
      h.8 ∙ sym (room_free h.0 h.1 low made going),
    )

pub returns-in-Some : goal.returns-in-Some
returns-in-Some c =
    let h = c.requires in
    let on = c.member_chip-c.ensures in
    placed_on _ on.0 _ (placed_at h.0 h.1 on.1 c.make_room-run.ensures _ (sym c.place_on.ensures ∙ c.in-Some.is) c.write_at.ensures)

pub returns-in-None : goal.returns-in-None
returns-in-None c =
    let h = c.requires in
    let on = c.member_chip-c.ensures in
    placed_on _ on.0 _ (placed_nowhere h.0 h.1 on.1 c.make_room-run.ensures _ (sym c.place_on.ensures ∙ c.in-None.is))
