use Prim.Native.Nat.{◌+◌, ◌-◌, ◌*◌}
use native.Mathlib.Numerals.{add-one}
use native.Mathlib.Omega.{arith}
use mathlib.Core.Path.{sym, ◌∙◌}
use Rattle.ranges.proofs.Looks.{first_not_here}
use Rattle.layout.specs.Layout.{layout_of}
use Rattle.layout.specs.Page.{page_at}
use Rattle.rules.specs.Blocks.{clean_in}
use Rattle.codec.proofs.Fetching.{OnChip, place_low}
use Rattle.space.proofs.Blocks.{some_places, first_page, last_page, first_tells, open_tells}
use Rattle.space.proofs.Searching.{begun_inside, room_inside, search_start, search_few, search_first, search_later, search_full, Answered, answer_begun, answer_none}
use Rattle.space.proofs.place_on.Goals as goal
use Rattle.space.proofs.place_on.Goals.{else-clean-eq0, else-is_clean+else-is_clean-2, else-is_clean+then-is_clean-2+else-loop-i-test, else-search-test, then-clean-eq0, then-is_clean, then-search-test+else-is_clean+then-is_clean-2+then-loop-i-test+then-is_clean-3}

-- the first and the last page of the block at hand
first : (c : goal.In-search) → OnChip c.args.g (c.search.b * c.args.g.k)
first c = first_page c.requires c.search.b c.search-test.true

pub search-init : goal.search-init
search-init c = search_start

pub overflow_mul-first : goal.overflow_mul-first
overflow_mul-first c = omega (arith, first c)

pub is_clean-requires : goal.is_clean-requires
is_clean-requires c = let h = c.requires in (h.chips_fit, h.chip, (first c).0)

pub overflow_add-clean : goal.overflow_add-clean
overflow_add-clean c = omega (arith, search_few c.search.invariant)

pub overflow_add-first : goal.overflow_add-first
overflow_add-first c =
    let last : let g = c.args.g in OnChip g (c.search.b * g.k + g.k - 1) =
    last_page c.requires c.search.b c.search-test.true in
    omega (arith, last)

pub overflow_sub-first : goal.overflow_sub-first
overflow_sub-first c = omega (arith, some_places c.requires)

pub is_clean-requires-else-is_clean : goal.is_clean-requires-else-is_clean
is_clean-requires-else-is_clean c =
    let last : let g = c.args.g in OnChip g (c.search.b * g.k + g.k - 1) =
    last_page c.requires c.search.b c.search-test.true in
    let h = c.requires in (h.chips_fit, h.chip, last.0)

pub loop-i-init : goal.loop-i-init
loop-i-init c =
    let l = layout_of c.args.g in
    let used = sym c.is_clean.ensures ∙ c.if-is_clean.false in
    begun_inside l (page_at l c.args.chips.now c.args.c) c.search.b used

pub overflow_add-first-in-loop-i : goal.overflow_add-first-in-loop-i
overflow_add-first-in-loop-i c =
    let place : OnChip c.args.g (c.search.b * c.args.g.k + c.loop-i.i) =
    place_low c.args.g c.requires.chips_fit.limited c.search.b c.loop-i.i c.search-test.true c.loop-i-test.true in
    omega (arith, place)

pub is_clean-requires-in-loop-i : goal.is_clean-requires-in-loop-i
is_clean-requires-in-loop-i c =
    let place : OnChip c.args.g (c.search.b * c.args.g.k + c.loop-i.i) =
    place_low c.args.g c.requires.chips_fit.limited c.search.b c.loop-i.i c.search-test.true c.loop-i-test.true in
    let h = c.requires in (h.chips_fit, h.chip, place.0)

pub overflow_add-found : goal.overflow_add-found
overflow_add-found c =
    let place : OnChip c.args.g (c.search.b * c.args.g.k + c.loop-i.i) =
    place_low c.args.g c.requires.chips_fit.limited c.search.b c.loop-i.i c.search-test.true c.loop-i-test.true in
    omega (arith, place)

pub loop-i-preserved : goal.loop-i-preserved
loop-i-preserved c =
    let o = c.loop-i in
    let b = c.search.b in
    let a = c.args in
    let l = layout_of a.g in
    rw add-one (first_not_here o.i (clean_in l (page_at l a.chips.now a.c) b) o.invariant (sym c.is_clean-in-loop-i.ensures ∙ c.if-is_clean-3.false))

pub search-preserved : goal.search-preserved
search-preserved c =
    let o = c.search in
    let l = layout_of c.args.g in
    let low = c.search-test.true in
    let clean = first_tells c.requires o.b low c.is_clean.ensures in
    elim c.if-is_clean.branch [
      | then-is_clean w ↦ rw (w.found-is, w.clean-is, w.lowest-is) (elim w.if-clean-eq0.branch [
        | then-clean-eq0 v ↦ rw v.lowest-is (search_first o.invariant (clean ∙ w.if-is_clean.true) v.if-clean-eq0.true)
        | else-clean-eq0 v ↦ rw v.lowest-is (search_later o.invariant (clean ∙ w.if-is_clean.true) v.if-clean-eq0.false)
      ])
      | else-is_clean+then-is_clean-2+else-loop-i-test w ↦ room_inside l (page_at l c.args.chips.now c.args.c) o.b (some_places c.requires) (sym w.is_clean-else-is_clean.ensures ∙ w.if-is_clean-2.true) w.loop-i.i w.loop-i.invariant (omega arith)
      | else-is_clean+else-is_clean-2 w ↦ rw (w.found-is, w.clean-is, w.lowest-is) (search_full o.invariant (clean ∙ w.if-is_clean.false) (rw (w.if-is_clean.false, w.if-is_clean-2.false) at (open_tells c.requires o.b low c.is_clean.ensures w.is_clean-else-is_clean.ensures)))
    ]

pub returns-in-Some : goal.returns-in-Some
returns-in-Some c =
    let answered : let a = c.args in
    let l = layout_of a.g in
    Answered l (page_at l a.chips.now a.c) c.search-test.found c.search.clean c.search.lowest =
    let o = c.search in
    elim c.search-test.branch [
      | else-search-test w ↦ rw w.found-is (answer_none o.invariant (omega arith))
      | then-search-test+else-is_clean+then-is_clean-2+then-loop-i-test+then-is_clean-3 w ↦ answer_begun o.invariant w.loop-i.i w.found-is w.search-test.true (rw (w.if-is_clean.false, w.if-is_clean-2.true) at (open_tells c.requires o.b w.search-test.true w.is_clean.ensures w.is_clean-else-is_clean.ensures))
          w.loop-i-test.true w.loop-i.invariant (sym w.is_clean-in-loop-i.ensures ∙ w.if-is_clean-3.true)
    ] in
    answered.begun c.in-Some.p c.in-Some.is

pub returns-then-clean-ge2 : goal.returns-then-clean-ge2
returns-then-clean-ge2 c =
    let answered : let a = c.args in
    let l = layout_of a.g in
    Answered l (page_at l a.chips.now a.c) c.search-test.found c.search.clean c.search.lowest =
    let o = c.search in
    elim c.search-test.branch [
      | else-search-test w ↦ rw w.found-is (answer_none o.invariant (omega arith))
      | then-search-test+else-is_clean+then-is_clean-2+then-loop-i-test+then-is_clean-3 w ↦ answer_begun o.invariant w.loop-i.i w.found-is w.search-test.true (rw (w.if-is_clean.false, w.if-is_clean-2.true) at (open_tells c.requires o.b w.search-test.true w.is_clean.ensures w.is_clean-else-is_clean.ensures))
          w.loop-i-test.true w.loop-i.invariant (sym w.is_clean-in-loop-i.ensures ∙ w.if-is_clean-3.true)
    ] in
    answered.fresh c.in-None.is c.if-clean-ge2.true

pub returns-else-clean-ge2 : goal.returns-else-clean-ge2
returns-else-clean-ge2 c =
    let answered : let a = c.args in
    let l = layout_of a.g in
    Answered l (page_at l a.chips.now a.c) c.search-test.found c.search.clean c.search.lowest =
    let o = c.search in
    elim c.search-test.branch [
      | else-search-test w ↦ rw w.found-is (answer_none o.invariant (omega arith))
      | then-search-test+else-is_clean+then-is_clean-2+then-loop-i-test+then-is_clean-3 w ↦ answer_begun o.invariant w.loop-i.i w.found-is w.search-test.true (rw (w.if-is_clean.false, w.if-is_clean-2.true) at (open_tells c.requires o.b w.search-test.true w.is_clean.ensures w.is_clean-else-is_clean.ensures))
          w.loop-i-test.true w.loop-i.invariant (sym w.is_clean-in-loop-i.ensures ∙ w.if-is_clean-3.true)
    ] in
    answered.nowhere c.in-None.is c.if-clean-ge2.false
