use Prim.Native.Nat.{◌+◌}
use native.Mathlib.Omega.{arith}
use mathlib.Core.Path.{◌≡◌, ◌∙◌}
use mathlib.Core.Bool.{true, ◌&&◌, ◌||◌}
use lib.Dec.{eqb}
use borrow.Author.Tests.{eq-eqb, ne_eqb}
use Rattle.ranges.proofs.Tests.{one_fails, none_fails}
use Rattle.layout.specs.Layout.{layout_of}
use Rattle.layout.specs.Page.{page_at}
use Rattle.layout.specs.Record.{record_at}
use Rattle.layout.specs.Collection.{collection_at}
use Rattle.layout.proofs.Limits.{within}
use Rattle.rules.specs.Sound.{is_lost, spares_sound}
use Rattle.spares.specs.Phases.{phase_sound}
use Rattle.codec.proofs.Fetching.{start_low}
use Rattle.spares.proofs.Scanning.{scans_at}
use Rattle.spares.proofs.Judging.{judge_start, judge_more, judge_lost, judge_few, verdict, stamps_pass}
use Rattle.spares.proofs.spares_pass.Goals as goal
use Rattle.spares.proofs.spares_pass.Goals.{After-loop-c, Else-named-names, else-c-lost, then-c-lost}

-- after the last chip: the verdict as the code comes to it
judgement : (c : goal.After-loop-c) → let a = c.args in let l = layout_of a.g in
    eqb c.loop-c.named a.names && c.loop-c.shaped
    && (eqb a.co.chip a.lost || phase_sound l (record_at l a.records.now) (page_at l a.chips.now a.co.chip) (collection_at l a.records.now))
    ≡ spares_sound l (record_at l a.records.now) (page_at l a.chips.now) (collection_at l a.records.now) (is_lost a.lost)
judgement c =
    let all : c.loop-c.c ≡ c.args.g.n + 1 = omega arith in
    verdict c.requires.1 c.requires.2 c.requires.0 c.loop-c.invariant all c.requires.3

-- behind the first test its two parts hold
passed : (c : goal.Else-named-names) → (eqb c.loop-c.named c.args.names ≡ true) × (c.loop-c.shaped ≡ true)
passed c = none_fails (eqb c.loop-c.named c.args.names) c.loop-c.shaped c.if-named-names.false

pub loop-c-init : goal.loop-c-init
loop-c-init c = judge_start

pub overflow_add-c-end : goal.overflow_add-c-end
overflow_add-c-end c = omega (arith, (within (layout_of c.args.g) c.requires.0.limited).members_high)

pub offset_bounds-scans-c : goal.offset_bounds-scans-c
offset_bounds-scans-c c = omega (arith, (within (layout_of c.args.g) c.requires.0.limited).members_high)

pub bounds-scans-c : goal.bounds-scans-c
bounds-scans-c c =
    omega (arith, (within (layout_of c.args.g) c.requires.0.limited).members_high)

pub overflow_add-named : goal.overflow_add-named
overflow_add-named c =
    let o = c.loop-c in
    let a = c.args in
    let l = layout_of a.g in
    let pages = start_low a.g c.requires.0.limited a.g.b (omega arith) in
    let more = judge_more o.invariant c.if-c-lost.true (scans_at _ _ _ _ _ c.requires.4 (within (layout_of c.args.g) c.requires.0.limited).members_high o.c (omega arith) c.if-c-lost.true) in
    let few = judge_few l (record_at l a.records.now) (page_at l a.chips.now) a.lost pages (o.c + 1) in
    omega (arith, more.names, (within l c.requires.0.limited).members_high)

pub loop-c-preserved : goal.loop-c-preserved
loop-c-preserved c =
    let o = c.loop-c in
    elim c.if-c-lost.branch [
      | then-c-lost w ↦ rw (w.named-is, w.shaped-is, c.requires.2.phase, c.requires.2.chip) (judge_more o.invariant w.if-c-lost.true (scans_at _ _ _ _ _ c.requires.4 (within (layout_of c.args.g) c.requires.0.limited).members_high o.c (omega arith) w.if-c-lost.true))
      | else-c-lost w ↦ rw (w.named-is, w.shaped-is) (judge_lost o.invariant w.if-c-lost.false)
    ]

pub returns-then-named-names : goal.returns-then-named-names
returns-then-named-names c =
    rw (one_fails (eqb c.loop-c.named c.args.names) c.loop-c.shaped c.if-named-names.true) at (judgement (goal.at.returns-then-named-names c).After-loop-c)

pub returns-then-co-lost : goal.returns-then-co-lost
returns-then-co-lost c =
    let t = passed (goal.at.returns-then-co-lost c).Else-named-names in
    rw (t.0, t.1, eq-eqb c.args.co.chip c.args.lost c.if-co-lost.true) at (judgement (goal.at.returns-then-co-lost c).After-loop-c)

pub phase_passes-requires : goal.phase_passes-requires
phase_passes-requires c =
    let all : c.loop-c.c ≡ c.args.g.n + 1 = omega arith in
    let t = passed (goal.at.phase_passes-requires c).Else-named-names in
    (stamps_pass c.requires.1 c.requires.2 c.requires.0 c.loop-c.invariant all c.requires.3 t.0 c.if-co-lost.false, c.requires.1, c.requires.2)

pub returns : goal.returns
returns c =
    let t = passed (goal.at.returns c).Else-named-names in
    c.phase_passes.ensures ∙ rw (t.0, t.1, ne_eqb c.args.co.chip c.args.lost c.if-co-lost.false) at (judgement (goal.at.returns c).After-loop-c)
