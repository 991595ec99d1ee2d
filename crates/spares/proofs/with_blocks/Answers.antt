use Prim.Native.Nat.{◌+◌, ◌≤◌}
use native.Mathlib.Nat.{suc-mul, mul-le-mul_right}
use native.Mathlib.Omega.{arith}
use mathlib.Core.Path.{◌≡◌}
use Rattle.layout.specs.Layout.{layout_of}
use Rattle.layout.specs.Page.{page_at}
use Rattle.layout.specs.Record.{record_at}
use Rattle.layout.proofs.Limits.{within}
use Rattle.layout.proofs.Pages.{page_in_fits}
use Rattle.codec.proofs.Fetching.{start_low}
use Rattle.spares.specs.Scans.{block_scan}
use Rattle.spares.proofs.Fields.{fields_fit}
use Rattle.spares.proofs.Scanning.{together_end, together_in, stamps_fewer, fields_fewer, scan_few, scan_more}
use Rattle.spares.proofs.with_blocks.Goals as goal
use Rattle.spares.proofs.with_blocks.Goals.{After-scan_block-scan}

-- the scan of block b
seen : (c : goal.After-scan_block-scan) → let a = c.args in let l = layout_of a.g in
    c.scan_block-scan.result ≡ block_scan l (record_at l a.records.now) (page_at l a.chips.now a.c) a.c c.loop-b.b
seen c =
    let a = c.args in
    let here = together_end a.g.k c.loop-b.b c.loop-b.auto.b in
    let few = together_in a.g.k c.loop-b.b _ a.end c.requires.3 here c.loop-b-test.true in
    c.scan_block-scan.ensures (page_at (layout_of a.g) a.chips.now a.c) a.c c.loop-b.b c.requires.2 (rw c.fetch.ensures.0 here)
    (stamps_fewer few c.fetch.ensures.1)
    (fields_fewer (layout_of a.g) a.c few c.fetch.ensures.2)

pub overflow_mul-first : goal.overflow_mul-first
overflow_mul-first c = omega (arith, start_low c.args.g c.requires.0.limited c.args.from (omega (arith, c.requires.4)))

pub fetch-requires : goal.fetch-requires
fetch-requires c =
    let a = c.args in (
      c.requires.0,
      c.requires.2,
      omega (arith, page_in_fits (layout_of a.g) a.from 0 (omega arith) (omega (arith, (within (layout_of a.g) c.requires.0.limited).places_low))),
      omega (arith, together_end a.g.k {from = a.from} a.end (omega (arith, c.requires.3)), mul-le-mul_right a.g.k c.requires.4),
      c.requires.5,
    )

pub scan_block-scan-requires : goal.scan_block-scan-requires
scan_block-scan-requires c =
    let a = c.args in
    let here = together_end a.g.k c.loop-b.b c.loop-b.auto.b in
    let few = together_in a.g.k c.loop-b.b _ a.end c.requires.3 here c.loop-b-test.true in
    let block : c.loop-b.b + 1 ≤ a.g.b = omega (arith, c.loop-b-test.true, c.requires.4) in (
      c.requires.1,
      omega (arith, here, suc-mul c.loop-b.b a.g.k, mul-le-mul_right a.g.k block),
      omega (arith, few, c.requires.5),
      fields_fit a.g a.c c.requires.0.limited c.requires.2 (fields_fewer (layout_of a.g) a.c few c.fetch.ensures.2),
    )

pub overflow_add-named : goal.overflow_add-named
overflow_add-named c =
    omega (arith, scan_few _ _ _ _ _ c.loop-b.invariant (seen (goal.at.overflow_add-named c).After-scan_block-scan), start_low c.args.g c.requires.0.limited (c.loop-b.b + 1) (omega (arith, c.requires.4)))

pub loop-b-preserved : goal.loop-b-preserved
loop-b-preserved c = scan_more _ _ _ _ _ c.loop-b.invariant (seen (goal.at.loop-b-preserved c).After-scan_block-scan) c.with_next-victim.ensures
