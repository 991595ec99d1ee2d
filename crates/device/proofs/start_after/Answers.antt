-- From at most 2^59 stores no counter overflows.
use Prim.Native.Nat.{ℕ, ◌^◌, ◌≤◌, ◌<◌}
use native.Mathlib.Nat.{min-le_right}
use native.Mathlib.Omega.{arith}
use mathlib.Core.Path.{ap}
use mathlib.Core.Bool.{false≢true}
use Rattle.steps.specs.Steps.{reading}
use Rattle.steps.specs.Allowance.{started, Sane}
use Rattle.device.proofs.start_after.Goals as goal

-- no counter overflows in so many stores
sane : (reads n : ℕ) → reads < 2 ^ 62 → n ≤ 2 ^ 59 → Sane (started (reading reads) n)
sane reads n few h =
    record {
      reads = omega arith;
      programs = omega arith;
      erases = omega arith;
      stores = omega arith;
      spent = λ e. absurd (false≢true e);
    }

pub returns : goal.returns
returns c =
    let x = c.min-left in
    rw c.of_reads.ensures (ap (started (reading c.args.reads)) x.ensures, sane c.args.reads x.result c.requires (rw x.ensures (min-le_right c.args.allowance (2 ^ 59))))
