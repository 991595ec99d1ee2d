-- A collection that is under way, as the code's struct has it.
use Prim.Native.Nat.{ℕ, ◌≤◌, ◌<◌}
use native.Mathlib.Omega.{arith}
use mathlib.Core.Logic.{◌≢◌}
use mathlib.Core.List.{List}
use Rattle.layout.specs.declared.Geometry.{Geometry}
use Rattle.layout.specs.Layout.{layout_of, no_chip}
use Rattle.layout.specs.Collection.{Collection, collection_at}
use Rattle.rules.proofs.Soundness.Statements.{CollectionSound}
use Rattle.codec.specs.declared.CollectionRecord.{CollectionRecord}
use Rattle.codec.specs.Views.{CollectionIs}
use Rattle.names.specs.Checked.{Checked}
use Rattle.names.proofs.Statements.{stripes}

-- its chip and blocks are there
pub record Working (g : Geometry) (t : CollectionRecord) : Type 0 where
  pub chip : t.chip ≤ g.n
  pub victim : t.victim < g.b
  pub destination : t.destination < g.b

-- outside phase 0 a sound collection record is such
working_in : (g : Geometry) (t : CollectionRecord) (co : Collection) → CollectionIs t co → CollectionSound (layout_of g) co → t.phase ≢ 0 → Working g t
working_in g t co is f d =
    let busy : co.phase ≢ 0 = λ e. d (omega (arith, is.phase)) in
    record {
      chip = omega (arith, is.chip, f.chip busy);
      victim = omega (arith, is.victim, f.victim busy);
      destination = omega (arith, is.destination, f.destination busy);
    }

-- so of images that have passed their checks
pub working : {g : Geometry} {chips records : List ℕ} → Checked g no_chip chips records → {t : CollectionRecord}
    → CollectionIs t (collection_at (layout_of g) records) → t.phase ≢ 0 → Working g t
working {g} {chips} {records} h {t} is = working_in g t (collection_at (layout_of g) records) is (stripes g chips records h).collection
