-- The two stores, one after the other.
use native.Mathlib.Omega.{arith}
use Rattle.std.proofs.Common.{rules}
use mathlib.Core.Path.{◌≡◌}
use mathlib.Core.List.{[]}
use Rattle.layout.specs.Layout.{layout_of}
use Rattle.steps.specs.Allowance.{images}
use Rattle.steps.proofs.Allowances.{ran_append}
use Rattle.collect.proofs.end.Goals as goal

pub store_collection-requires : goal.store_collection-requires
store_collection-requires c = (c.requires.1, omega arith, omega arith, (c.erase-erased.ensures [] []).sane)

pub returns : goal.returns
returns c =
    let a = c.args in
    let r = a.records.now in
    let x = c.erase-erased.new.chips in
    let idle : c.default-idle.result ≡ record { phase = 0; chip = 0; victim = 0; destination = 0 } = search (rules, c.default-idle.ensures) in
    λ zs.
    ran_append (layout_of a.g) _ _ _ _ _ (images a.chips.now r zs) (images x r zs) _ (c.erase-erased.ensures r zs)
    (rw idle at c.store_collection.ensures x zs)
