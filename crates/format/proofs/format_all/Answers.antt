-- The three parts of the list, one after another.
use native.Mathlib.Omega.{arith}
use Rattle.std.proofs.Common.{rules}
use mathlib.Core.Path.{◌≡◌, ◌∙◌}
use mathlib.Core.List.{[]}
use Rattle.layout.specs.Layout.{layout_of}
use Rattle.rules.specs.Format.{format_steps}
use Rattle.steps.specs.Allowance.{images}
use Rattle.steps.proofs.Allowances.{ran_append}
use Rattle.format.proofs.format_all.Goals as goal

pub empty_records-emptied-requires : goal.empty_records-emptied-requires
empty_records-emptied-requires c = (c.requires.1, (c.erase_chips-erased.ensures [] []).sane)

pub store_collection-requires : goal.store_collection-requires
store_collection-requires c = (record { limited = c.requires.1.limited; long = c.empty_records-emptied.auto.records ∙ c.requires.1.long }, omega arith, omega arith, (c.empty_records-emptied.ensures [] []).sane)

pub returns : goal.returns
unfolding format_steps
returns c =
    let g = c.args.g in
    let l = layout_of g in
    let x₀ = c.args.chips.now in
    let r₀ = c.args.records.now in
    let x = c.erase_chips-erased.new.chips in
    let r = c.empty_records-emptied.new.records in
    let idle : c.default-idle.result ≡ record { phase = 0; chip = 0; victim = 0; destination = 0 } = search (rules, c.default-idle.ensures) in
    λ zs. ran_append l _ _ _ _ _ (images x₀ r₀ zs) (images x r₀ zs) _ (c.erase_chips-erased.ensures r₀ zs)
    (ran_append l _ _ _ _ _ (images x r₀ zs) (images x r zs) _ (c.empty_records-emptied.ensures x zs) (rw idle at c.store_collection.ensures x zs))
