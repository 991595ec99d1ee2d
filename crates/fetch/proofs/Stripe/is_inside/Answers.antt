-- The test is that of the record's bit; of no other page is there one.
use Prim.Native.Nat.{ℕ, ◌/◌, ◌%◌, ◌^◌}
use native.Mathlib.Omega.{arith}
use mathlib.Core.Path.{ap, ◌∙◌}
use lib.Dec.{eqb}
use Rattle.layout.specs.Record.{bit}
use Rattle.fetch.proofs.Others.{six, current_fits}
use Rattle.fetch.proofs.Stripe.is_inside.Goals as goal

pub bit_of-requires : goal.bit_of-requires
bit_of-requires c =
    let v = c.args.self.now.view in
    let low = six v.g v.chips_fit.limited (current_fits v.g c.in-Current.is c.requires) in
    omega (arith, low)

pub returns-in-Current : goal.returns-in-Current
unfolding bit
returns-in-Current c = rw c.in-Current.is (c.bit_of.ensures ∙ ap (λ (n : ℕ). eqb (n / 2 ^ c.in-Current.m % 2) 1) c.bitmap_at.ensures.0)
