-- Without a slot only the soundness is added; with one, its cost is compared with the least so far.
use mathlib.Core.Path.{sym, ap, ◌∙◌}
use mathlib.Core.Logic.{◌≢◌}
use Rattle.ranges.proofs.Tests.{differ_by}
use Rattle.layout.specs.Layout.{layout_of}
use Rattle.layout.proofs.Limits.{within}
use Rattle.layout.specs.Record.{Record}
use Rattle.codec.specs.Views.{record_from, ended}
use Rattle.costs.proofs.Costs.{cost_is}
use Rattle.records.proofs.Plains.{sound_seen}
use Rattle.records.proofs.Tables.{tallied_bare, tallied_slot}
use Rattle.records.proofs.with_record.Goals as goal

pub returns-then-e-eq-NO_SLOT : goal.returns-then-e-eq-NO_SLOT
unfolding record_from ended
returns-then-e-eq-NO_SLOT c =
    record {
      adds = λ r same ends seen h. tallied_bare h (sound_seen (layout_of c.args.g) r c.args.j c.args.e same ends c.record_passes.ensures) (sym (ap (λ (x : Record). x.slot) same) ∙ c.if-e-eq-NO_SLOT.true);
    }

pub cost_of-requires : goal.cost_of-requires
cost_of-requires c = ((within (layout_of c.args.g) c.requires.0).members_high, c.set_bits.ensures.1)

pub returns : goal.returns
unfolding record_from ended
returns c =
    record {
      adds = λ r same ends seen h.
          let a = c.args in
          let d : (r a.j).slot ≢ 255 = λ q. c.if-e-eq-NO_SLOT.false (ap (λ (x : Record). x.slot) same ∙ q) in
          let cost = cost_is (layout_of a.g) r a.j (ap (λ (x : Record). x.bitmap) same) c.set_bits.ensures.0 c.cost_of.ensures.0 in
          tallied_slot h (sound_seen (layout_of c.args.g) r c.args.j c.args.e same ends c.record_passes.ensures) d (seen (differ_by _ 255 d)) cost c.with_next-cheapest.ensures;
    }
