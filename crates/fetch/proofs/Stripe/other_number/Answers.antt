-- The three ways out are those of the definition.
use mathlib.Core.Path.{sym, ◌∙◌}
use Rattle.layout.specs.Layout.{layout_of, none}
use Rattle.layout.specs.Record.{record_at}
use Rattle.fetch.proofs.Others.{others_told, number_current, number_old}
use Rattle.fetch.proofs.Stripe.other_number.Goals as goal

pub returns-then-i-m : goal.returns-then-i-m
unfolding none
returns-then-i-m c =
    let a = c.args in
    let s = a.self.now in
    let l = layout_of s.view.g in
    let r = record_at l s.view.records.now s.j in
    sym (others_told l a.inside a.m r a.i c.requires.1 c.bit_of-set.ensures ∙ rw c.if-i-m.true)

pub returns-then-set-inside : goal.returns-then-set-inside
returns-then-set-inside c =
    let a = c.args in
    let s = a.self.now in
    let l = layout_of s.view.g in
    let r = record_at l s.view.records.now s.j in
    c.number_in.ensures.0 ∙ number_old r a.i c.requires.0
    ∙ sym (others_told l a.inside a.m r a.i c.requires.1 c.bit_of-set.ensures ∙ rw (c.if-i-m.false, c.if-set-inside.true))

pub returns : goal.returns
returns c =
    let a = c.args in
    let s = a.self.now in
    let l = layout_of s.view.g in
    let r = record_at l s.view.records.now s.j in
    c.number_in-2.ensures.0 ∙ number_current r a.i c.requires.0
    ∙ sym (others_told l a.inside a.m r a.i c.requires.1 c.bit_of-set.ensures ∙ rw (c.if-i-m.false, c.if-set-inside.false))
