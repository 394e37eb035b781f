use Rattle.std.proofs.Common.{◌+◌, List, map, drop, ap, sym, ◌∙◌}
use Rattle.std.proofs.lemmas.Bool.{le-ltb}
use Rattle.ug_types.specs.Attributes.{Attributes}
use Rattle.ug_policy.specs.declared.map_entry.MapEntry.{MapEntry}
use Rattle.ug_policy.specs.Rules.{rule_of}
use Rattle.ug_policy.specs.Maps.{is_met, mapped_by, map_walk}
use Rattle.ug_policy.proofs.Walks.{here, origin_at, walk_goes_on, walk_ends}
use Rattle.ug_policy.proofs.map.walk.Goals as goal

pub mapped_by-requires : goal.mapped_by-requires
mapped_by-requires c = origin_at c.args.entries.now c.loop-entry.entry-index c.entry-item.result c.loop-entry-test.true c.entry-item.is c.requires

pub returns-in_default : goal.returns-in_default
returns-in_default c =
    let e = c.entry-item.result in
    let met = is_met c.args.lists.now.items c.args.prefix.now in
    let rest = map rule_of (drop (c.loop-entry.entry-index + 1) c.args.entries.now) in
    sym (walk_ends met c.args.attrs.now c.loop-entry.least c.loop-entry.mapped (rule_of e) rest c.in_ok-now.now
    (le-ltb _ _ c.if-entry-least.false)
    (ap (λ (a : Attributes). met a (rule_of e)) (sym c.attrs_so_far.ensures) ∙ sym c.is_met.ensures ∙ c.if-not-is_met.false)
    c.if-not-entry.false
    (c.in_ok-now.ensures ∙ ap (mapped_by (rule_of e)) c.in_ok-so_far.ensures)
    (sym c.goes_to.ensures ∙ c.in_default.is))
    ∙ ap (λ (es : List MapEntry). map_walk met c.args.attrs.now c.loop-entry.least c.loop-entry.mapped (map rule_of es)) (sym (here c.args.entries.now c.loop-entry.entry-index e c.loop-entry-test.true c.entry-item.is))
    ∙ c.loop-entry.invariant

pub loop-entry-preserved : goal.loop-entry-preserved
loop-entry-preserved c =
    let e = c.entry-item.result in
    let met = is_met c.args.lists.now.items c.args.prefix.now in
    let rest = map rule_of (drop (c.loop-entry.entry-index + 1) c.args.entries.now) in
    sym (walk_goes_on met c.args.attrs.now c.loop-entry.least c.loop-entry.mapped (rule_of e) rest c.in_ok-now.now c.in-Some.next
    (le-ltb _ _ c.if-entry-least.false)
    (ap (λ (a : Attributes). met a (rule_of e)) (sym c.attrs_so_far.ensures) ∙ sym c.is_met.ensures ∙ c.if-not-is_met.false)
    c.if-not-entry.false
    (c.in_ok-now.ensures ∙ ap (mapped_by (rule_of e)) c.in_ok-so_far.ensures)
    (sym c.goes_to.ensures ∙ c.in-Some.is))
    ∙ ap (λ (es : List MapEntry). map_walk met c.args.attrs.now c.loop-entry.least c.loop-entry.mapped (map rule_of es)) (sym (here c.args.entries.now c.loop-entry.entry-index e c.loop-entry-test.true c.entry-item.is))
    ∙ c.loop-entry.invariant
