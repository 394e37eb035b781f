use Rattle.std.proofs.Common.{List, sym, ◌∙◌, ap, subst, arith}
use Rattle.std.specs.Map.{keys_of}
use Rattle.std.proofs.lemmas.Option.{slice_get_within}
use Rattle.ug_types.specs.declared.key.Key.{Key}
use Rattle.ug_hearing.specs.Keyed.{list_for, items_or_none, IsPlaceOf}
use Rattle.ug_hearing.proofs.Paired.{keys-paired, paired-found}
use Rattle.ug_hearing.proofs.key_lists.KeyLists.of.Goals as goal

pub at-requires : goal.at-requires
at-requires g c =
    let keys = sym (ap (λ (es : List (Key × _)). keys_of es) c.self.view_is) ∙ keys-paired c.self.inside.keys.items c.self.inside.lists c.self.invariant.1 in
    let there = subst (λ (ks : List Key). IsPlaceOf c.args.key.now ks c.in-Some.place) keys c.in-Some.ensures.found in
    let less = slice_get_within c.self.inside.keys.items c.in-Some.place c.args.key.now there in
    let same = c.self.invariant.1 in
    omega (arith, less, same)

pub returns-in-Some : goal.returns-in-Some
returns-in-Some g c =
    let keys = sym (ap (λ (es : List (Key × _)). keys_of es) c.self.view_is) ∙ keys-paired c.self.inside.keys.items c.self.inside.lists c.self.invariant.1 in
    let there = subst (λ (ks : List Key). IsPlaceOf c.args.key.now ks c.in-Some.place) keys c.in-Some.ensures.found in
    sym (ap items_or_none (paired-found c.self.inside.keys.items c.self.inside.lists c.in-Some.place c.args.key.now c.at.result.now c.self.invariant.0 there c.at.ensures))
    ∙ ap (λ (es : List (Key × _)). list_for es c.args.key.now) c.self.view_is

pub returns-in-None : goal.returns-in-None
returns-in-None g c = sym (ap items_or_none c.in-None.ensures.none)
