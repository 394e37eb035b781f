use Rattle.std.proofs.Common.{◌≡◌, false, List, slice_get, Some, sym, ◌∙◌, ap, subst, arith}
use Rattle.std.proofs.lemmas.Option.{slice_get_within, slice_get-get_or}
use Rattle.ug_types.specs.declared.key.Key.{Key}
use Rattle.ug_message.specs.Tables.{among}
use Rattle.ug_hearing.specs.Keyed.{value_for, IsPlaceOf}
use Rattle.ug_hearing.proofs.Among.{among-placed}
use Rattle.ug_hearing.proofs.Held.{held-at, held-out}
use Rattle.ug_hearing.proofs.rows.Rows.get.Goals as goal

pub returns-in-Some : goal.returns-in-Some
returns-in-Some c =
    let keys = c.deref.ensures.value ∙ ap (λ ks. ks.items) c.get.ensures in
    let there = subst (λ (ks : List Key). IsPlaceOf c.args.key.now ks c.in-Some.place) keys c.in-Some.ensures.found in
    let less = slice_get_within c.self.inside.keys.items c.in-Some.place c.args.key.now there in
    let same = c.self.invariant.1 in
    let value : slice_get c.self.inside.known.items c.in-Some.place ≡ Some c.index.result.now =
    slice_get-get_or c.self.inside.known.items c.in-Some.place c.index.result.now (omega (arith, less, same)) ∙ ap Some (sym c.index.ensures) in
    c.as_ref.ensures.value
    ∙ (sym (held-at c.self.inside.keys.items c.self.inside.known.items c.self.inside.others c.in-Some.place c.args.key.now c.index.result.now c.self.invariant.0 there value
    (c.self.invariant.2 c.args.key.now (among-placed c.self.inside.keys.items c.in-Some.place c.args.key.now there)))
    ∙ ap (λ (es : List (Key × _)). value_for es c.args.key.now) c.self.view_is)

pub returns-in-None : goal.returns-in-None
returns-in-None c =
    let keys = c.deref.ensures.value ∙ ap (λ ks. ks.items) c.get.ensures in
    let out : among c.self.inside.keys.items c.args.key.now ≡ false = sym (ap (λ (ks : List Key). among ks c.args.key.now) keys) ∙ c.in-None.ensures.none in
    c.get-in-None.ensures
    ∙ (sym (held-out c.self.inside.keys.items c.self.inside.known.items c.self.inside.others c.args.key.now out) ∙ ap (λ (es : List (Key × _)). value_for es c.args.key.now) c.self.view_is)
