use Rattle.std.proofs.Common.{List, sym, ◌∙◌, ap, subst}
use Rattle.std.specs.Prelude.{IfSome}
use Rattle.std.specs.Map.{keys_of}
use Rattle.ug_types.specs.declared.key.Key.{Key}
use Rattle.ug_message.specs.Tables.{among}
use Rattle.ug_hearing.specs.Keyed.{IsPlaceOf}
use Rattle.ug_hearing.proofs.Paired.{keys-paired, absent-paired, none_map}
use Rattle.ug_hearing.proofs.key_lists.KeyLists.place.Goals as goal

pub returns-clause-found : goal.returns-clause-found
returns-clause-found g c =
    let keys = c.deref.ensures.value ∙ (ap (λ ks. ks.items) c.get.ensures ∙ (sym (keys-paired c.self.inside.keys.items c.self.inside.lists c.self.invariant.1) ∙ ap (λ (es : List (Key × _)). keys_of es) c.self.view_is)) in
    subst (λ (ks : List Key). IfSome c.place_among.result (IsPlaceOf c.args.key.now ks)) keys c.place_among.ensures.found

pub returns-clause-none : goal.returns-clause-none
returns-clause-none g c =
    let keys = c.deref.ensures.value ∙ (ap (λ ks. ks.items) c.get.ensures ∙ (sym (keys-paired c.self.inside.keys.items c.self.inside.lists c.self.invariant.1) ∙ ap (λ (es : List (Key × _)). keys_of es) c.self.view_is)) in
    none_map c.place_among.result (λ none. absent-paired c.args.self.now c.args.key.now (ap (λ (ks : List Key). among ks c.args.key.now) (sym keys) ∙ none)) c.place_among.ensures.none
