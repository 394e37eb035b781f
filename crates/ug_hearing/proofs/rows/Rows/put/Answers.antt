use Rattle.std.proofs.Common.{◌≡◌, false, List, Some, sym, ◌∙◌, ap, subst}
use Rattle.std.specs.Prelude.{if◌then◌else◌}
use Rattle.ug_types.specs.declared.key.Key.{Key}
use Rattle.ug_types.specs.Keys.{same_key}
use Rattle.ug_message.specs.Tables.{among}
use Rattle.ug_hearing.specs.Keyed.{value_for, HasNoneOf, IsPlaceOf}
use Rattle.ug_hearing.proofs.Held.{held-put, other-put, still-apart, by_result, ok_map}
use Rattle.ug_hearing.proofs.rows.Rows.put.Goals as goal

pub invariant_of-self-in-None : goal.invariant_of-self-in-None
invariant_of-self-in-None c =
    let keys = c.deref.ensures.value ∙ ap (λ ks. ks.items) c.get.ensures in
    let out : among c.self.inside.keys.items c.args.key ≡ false = sym (ap (λ (ks : List Key). among ks c.args.key) keys) ∙ c.in-None.ensures.none in (
      c.self.invariant.0,
      c.self.invariant.1,
      by_result c.put.result c.put.ensures.ok c.put.ensures.err (λ h. still-apart c.self.inside.keys.items c.self.inside.others c.put.new.self c.args.key c.args.row out c.self.invariant.2 h)
          (λ same. subst (λ (es : List (Key × _)). HasNoneOf c.self.inside.keys.items es) (sym same) c.self.invariant.2),
    )

pub returns-in-Some-clause-ok : goal.returns-in-Some-clause-ok
returns-in-Some-clause-ok c = λ q.
    let keys = c.deref.ensures.value ∙ ap (λ ks. ks.items) c.get.ensures in
    let there = subst (λ (ks : List Key). IsPlaceOf c.args.key ks c.in-Some.place) keys c.in-Some.ensures.found in
    held-put c.self.inside.keys.items c.self.inside.known.items c.self.inside.others c.in-Some.place c.args.key c.args.row c.self.invariant.0 c.self.invariant.1 there q
    ∙ ap (λ (es : List (Key × _)). if same_key c.args.key q then Some c.args.row else value_for es q) c.self.view_is

pub returns-in-None-clause-ok : goal.returns-in-None-clause-ok
returns-in-None-clause-ok c =
    let keys = c.deref.ensures.value ∙ ap (λ ks. ks.items) c.get.ensures in
    let out : among c.self.inside.keys.items c.args.key ≡ false = sym (ap (λ (ks : List Key). among ks c.args.key) keys) ∙ c.in-None.ensures.none in
    ok_map c.put.result
    (λ h q. other-put c.self.inside.keys.items c.self.inside.known.items c.self.inside.others c.put.new.self c.args.key c.args.row out h q
    ∙ ap (λ (es : List (Key × _)). if same_key c.args.key q then Some c.args.row else value_for es q) c.self.view_is)
    c.put.ensures.ok
