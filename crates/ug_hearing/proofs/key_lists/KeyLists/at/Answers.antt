use Rattle.std.proofs.Common.{◌≡◌, List, length, slice_get, Some, sym, ◌∙◌, ap, subst, arith}
use Rattle.std.proofs.lemmas.Option.{slice_get-get_or}
use Rattle.ug_types.specs.declared.key.Key.{Key}
use Rattle.ug_hearing.proofs.Paired.{length-paired, pair-at}
use Rattle.ug_hearing.proofs.key_lists.KeyLists.at.Goals as goal

pub index-requires : goal.index-requires
index-requires g c =
    let pairs = length-paired c.self.inside.keys.items c.self.inside.lists c.self.invariant.1 in
    let all = ap (λ (es : List (Key × _)). length es) c.self.view_is in
    let same = c.self.invariant.1 in
    let less = c.requires in
    rw c.get-keys.ensures (omega (arith, pairs, all, same, less))

pub at-requires : goal.at-requires
at-requires g c =
    let pairs = length-paired c.self.inside.keys.items c.self.inside.lists c.self.invariant.1 in
    let all = ap (λ (es : List (Key × _)). length es) c.self.view_is in
    let less = c.requires in
    omega (arith, pairs, all, less)

pub returns : goal.returns
returns g c =
    let pairs = length-paired c.self.inside.keys.items c.self.inside.lists c.self.invariant.1 in
    let all = ap (λ (es : List (Key × _)). length es) c.self.view_is in
    let same = c.self.invariant.1 in
    let less = c.requires in
    let key : slice_get c.get-keys.result.now.items c.args.place ≡ Some c.index.result.now =
    slice_get-get_or c.get-keys.result.now.items c.args.place c.index.result.now (rw c.get-keys.ensures (omega (arith, pairs, all, same, less))) ∙ ap Some (sym c.index.ensures) in
    ap (λ (es : List (Key × _)). slice_get es c.args.place) (sym c.self.view_is)
    ∙ pair-at c.self.inside.keys.items c.self.inside.lists c.args.place c.index.result.now c.at.result.now (subst (λ ks. slice_get ks.items c.args.place ≡ Some c.index.result.now) c.get-keys.ensures key) c.at.ensures
