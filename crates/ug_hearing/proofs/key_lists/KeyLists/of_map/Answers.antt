use Rattle.std.proofs.Common.{◌≡◌, List, [], ◌∷◌, ◌++◌, length, sym, ◌∙◌, ap, subst, rules, arith, length-append}
use Rattle.std.specs.Map.{keys_of}
use Rattle.std.specs.List.Sorted.{IsStrictlySortedBy}
use Rattle.std.proofs.lemmas.List.{append-nil}
use Rattle.ug_types.specs.declared.key.Key.{Key}
use Rattle.ug_types.specs.Orders.{key_cmp}
use Rattle.ug_hearing.specs.Keyed.{pairs_of}
use Rattle.ug_hearing.specs.Lists.{listed}
use Rattle.ug_hearing.proofs.Paired.{keys-paired, paired-last}
use Rattle.ug_hearing.proofs.key_lists.KeyLists.of_map.Goals as goal

pub loop-key-preserved : goal.loop-key-preserved
loop-key-preserved g c =
    let h = c.loop-key.invariant in
    let is : c.loop-key.key-iterator ≡ (c.in-Some.key, c.in-Some.list) ∷ c.next.new.self = search rules in
    let rest = listed c.next.new.self in
    let list = c.in-Some.list.items in
    let keys = c.in_ok-push.ensures.items in
    let lists = c.in_ok-add.ensures.added in
    record {
      parts =
          ap (λ (ks : List Key). pairs_of ks c.add.new.self ++ rest) keys
          ∙ (ap (λ (ls : List (List _)). pairs_of (c.loop-key.keys.items ++ c.in-Some.key ∷ []) ls ++ rest) lists
          ∙ (paired-last c.loop-key.keys.items c.loop-key.lists c.in-Some.key list rest h.lengths
          ∙ (ap (λ (es : List (Key × _)). pairs_of c.loop-key.keys.items c.loop-key.lists ++ listed es) (sym is) ∙ h.parts)));
      lengths = search (rules, keys, lists, h.lengths, length-append, arith);
    }

pub invariant_of-result : goal.invariant_of-result
invariant_of-result g c =
    let h = c.loop-key.invariant in
    let none : c.loop-key.key-iterator ≡ [] = search rules in
    let all : pairs_of c.loop-key.keys.items c.loop-key.lists ≡ c.args.map =
    sym (append-nil (pairs_of c.loop-key.keys.items c.loop-key.lists)) ∙ (ap (λ (es : List (Key × _)). pairs_of c.loop-key.keys.items c.loop-key.lists ++ listed es) (sym none) ∙ h.parts) in
    let keys : c.loop-key.keys.items ≡ keys_of c.args.map = sym (keys-paired c.loop-key.keys.items c.loop-key.lists h.lengths) ∙ ap (λ (es : List (Key × _)). keys_of es) all in
    let same : c.in_ok-keys-2.keys.items ≡ c.loop-key.keys.items = ap (λ ks. ks.items) c.in_ok-keys-2.ensures in (
      subst (λ (ks : List Key). IsStrictlySortedBy key_cmp ks) (sym (same ∙ keys)) c.len-count.ensures.ascending,
      h.lengths ∙ ap (λ (ks : List Key). length ks) (sym same),
    )
