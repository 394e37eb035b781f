use Rattle.std.proofs.Common.{◌≡◌, true, List, ◌++◌, sym, ◌∙◌, ap, subst}
use Rattle.std.specs.Prelude.{is_some}
use Rattle.std.specs.Map.{keys_of}
use Rattle.std.specs.List.Sorted.{IsStrictlySortedBy}
use Rattle.std.proofs.lemmas.List.{append-nil}
use Rattle.ug_types.specs.declared.key.Key.{Key}
use Rattle.ug_types.specs.Orders.{key_cmp}
use Rattle.ug_message.specs.Tables.{among}
use Rattle.ug_hearing.specs.declared.row.Row.{Row}
use Rattle.ug_hearing.specs.Keyed.{value_for}
use Rattle.ug_hearing.proofs.Held.{held-among, empty, if-ok-map}
use Rattle.ug_hearing.proofs.rows.Rows.keys.Goals as goal

pub returns-then-len-eq0-clause-named : goal.returns-then-len-eq0-clause-named
returns-then-len-eq0-clause-named c =
    let own = c.self.inside.keys.items in
    let none = empty c.self.inside.others (sym c.len.ensures.len ∙ c.if-len-eq0.true) in
    let all : own ++ keys_of c.self.inside.others ≡ own = ap (λ (es : List (Key × Row)). own ++ keys_of es) none ∙ append-nil own in
    if-ok-map c.share.result (λ s. s ≡ c.self.inside.keys) (λ s. (q : Key) → is_some (value_for c.args.self.now q) ≡ true → among s.items q ≡ true)
    (λ s same q some. ap (λ v. among v.items q) same
    ∙ (sym (ap (λ (ks : List Key). among ks q) all)
    ∙ held-among own c.self.inside.known.items c.self.inside.others q (ap (λ (es : List (Key × Row)). is_some (value_for es q)) c.self.view_is ∙ some)))
    c.share.ensures

pub returns-then-len-eq0-clause-ascending : goal.returns-then-len-eq0-clause-ascending
returns-then-len-eq0-clause-ascending c =
    if-ok-map c.share.result (λ s. s ≡ c.self.inside.keys) (λ s. IsStrictlySortedBy key_cmp s.items)
    (λ s same. subst (λ v. IsStrictlySortedBy key_cmp v.items) (sym same) c.self.invariant.0) c.share.ensures

pub returns-clause-named : goal.returns-clause-named
returns-clause-named c =
    let keys = c.deref.ensures.value ∙ ap (λ ks. ks.items) c.get.ensures in
    if-ok-map c.new.result (λ s. s ≡ c.in_ok-keys.keys) (λ s. (q : Key) → is_some (value_for c.args.self.now q) ≡ true → among s.items q ≡ true)
    (λ s same q some. ap (λ v. among v.items q) same
    ∙ (c.in_ok-keys.ensures.named q
    ∙ (ap (λ (ks : List Key). among (ks ++ keys_of c.self.inside.others) q) keys
    ∙ held-among c.self.inside.keys.items c.self.inside.known.items c.self.inside.others q (ap (λ (es : List (Key × Row)). is_some (value_for es q)) c.self.view_is ∙ some))))
    c.new.ensures

pub returns-clause-ascending : goal.returns-clause-ascending
returns-clause-ascending c =
    if-ok-map c.new.result (λ s. s ≡ c.in_ok-keys.keys) (λ s. IsStrictlySortedBy key_cmp s.items)
    (λ s same. subst (λ v. IsStrictlySortedBy key_cmp v.items) (sym same) c.in_ok-keys.ensures.ascending) c.new.ensures
