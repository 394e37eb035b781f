use Rattle.std.proofs.Common.{◌≡◌, ◌+◌, ℕ, List, [], ◌∷◌, ◌++◌, take, Option, sym, ◌∙◌, ap, subst}
use Rattle.std.proofs.lemmas.List.{take_more}
use Rattle.ug_types.specs.declared.key.Key.{Key}
use Rattle.ug_types.specs.declared.route.OutAttrs.{OutAttrs}
use Rattle.ug_message.specs.Tables.{among}
use Rattle.ug_outbound.specs.declared.key.GroupKey.{GroupKey}
use Rattle.ug_world.specs.Private.{wanted}
use Rattle.ug_audit_rules.specs.GroupLogs.{IsSet, AddsWhere, changes_in}
use Rattle.ug_audit_rules.proofs.GroupNotes.{noted-one}
use Rattle.ug_audit_rules.proofs.group.Group.note_keys.Goals as goal

pub loop-key-preserved : goal.loop-key-preserved
loop-key-preserved g c =
    let w = c.args.world.now in
    let keys = c.args.keys.now in
    let key = c.args.self.now.key in
    let k = c.key-item.result in
    let i = c.loop-key.key-index in
    let old = c.args.self.now.log.changes in
    let now = c.loop-key.self.log.changes in
    let new = c.note.new.self.changes in
    let all = take_more keys i k c.loop-key-test.true in
    let front : take (i + 1) keys ≡ take i keys ++ k ∷ [] = all ∙ ap (λ (x : Key). take i keys ++ x ∷ []) (sym c.key-item.is) in
    let set =
    subst (λ (n : ℕ). IsSet n k (wanted key w k) now new) c.version-version.ensures
    (subst (λ (v : Option OutAttrs). IsSet c.version-version.result k v now new) (c.in_ok-value.ensures ∙ ap (λ (x : GroupKey). wanted x w k) c.loop-key.invariant.key) c.in_ok-note.ensures)
    in
    record {
      key = c.loop-key.invariant.key;
      start = c.loop-key.invariant.start;
      noted = λ q.
          subst (λ (ks : List Key). AddsWhere (among ks q) w.version (wanted key w q) (changes_in old q) (changes_in new q)) (sym front)
          (noted-one (take i keys) k w.version (λ y. wanted key w y) old now new c.loop-key.invariant.noted set q);
    }
