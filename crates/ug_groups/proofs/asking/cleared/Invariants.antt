use Rattle.std.proofs.Common.{◌≡◌, None, drop}
use Rattle.std.specs.List.{fold}
use Rattle.std.specs.BTreeMap.{insert_entry}
use Rattle.ug_types.specs.declared.key.Key.{Key}
use Rattle.ug_pack.specs.Ready.{key_order}
use Rattle.ug_groups.specs.TableChanges.{Changes, clearing}
use Rattle.ug_groups.proofs.asking.cleared.Given as goal

-- those so far with those that are left
abbrev pub invariant-loop-key : goal.invariant-loop-key
invariant-loop-key l = fold (λ (changes : Changes) (q : Key). insert_entry key_order changes q None) l.changes.entries (drop l.key-index l.keys) ≡ clearing l.keys
