use Rattle.std.proofs.Common.{rules, ◌≡◌, None, sym, ap, ◌∙◌}
use Rattle.std.specs.BTreeMap.Entry.{entry_map_ref, map_without_entry}
use Rattle.ug_adjout.specs.Tables.{value_at}
use Rattle.ug_adjout.specs.TableLaws.{with_value-same}
use Rattle.ug_adjout.proofs.stepping.enter.Goals as goal

pub returns-in-Err-clause-err_index : goal.returns-in-Err-clause-err_index
returns-in-Err-clause-err_index g c =
    let none : value_at g.K.Ord.cmp c.args.index.now.entries c.args.key ≡ None = rw c.in-Vacant.is at c.in_ok-entry.ensures.found in
    let same = c.insert_entry-entry.ensures.0 ∙ ap (λ e. (entry_map_ref e).ghost_name) (sym c.in-Vacant.is) ∙ c.in_ok-entry.ensures.same_map in
    let back = c.remove.ensures.removed
    ∙ c.insert_entry-entry.ensures.5
    ∙ ap (λ e. (map_without_entry e).entries) (sym c.in-Vacant.is)
    ∙ c.in_ok-entry.ensures.removal.1
    ∙ with_value-same g.met.K.Ord.total g.met.K.OutKey.exact c.args.index.now.entries c.args.key None c.in_ok-entry.ensures.ordered none in
    search (rules, same, back)
