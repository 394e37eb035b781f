use Rattle.std.proofs.Common.{is_some, true, Some, sym, ap, subst, ◌∙◌}
use Rattle.std.specs.BTreeMap.{insert_entry}
use Rattle.std.specs.Cmp.{nat_cmp_total}
use Rattle.std.specs.FinMap.{nat_cmp-IsAntisymmetric}
use Rattle.ug_adjout.specs.TableLaws.{with_value-same}
use Rattle.ug_adjout.specs.Stored.{IsStored, adj_of, with_change}
use Rattle.ug_adjout.proofs.Forced.{no_row, force_idle, force_waiting}
use Rattle.ug_adjout.proofs.table.Table.force.Goals as goal

pub unreachable-requires : goal.unreachable-requires
unreachable-requires g c =
    let s = subst (λ v. IsStored g.K.Ord.cmp v.rows v.waiting v.next) c.self.view_is c.self.invariant in
    no_row g.met.K.Ord.total g.met.K.OutKey.exact _ _ _ s c.args.key c.requires.shown (sym c.row.ensures ∙ c.in_default.is)

pub returns-in_ok-begin-in-None : goal.returns-in_ok-begin-in-None
returns-in_ok-begin-in-None g c =
    let s = subst (λ v. IsStored g.K.Ord.cmp v.rows v.waiting v.next) c.self.view_is c.self.invariant in
    record {
      ok = rw (c.in_ok-begin-in-None.ensures.rows, c.in_ok-begin-in-None.ensures.waiting)
          (force_idle g.met.K.Ord.total g.met.K.OutKey.exact _ _ _ s c.args.key c.in-Some.row (sym c.in-Some.ensures) c.in-None.is);
    }

pub begin-requires-clause-there : goal.begin-requires-clause-there
begin-requires-clause-there g c = ap is_some (sym c.in-Some.ensures)

pub returns-in-Some-change : goal.returns-in-Some-change
returns-in-Some-change g c =
    let s = subst (λ v. IsStored g.K.Ord.cmp v.rows v.waiting v.next) c.self.view_is c.self.invariant in
    let row = sym c.in-Some.ensures in
    record {
      ok = rw (c.keep.ensures.rows, c.keep.ensures.waiting)
          (ap
          (adj_of
          (insert_entry g.K.Ord.cmp c.args.self.now.rows c.args.key
          (with_change (record { formatted = c.in-Some.row.formatted; forced = true; change = c.in-Some.row.change }) c.in-Some-change.change.place c.in-Some-change.change.desired)))
          (sym (with_value-same nat_cmp_total nat_cmp-IsAntisymmetric _ c.in-Some-change.change.place (Some _) s.in_line (s.listed c.args.key c.in-Some.row c.in-Some-change.change row c.in-Some-change.is)))
          ∙ force_waiting g.met.K.Ord.total g.met.K.OutKey.exact _ _ _ s c.args.key c.in-Some.row c.in-Some-change.change row c.in-Some-change.is);
    }
