use Rattle.std.proofs.Common.{ap, ◌∙◌}
use Rattle.ug_adjout.specs.Stored.{adj_of, with_each_forced}
use Rattle.ug_adjout.proofs.Forced.{all_shown_keys, all_forced}
use Rattle.ug_adjout.proofs.table.Table.force_all.Goals as goal

pub force_each-requires : goal.force_each-requires
force_each-requires g c =
    rw (c.as_slice.ensures, c.in_ok-keys.ensures.keys) (all_shown_keys g.met.K.Ord.total g.met.K.OutKey.exact _ _ _ c.keys.ensures.stored)

pub returns : goal.returns
returns g c = record {
  ok = c.in_ok-force_each.ensures.ok ∙ ap (with_each_forced g.K.Ord.cmp (adj_of c.args.self.now.rows c.args.self.now.waiting)) (c.as_slice.ensures ∙ c.in_ok-keys.ensures.keys)
      ∙ all_forced g.met.K.Ord.total g.met.K.OutKey.exact _ _ _ c.keys.ensures.stored;
}
