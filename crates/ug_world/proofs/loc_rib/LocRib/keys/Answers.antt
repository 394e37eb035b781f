use Rattle.std.proofs.Common.{◌≡◌, ◌++◌, List, ap, ◌∙◌}
use Rattle.ug_types.specs.declared.key.Key.{Key}
use Rattle.ug_world.specs.Private.{keys_of}
use Rattle.ug_world.proofs.Families.{all_rows}
use Rattle.ug_world.proofs.loc_rib.LocRib.keys.Goals as goal

pub loop-prefix-init : goal.loop-prefix-init
loop-prefix-init c =
    let rows : c.into_iter-prefix-iterator.result ≡ c.args.self.now =
    c.into_iter-prefix-iterator.ensures.into_iter_gives ∙ c.rows_behind-prefix-items.ensures.rows ∙ all_rows c.self.inside.rows ∙ c.self.view_is in
    ap (λ (keys : List Key). keys ++ keys_of c.args.add_path c.into_iter-prefix-iterator.result) c.new-keys.ensures.items ∙ ap (keys_of c.args.add_path) rows
