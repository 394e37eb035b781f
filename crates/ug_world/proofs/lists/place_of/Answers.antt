use Rattle.std.proofs.Common.{ap, sym, ◌∙◌}
use Rattle.ug_types.specs.Bytes.{same_bytes}
use Rattle.ug_policy.specs.Named.{NamedList}
use Rattle.ug_world.proofs.Changing.{index_any}
use Rattle.ug_world.proofs.lists.place_of.Goals as goal

pub returns-then-eq : goal.returns-then-eq
returns-then-eq c = record {
  inside = c.loop-place-test.true;
  named = λ l.
      ap (λ (m : NamedList). same_bytes m.name c.args.name.now) (index_any c.args.lists.now c.loop-place.place l c.index-lists-place.result c.loop-place-test.true)
      ∙ sym c.eq.ensures ∙ c.if-eq.true;
}
