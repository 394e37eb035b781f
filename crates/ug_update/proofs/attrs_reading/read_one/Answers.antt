use Rattle.std.proofs.Common.{List, ℕ, sym, ap, ◌∙◌}
use Rattle.ug_message.specs.Attribute.{attribute_at}
use Rattle.ug_update.specs.AttrsViews.{standing}
use Rattle.ug_update.proofs.ValueParts.{stands}
use Rattle.ug_update.proofs.attrs_reading.read_one.Goals as goal

pub read_attribute-requires-clause-stands : goal.read_attribute-requires-clause-stands
read_attribute-requires-clause-stands c =
    stands c.args.place c.args.all.now (standing c.in_ok-attribute.attribute)
    (ap (λ (b : List ℕ). attribute_at c.args.place b) (sym c.split_at.ensures.back) ∙ c.in_ok-attribute.ensures.exact)
