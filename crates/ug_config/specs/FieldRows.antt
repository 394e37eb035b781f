-- A field that a table may have.
use Rattle.std.specs.Prelude.{ℕ, List}
use Rattle.ug_config.specs.declared.kind.Kind.{Kind}
use Rattle.ug_config.specs.declared.kind.Need.{Need}

-- its name, what its value has to be, and whether it has to be there
pub record FieldRow : Type 0 where
  pub name : List ℕ
  pub kind : Kind
  pub need : Need
