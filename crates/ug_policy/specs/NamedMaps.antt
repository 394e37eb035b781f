-- Route maps by name.
use Rattle.std.specs.Prelude.{List}
use Rattle.ug_types.specs.declared.named.Named.{Named}
use Rattle.ug_policy.specs.Rules.{MapRule}

-- a route map and its name
abbrev pub NamedMap : Type 0
NamedMap = Named (List MapRule)
