-- Lists and maps by name, as plain data.
use Rattle.std.specs.Prelude.{List}
use Rattle.ug_policy.specs.Named.{NamedList}
use Rattle.ug_policy.specs.NamedMaps.{NamedMap}

pub record Tables : Type 0 where
  pub lists : List NamedList
  pub maps : List NamedMap
