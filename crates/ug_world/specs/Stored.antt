-- The paths of a row as they are stored.
use Rattle.std.specs.Prelude.{List, [], ◌∷◌}
use Rattle.ug_types.specs.declared.route.Path.{Path}
use Rattle.ug_world.specs.declared.best.Paths.{Paths}
use Rattle.ug_world.specs.declared.best.Paths.TheVariants.{One, Listed}

-- the best first
abbrev pub paths_in : Paths → List Path
paths_in (One path) = path ∷ []
paths_in (Listed paths) = paths.items
