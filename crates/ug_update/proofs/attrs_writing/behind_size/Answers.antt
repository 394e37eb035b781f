use Rattle.std.proofs.Common.{arith}
use Rattle.ug_types.specs.Attributes.{attributes_of}
use Rattle.ug_update.proofs.Sizes.{behind_fits}
use Rattle.ug_update.proofs.attrs_writing.behind_size.Goals as goal

pub size-requires-clause-fits : goal.size-requires-clause-fits
size-requires-clause-fits c = omega (arith, behind_fits (attributes_of c.args.parts.now) c.requires)

pub returns-clause-small : goal.returns-clause-small
returns-clause-small c = omega (arith, c.size.ensures, behind_fits (attributes_of c.args.parts.now) c.requires)
