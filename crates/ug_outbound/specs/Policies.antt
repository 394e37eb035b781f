-- Policies by name.
use Rattle.ug_types.specs.declared.named.Named.{Named}
use Rattle.ug_outbound.specs.declared.policy.Policy.{Policy}

-- a policy and its name
abbrev pub NamedPolicy : Type 0
NamedPolicy = Named Policy
