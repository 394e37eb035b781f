-- What follows from the capabilities of a session.
use Rattle.std.specs.Prelude.{ℕ, if◌then◌else◌}
use Rattle.ug_types.specs.declared.capabilities.Capabilities.{Capabilities}

-- the longest message (RFC 4271 section 4.1, RFC 8654)
abbrev pub message_limit : Capabilities → ℕ
message_limit c = if c.extended then 65535 else 4096
