-- Messages that announce or withdraw keys, and which of them fit a session.
use Rattle.std.specs.Prelude.{ℕ, Bool, List, [], Some, None, is_some, unwrap_or}
use Rattle.ug_types.specs.declared.capabilities.Capabilities.{Capabilities}
use Rattle.ug_types.specs.declared.key.Key.{Key}
use Rattle.ug_types.specs.Attributes.{Attributes}
use Rattle.ug_types.specs.Messages.{Message, Updates}
use Rattle.ug_message.specs.Texts.{written}

-- an UPDATE that announces these keys, which share these attributes (RFC 4271 section 4.3)
abbrev pub announcing : Attributes → List Key → Message
announcing a keys = Updates (record { withdrawn = []; attrs = Some a; announced = keys })

-- an UPDATE that withdraws these keys
abbrev pub withdrawing : List Key → Message
withdrawing keys = Updates (record { withdrawn = keys; attrs = None; announced = [] })

-- The message has a text in the session, which is within the limit.
unfoldable pub fits : Capabilities → Message → Bool
fits c m = is_some (written c m)

-- the text of a message that has one
unfoldable pub text_of : Capabilities → Message → List ℕ
text_of c m = unwrap_or (written c m) []
