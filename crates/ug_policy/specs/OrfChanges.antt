-- What an ORF message says, as plain data (RFC 5291, RFC 5292).
use Rattle.std.specs.Prelude.{◌≡◌, Bool, true, false, List, Option, Some, None}
use Rattle.ug_policy.specs.declared.list_entry.ListEntry.{ListEntry}
use Rattle.ug_policy.specs.Lists.{is_good}
use Rattle.ug_policy.specs.declared.orf_action.Action.{Action}
use Rattle.ug_policy.specs.declared.orf_action.Action.TheVariants.{Add, Remove, RemoveAll}

-- one entry of a message: what is to be done, the match bit, and the entry that it is about
pub record OrfChange : Type 0 where
  pub action : Action
  pub permit : Bool
  pub entry : Option ListEntry

-- all entries of a message, and whether the routes are asked for at once
pub record OrfRequest : Type 0 where
  pub now : Bool
  pub entries : List OrfChange

-- An entry is there but where all go, and one that is added is good.
abbrev pub is_change : Action → Option ListEntry → Bool
is_change Add (Some e) = is_good e
is_change Remove (Some e) = true
is_change RemoveAll None = true
is_change Add None = false
is_change Remove None = false
is_change RemoveAll (Some e) = false

abbrev pub IsChange : OrfChange → Type 0
IsChange c = is_change c.action c.entry ≡ true
