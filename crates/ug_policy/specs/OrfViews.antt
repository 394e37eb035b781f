-- What the code's values say, without where they lie in memory.
use Rattle.std.specs.Prelude.{◌≡◌, ℕ, true, List, Result, Err}
use Rattle.std.specs.List.{list_all}
use Rattle.ug_policy.specs.declared.list_entry.ListEntry.{ListEntry}
use Rattle.ug_policy.specs.Lists.{is_good}
use Rattle.ug_policy.specs.declared.orf_message.OrfMessage.{OrfMessage}
use Rattle.ug_policy.specs.declared.orf_refusal.OrfRefusal.{OrfRefusal}
use Rattle.ug_policy.specs.declared.orf_refusal.OrfRefusal.TheVariants as refusals
use Rattle.ug_policy.specs.OrfChanges.{OrfChange, OrfRequest, is_change}

abbrev pub orf_seen : OrfMessage → OrfRequest
orf_seen m = record { now = m.now; entries = m.entries.items }

-- Out of memory says nothing of the bytes.
abbrev pub IsRefusedBy : {A : Type 0} → OrfRefusal → Result A ℕ → Type 0
IsRefusedBy refusals.NoMemory read = Unit {0}
IsRefusedBy (refusals.Refused number) read = read ≡ Err number

-- each entry that is added is good
abbrev pub AreChanges : List OrfChange → Type 0
AreChanges changes = list_all (λ c. is_change c.action c.entry) changes ≡ true

abbrev pub AreGood : List ListEntry → Type 0
AreGood entries = list_all is_good entries ≡ true
