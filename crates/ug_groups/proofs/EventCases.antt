-- What is so of each event about a prefix, or about a list, is so of one that is.
use Rattle.std.proofs.Common.{◌≡◌, ℕ, List, sym, subst}
use Rattle.ug_types.specs.Ip.{IpPrefix}
use Rattle.ug_policy.specs.declared.list_entry.ListEntry.{ListEntry}
use Rattle.ug_events.specs.Events.{GivenPath, Happening, ComesUp, GoesDown, HasPaths, HasNone, HasPolicy, HasEntries, AsksAgain, SendsRequest, SendsList}
use Rattle.ug_groups.specs.TableChanges.{IsList, IsUnder}

pub by-prefix : (P : Happening → Type 0) (prefix : IpPrefix) (e : Happening) → IsUnder prefix e → ((paths : List GivenPath) → P (HasPaths prefix paths)) → P (HasNone prefix) → P e
by-prefix P prefix (HasPaths q paths) about told none = subst (λ (p : IpPrefix). P (HasPaths p paths)) (sym about) (told paths)
by-prefix P prefix (HasNone q) about told none = subst (λ (p : IpPrefix). P (HasNone p)) (sym about) none
by-prefix P prefix (ComesUp name) about told none = absurd about
by-prefix P prefix (GoesDown name) about told none = absurd about
by-prefix P prefix (HasPolicy name policy) about told none = absurd about
by-prefix P prefix (HasEntries name entries) about told none = absurd about
by-prefix P prefix (AsksAgain name) about told none = absurd about
by-prefix P prefix (SendsRequest name) about told none = absurd about
by-prefix P prefix (SendsList name request) about told none = absurd about

pub by-list : (P : Happening → Type 0) (list : List ℕ) (e : Happening) → IsList list e → ((entries : List ListEntry) → P (HasEntries list entries)) → P e
by-list P list (HasEntries name entries) about replaced = subst (λ (n : List ℕ). P (HasEntries n entries)) (sym about) (replaced entries)
by-list P list (HasPaths prefix paths) about replaced = absurd about
by-list P list (HasNone prefix) about replaced = absurd about
by-list P list (ComesUp name) about replaced = absurd about
by-list P list (GoesDown name) about replaced = absurd about
by-list P list (HasPolicy name policy) about replaced = absurd about
by-list P list (AsksAgain name) about replaced = absurd about
by-list P list (SendsRequest name) about replaced = absurd about
by-list P list (SendsList name request) about replaced = absurd about
