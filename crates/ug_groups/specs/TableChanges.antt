-- What goes out of the paths of a prefix to the peers of a group key, and what subgroups make of it.
use Rattle.std.specs.Prelude.{◌≡◌, ℕ, ◌==◌, Bool, true, false, List, [], ◌∷◌, map, Option, Some, None, if◌then◌else◌}
use Rattle.std.specs.List.{AllByRecursion, filter, fold, flat_map, list_any}
use Rattle.std.specs.Option.{option_map}
use Rattle.std.specs.Map.{keys_of}
use Rattle.std.specs.BTreeMap.{insert_entry}
use Rattle.ug_types.specs.Ip.{IpPrefix, same_family}
use Rattle.ug_types.specs.declared.key.Key.{Key}
use Rattle.ug_types.specs.declared.route.Path.{Path}
use Rattle.ug_types.specs.declared.route.OutAttrs.{OutAttrs}
use Rattle.ug_outbound.specs.Outbound.{out}
use Rattle.ug_outbound.specs.declared.key.GroupKey.{GroupKey}
use Rattle.ug_events.specs.Events.{Happening, ComesUp, GoesDown, HasPaths, HasNone, HasPolicy, HasEntries, AsksAgain, SendsRequest, SendsList}
use Rattle.ug_world.specs.World.{Routes, World, paths_to}
use Rattle.ug_world.specs.Private.{keys_to}
use Rattle.ug_world.specs.Touches.{decides_for}
use Rattle.ug_adjout.specs.Tables.{has, value_at}
use Rattle.ug_adjout.specs.Pending.{IsExact}
use Rattle.ug_adjout.specs.Desiring.{AreForcedShown}
use Rattle.ug_pack.specs.Ready.{key_order}
use Rattle.ug_group_rules.specs.Packets.{same_out, wanted_rows}
use Rattle.ug_group_rules.specs.Machine.{Subgroup}
use Rattle.ug_group_rules.specs.Evaluations.{all_heeded}
use Rattle.ug_groups.specs.Standings.{desiring}
use Rattle.ug_groups.specs.Rows.{Row, Rows, row_at, HasRow, with_sub, with_row, each_row, of_key}
use Rattle.ug_groups.specs.declared.reach.Reach.{Reach}
use Rattle.ug_groups.specs.declared.reach.Reach.TheVariants.{One, Alike}

-- keys in key order, each with the value with which it is desired from now on, or with none
abbrev pub Changes : Type 0
Changes = List (Key × Option OutAttrs)

-- ---- of the paths of a prefix

-- a key under which a path to the prefix stands with ADD-PATH, where identifiers aren't 0
abbrev pub IsOwnKey : IpPrefix → Key → Type 0
IsOwnKey prefix q = (q.prefix ≡ prefix) × ((q.id == 0) ≡ false)

-- these keys are desired no more
abbrev pub clearing : List Key → Changes
clearing keys = fold (λ (changes : Changes) (q : Key). insert_entry key_order changes q None) [] keys

-- what goes out of each path under its own identifier (RFC 7911), of which the first path counts
abbrev pub with_each_path : GroupKey → World → IpPrefix → Changes → List Path → Changes
with_each_path group w prefix changes [] = changes
with_each_path group w prefix changes (p ∷ paths) =
    insert_entry key_order (with_each_path group w prefix changes paths) (record { prefix = prefix; id = p.id }) (out group w.tables w.local prefix p)

-- what goes out of the first path
abbrev pub of_first : GroupKey → World → IpPrefix → List Path → Option OutAttrs
of_first group w prefix [] = None
of_first group w prefix (p ∷ paths) = out group w.tables w.local prefix p

-- With ADD-PATH each path counts, and keys that were there before are cleared; else the first alone, under identifier 0.
abbrev pub changes_by : Bool → GroupKey → World → IpPrefix → List Key → List Path → Changes
changes_by false group w prefix before paths = (record { prefix = prefix; id = 0 }, of_first group w prefix paths) ∷ []
changes_by true group w prefix before paths = with_each_path group w prefix (clearing before) paths

-- A prefix of another family than the key's changes nothing.
abbrev pub changes_to : World → IpPrefix → List Key → List Path → GroupKey → Changes
changes_to w prefix before paths group = if same_family group.family prefix.family then changes_by group.add_path group w prefix before paths else []

-- those of all these prefixes
abbrev pub changes_of : World → Routes → GroupKey → Changes
changes_of w routes group = flat_map (λ (r : IpPrefix × List Path). changes_to w r.0 [] r.1 group) routes

-- ---- of the paths that an event touches

-- the keys that there were, where a group key has ADD-PATH
abbrev pub some_add_path : List GroupKey → Bool
some_add_path keys = list_any (λ (key : GroupKey). key.add_path) keys

abbrev pub keys_before : Bool → World → IpPrefix → List Key
keys_before false w prefix = []
keys_before true w prefix = keys_to true prefix (paths_to w.routes prefix)

-- no identifier of these paths is 0
abbrev pub AreNumbered : List Path → Type 0
AreNumbered paths = AllByRecursion (λ (p : Path). (p.id == 0) ≡ false) paths

-- ---- in subgroups

-- the keys are desired so, one after the other
abbrev pub with_changes : Changes → Subgroup → Subgroup
with_changes [] x = x
with_changes (c ∷ changes) x = with_changes changes (desiring c.0 c.1 x)

-- the key of a row
abbrev pub key_at : ℕ → Rows → Option GroupKey
key_at g rows = option_map (λ (r : Row). r.sub.key) (row_at g rows)

-- the row of that number is there, and it is so of its key
pub record HasKey (g : ℕ) (rows : Rows) (P : GroupKey → Type 0) : Type 0 where
  pub key : GroupKey
  pub is : key_at g rows ≡ Some key
  pub so : P key

abbrev pub number_of : Reach → ℕ
number_of (One g) = g
number_of (Alike g) = g

-- one row is changed, or all that have its key
abbrev pub reached : Reach → GroupKey → (Subgroup → Subgroup) → Rows → Rows
reached (One g) key change rows = with_row g (with_sub change) rows
reached (Alike g) key change rows = each_row (of_key key change) rows

-- the rows of each of these keys are changed
abbrev pub by_keys : (GroupKey → Subgroup → Subgroup) → List GroupKey → Rows → Rows
by_keys change [] rows = rows
by_keys change (key ∷ keys) rows = by_keys change keys (each_row (of_key key (change key)) rows)

-- the numbers of rows of these keys
abbrev pub HaveKeys : List ℕ → Rows → List GroupKey → Type 0
HaveKeys gs rows keys = map (λ (g : ℕ). key_at g rows) gs ≡ map (λ (key : GroupKey). Some key) keys

pub record AreKeys (gs : List ℕ) (rows : Rows) : Type 0 where
  pub keys : List GroupKey
  pub are : HaveKeys gs rows keys

-- those of them that a prefix list decides for
abbrev pub keys_decided : World → List ℕ → List GroupKey → List GroupKey
keys_decided w name keys = filter (λ (key : GroupKey). decides_for w.tables key name) keys

-- each row is changed as its key says
abbrev pub each_by_key : (GroupKey → Subgroup → Subgroup) → Rows → Rows
each_by_key change rows = each_row (λ (r : Row). with_sub (change r.sub.key) r) rows

-- the event tells the paths of that prefix, or that it has none
abbrev pub IsUnder : IpPrefix → Happening → Type 0
IsUnder prefix (HasPaths q paths) = q ≡ prefix
IsUnder prefix (HasNone q) = q ≡ prefix
IsUnder prefix (ComesUp name) = ⊥
IsUnder prefix (GoesDown name) = ⊥
IsUnder prefix (HasPolicy name policy) = ⊥
IsUnder prefix (HasEntries name entries) = ⊥
IsUnder prefix (AsksAgain name) = ⊥
IsUnder prefix (SendsRequest name) = ⊥
IsUnder prefix (SendsList name request) = ⊥

-- the event is of a peer
abbrev pub IsOfPeer : Happening → Type 0
IsOfPeer (ComesUp name) = Unit {0}
IsOfPeer (GoesDown name) = Unit {0}
IsOfPeer (HasPolicy name policy) = Unit {0}
IsOfPeer (AsksAgain name) = Unit {0}
IsOfPeer (SendsRequest name) = Unit {0}
IsOfPeer (SendsList name request) = Unit {0}
IsOfPeer (HasPaths prefix paths) = ⊥
IsOfPeer (HasNone prefix) = ⊥
IsOfPeer (HasEntries name entries) = ⊥

-- it replaces the entries of the prefix list of that name
abbrev pub IsList : List ℕ → Happening → Type 0
IsList list (HasEntries name entries) = name ≡ list
IsList list (HasPaths prefix paths) = ⊥
IsList list (HasNone prefix) = ⊥
IsList list (ComesUp name) = ⊥
IsList list (GoesDown name) = ⊥
IsList list (HasPolicy name policy) = ⊥
IsList list (AsksAgain name) = ⊥
IsList list (SendsRequest name) = ⊥
IsList list (SendsList name request) = ⊥

-- ---- one subgroup anew

-- It can be given what its key should have by going over the paths of the world: it desires nothing beside their keys.
pub record IsFillable (w : World) (x : Subgroup) : Type 0 where
  pub exact : IsExact key_order same_out x.out
  pub shown : AreForcedShown key_order x.out
  pub within : (q : Key) → has key_order (keys_of (changes_of w w.routes x.key)) q ≡ false → value_at key_order x.out.desired q ≡ None

-- the row of that number has the key, and desires what it should have
abbrev pub HasTableOf : World → GroupKey → ℕ → Rows → Type 0
HasTableOf w key g rows = HasRow g rows (λ s. (s.sub.key ≡ key) × (s.sub.out.desired ≡ wanted_rows key w))

-- how often a key is asked where another row has its table, or none
abbrev pub asked_beside : Option ℕ → World → GroupKey → ℕ
asked_beside (Some from) w key = 0
asked_beside None w key = all_heeded key.add_path w.routes
