-- What a subgroup keeps beside its queue, and the subgroup of the machine's definitions that it is.
use Rattle.std.specs.Prelude.{◌≡◌, ℕ, nat_eq, Bool, true, false, List, ◌||◌, Option, Some, is_some, IsSome, if◌then◌else◌}
use Rattle.ug_types.specs.declared.family.Family.{Family}
use Rattle.ug_types.specs.declared.key.Key.{Key}
use Rattle.ug_types.specs.declared.route.OutAttrs.{OutAttrs}
use Rattle.ug_outbound.specs.declared.key.GroupKey.{GroupKey}
use Rattle.ug_intern.specs.Pools.{Pooled}
use Rattle.ug_adjout.specs.Tables.{has, value_at}
use Rattle.ug_adjout.specs.Pending.{AdjRibOut, IsExact, with_all_forced, with_all_formatted, with_desired}
use Rattle.ug_pack.specs.Ready.{key_order, IsKeyOf, IsSendable}
use Rattle.ug_group_rules.specs.declared.phase.Phase.{Phase}
use Rattle.ug_group_rules.specs.declared.phase.Phase.TheVariants.{Quiet, Open}
use Rattle.ug_group_rules.specs.Packets.{same_out}
use Rattle.ug_group_rules.specs.Machine.{Subgroup}
use Rattle.ug_groups.specs.Values.{out_in}

-- its group key, its Adj-RIB-Out with ids of the pool, and its flags
pub record Standing : Type 0 where
  pub key : GroupKey
  pub adj : AdjRibOut Key ℕ
  pub ending : Bool
  pub fresh : Bool
  pub phase : Phase
  pub stuck : ℕ

-- the subgroup that it is, by what the ids stand for
abbrev pub seen : Pooled OutAttrs → Standing → Subgroup
seen pool k = record { key = k.key; out = out_in pool k.adj; ending = k.ending; fresh = k.fresh; phase = k.phase; stuck = k.stuck }

-- the rows are of keys that sessions of the group key can have
abbrev pub AreOwn : GroupKey → List (Key × ℕ) → Type 0
AreOwn key rows = (q : Key) → IsSome (value_at key_order rows q) → IsKeyOf key.family key.add_path q

-- each forced key has a row
abbrev pub AreShown : {V : Type 0} → AdjRibOut Key V → Type 0
AreShown adj = (q : Key) → has key_order adj.forced q ≡ true → (is_some (value_at key_order adj.formatted q) || is_some (value_at key_order adj.desired q)) ≡ true

pub record IsKept (key : GroupKey) (family : Family) (adj : AdjRibOut Key ℕ) : Type 0 where
  pub family_is : family ≡ key.family
  pub exact : IsExact key_order nat_eq adj
  pub shown : AreShown adj
  pub formatted_own : AreOwn key adj.formatted
  pub desired_own : AreOwn key adj.desired

-- what its members should have can be sent to them
abbrev pub IsFit : Subgroup → Type 0
IsFit x = (q : Key) (o : OutAttrs) → value_at key_order x.out.desired q ≡ Some o → IsSendable x.key.family o.attrs

abbrev pub wanting : Key → Option ℕ → Standing → Standing
wanting key id k = record k { adj = with_desired key_order nat_eq k.adj key id }

-- the subgroup of the machine, where a key of it is desired with this value
abbrev pub desiring : Key → Option OutAttrs → Subgroup → Subgroup
desiring key value x = record x { out = with_desired key_order same_out x.out key value }

abbrev pub forced : Standing → Standing
forced k = record k { adj = with_all_forced key_order nat_eq k.adj }

-- ---- what a packet leaves

abbrev pub begun : Standing → Standing
begun k = record { key = k.key; adj = with_all_forced key_order nat_eq k.adj; ending = k.ending; fresh = false; phase = Open; stuck = 0 }

abbrev pub told : List Key → Standing → Standing
told keys k = record { key = k.key; adj = with_all_formatted key_order nat_eq k.adj keys; ending = k.ending; fresh = false; phase = k.phase; stuck = 0 }

abbrev pub ended : Standing → Standing
ended k =
    if k.ending then record { key = k.key; adj = k.adj; ending = false; fresh = false; phase = k.phase; stuck = 0 }
    else record { key = k.key; adj = k.adj; ending = k.ending; fresh = false; phase = Quiet; stuck = 0 }
