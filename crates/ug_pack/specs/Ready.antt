-- What is asked of an Adj-RIB-Out and the pool of its values where its next packet is built.
use Rattle.std.specs.Prelude.{◌≡◌, ℕ, ◌==◌, Bool, true, not, Option, Some, None}
use Rattle.std.specs.declared.cmp.Ordering.{Ordering}
use Rattle.ug_types.specs.declared.family.Family.{Family}
use Rattle.ug_types.specs.declared.key.Key.{Key}
use Rattle.ug_types.specs.declared.route.OutAttrs.{OutAttrs}
use Rattle.ug_types.specs.contracts.key.KeyOrd.TheImpl as key_ord
use Rattle.ug_types.specs.Attributes.{Attributes}
use Rattle.ug_message.specs.Spellable.{has_ipv4_addresses}
use Rattle.ug_adjout.specs.Tables.{has, value_at}
use Rattle.ug_adjout.specs.Pending.{AdjRibOut}
use Rattle.ug_intern.specs.Pools.{Held, Pooled, held}
use Rattle.ug_pack.specs.Rooms.{IsShort}

abbrev pub key_order : Key → Key → Ordering
key_order = key_ord.ghosts.cmp

-- a key of the family, which has an identifier exactly where the session has ADD-PATH
pub record IsKeyOf (family : Family) (add_path : Bool) (key : Key) : Type 0 where
  pub family_is : key.prefix.family ≡ family
  pub id_is : (key.id == 0) ≡ not add_path

-- attributes that routes of the family can have
pub record IsSendable (family : Family) (a : Attributes) : Type 0 where
  pub next_hop : a.next_hop.family ≡ family
  pub addresses : has_ipv4_addresses a ≡ true
  pub short : IsShort a

-- an id that is live, of such attributes
pub record IsLive (family : Family) (h : Option (Held OutAttrs)) : Type 0 where
  pub value : Held OutAttrs
  pub is : h ≡ Some value
  pub sendable : IsSendable family value.value.attrs

-- the pending keys are of one session, and so are the values for which they wait
pub record IsReady (family : Family) (add_path : Bool) (pool : Pooled OutAttrs) (a : AdjRibOut Key ℕ) : Type 0 where
  pub keys : (q : Key) → has key_order a.pending q ≡ true → IsKeyOf family add_path q
  pub values : (q : Key) (id : ℕ) → has key_order a.pending q ≡ true → value_at key_order a.desired q ≡ Some id → IsLive family (held pool id)
