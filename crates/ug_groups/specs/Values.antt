-- What an Adj-RIB-Out says whose values are ids of a pool.
use Rattle.std.specs.Prelude.{ℕ, List, Option, Some, None, IsSome, IfSome}
use Rattle.ug_types.specs.declared.key.Key.{Key}
use Rattle.ug_types.specs.declared.route.OutAttrs.{OutAttrs}
use Rattle.ug_intern.specs.Pools.{Pooled, held, value_of}
use Rattle.ug_adjout.specs.Tables.{value_at}
use Rattle.ug_adjout.specs.Pending.{AdjRibOut}
use Rattle.ug_adjout.specs.Formatting.{Due}
use Rattle.ug_adjout.specs.Formatting.Due.{Nothing, Withdraws, Announces}
use Rattle.ug_adjout.specs.Stored.{projected, of_row}
use Rattle.ug_pack.specs.Ready.{key_order}
use Rattle.ug_group_rules.specs.Packets.{Rows, Out}

module _ (pool : Pooled OutAttrs) where
  abbrev pub value_in : ℕ → Option OutAttrs
  value_in id = value_of (held pool id)

  -- the rows with their values
  abbrev pub valued : List (Key × ℕ) → Rows
  valued rows = projected value_in rows

  -- the Adj-RIB-Out with its values
  abbrev pub out_in : AdjRibOut Key ℕ → Out
  out_in a = record { formatted = valued a.formatted; desired = valued a.desired; forced = a.forced; pending = a.pending }

  -- what an id stands for, where there is one
  abbrev pub valued_by : Option ℕ → Option OutAttrs
  valued_by id = of_row value_in id

  abbrev pub announced_by : Option OutAttrs → List Key → Due Key OutAttrs
  announced_by None keys = Nothing
  announced_by (Some o) keys = Announces o keys

  -- what a packet is to say, with its value
  abbrev pub due_in : Due Key ℕ → Due Key OutAttrs
  due_in Nothing = Nothing
  due_in (Withdraws keys) = Withdraws keys
  due_in (Announces id keys) = announced_by (value_in id) keys

  abbrev pub IsLiveId : ℕ → Type 0
  IsLiveId id = IsSome (held pool id)

  -- each row's id is live
  abbrev pub AreLive : List (Key × ℕ) → Type 0
  AreLive rows = (q : Key) → IfSome (value_at key_order rows q) IsLiveId
