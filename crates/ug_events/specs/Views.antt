-- What the code's values say, without where they lie in memory.
use Rattle.std.specs.Prelude.{◌≡◌, List, Option, Some, None, Result, Ok, Err}
use Rattle.std.specs.Option.{option_map}
use Rattle.ug_text.specs.Lists.{items_of, segments_of}
use Rattle.ug_policy.specs.OrfViews.{orf_seen}
use Rattle.ug_events.specs.declared.event.Event.{Event}
use Rattle.ug_events.specs.declared.event.Event.TheVariants as events
use Rattle.ug_events.specs.declared.event.Line.{Line}
use Rattle.ug_events.specs.declared.event.Line.TheVariants as lines
use Rattle.ug_events.specs.declared.refusal.LineRefusal.{LineRefusal}
use Rattle.ug_events.specs.declared.refusal.LineRefusal.TheVariants as refusals
use Rattle.ug_events.specs.declared.path_fields.PathFields.{PathFields}
use Rattle.ug_events.specs.Events.{Happening, ComesUp, GoesDown, HasPaths, HasNone, HasPolicy, HasEntries, AsksAgain, SendsRequest, SendsList, Saying, SaysNothing, SaysSync, Says}
use Rattle.ug_events.specs.Reads.{Reads}
use Rattle.ug_events.specs.Fields.{Fields}

abbrev pub event_of : Event → Happening
event_of (events.Up peer) = ComesUp peer
event_of (events.Down peer) = GoesDown peer
event_of (events.Paths prefix paths) = HasPaths prefix paths.items
event_of (events.Withdraw prefix) = HasNone prefix
event_of (events.Policy peer policy) = HasPolicy peer policy
event_of (events.List name entries) = HasEntries name entries.items
event_of (events.Refresh peer) = AsksAgain peer
event_of (events.Receive peer) = SendsRequest peer
event_of (events.Orf peer message) = SendsList peer (orf_seen message)

abbrev pub saying_of : Line → Saying
saying_of lines.Blank = SaysNothing
saying_of lines.Sync = SaysSync
saying_of (lines.Happened event) = Says (event_of event)

-- Out of memory says nothing of the line.
abbrev pub IsRefusedBy : {A : Type 0} → LineRefusal → Reads A → Type 0
IsRefusedBy refusals.NoMemory read = Unit {0}
IsRefusedBy (refusals.Refused number inner) read = read ≡ Err (record { number = number; inner = inner })

-- What a function returned, seen by view, is what reading gives, unless memory ran out.
abbrev pub Gives : {X Y : Type 0} → (X → Y) → Result X LineRefusal → Reads Y → Type 0
Gives view (Ok x) read = read ≡ Ok (view x)
Gives view (Err e) read = IsRefusedBy e read

abbrev pub fields_seen : PathFields → Fields
fields_seen f = record {
  id = f.id;
  from = f.from;
  next_hop = f.next_hop;
  origin = f.origin;
  path = option_map segments_of f.path;
  med = f.med;
  local_pref = f.local_pref;
  atomic = f.atomic;
  aggregator = f.aggregator;
  communities = option_map items_of f.communities;
  originator = f.originator;
  clusters = option_map items_of f.clusters;
}
