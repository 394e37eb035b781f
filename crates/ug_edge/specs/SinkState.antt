-- What a sink in memory holds, and what each of its writes makes of it.
use Rattle.std.specs.Prelude.{ℕ, Bool, List, [], ◌++◌}
use Rattle.ug_edge.specs.declared.lists.CallKind.TheVariants.{Write}
use Rattle.ug_edge.specs.declared.lists.FailAt.{FailAt}
use Rattle.ug_edge.specs.Fails.{raised, lists}

-- The bytes held, the number of writes so far, the calls that are listed to fail, the faults so far, and those of
-- them that came of running out of memory.
pub record SinkState : Type 0 where
  pub held : List ℕ
  pub calls : ℕ
  pub fails : List FailAt
  pub faults : ℕ
  pub starved : ℕ

-- the sink that nothing was written to
abbrev pub fresh_sink : List FailAt → SinkState
fresh_sink fails = record { held = []; calls = 0; fails = fails; faults = 0; starved = 0 }

-- The next write is listed to fail.
abbrev pub next_write_fails : SinkState → Bool
next_write_fails sink = lists Write (raised sink.calls) sink.fails

-- the sink after a write that took these bytes
abbrev pub sink_with : List ℕ → SinkState → SinkState
sink_with bytes sink = record sink { held = sink.held ++ bytes; calls = raised sink.calls }

-- the sink after a write that was listed to fail
abbrev pub sink_failed : SinkState → SinkState
sink_failed sink = record sink { calls = raised sink.calls; faults = raised sink.faults }

-- the sink after a write for which memory ran out
abbrev pub sink_starved : SinkState → SinkState
sink_starved sink = record sink { calls = raised sink.calls; faults = raised sink.faults; starved = raised sink.starved }
