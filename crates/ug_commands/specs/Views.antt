-- What the code read of the words, without where they lie in memory.
use Rattle.std.specs.Prelude.{ℕ, List, Option}
use Rattle.std.specs.Borrow.{Bor}
use Rattle.std.specs.Option.{option_map}
use Rattle.ug_commands.specs.Words.{SoFar, Command, One, Run, Check, Groups, SelfRun, Audit}
use Rattle.ug_commands.specs.declared.so_far.WordsSoFar.{WordsSoFar}
use Rattle.ug_commands.specs.declared.command.Command as commands
use Rattle.ug_commands.specs.declared.command.Command.TheVariants as command

abbrev pub word_seen : Option (Bor (List ℕ)) → Option (List ℕ)
word_seen word = option_map (λ (w : Bor (List ℕ)). w.now) word

abbrev pub so_far_seen : WordsSoFar → SoFar
so_far_seen s = record {
  may_be_option = s.may_be_option;
  wants_value = s.wants_value;
  add_path = s.add_path;
  extended = s.extended;
  ipv6 = s.ipv6;
  workers = s.workers;
  first = word_seen s.first;
  second = word_seen s.second;
  third = word_seen s.third;
  fourth = word_seen s.fourth;
}

abbrev pub seen : commands.Command → Command
seen (command.One c) = One (record { events = c.events.now; dir = c.dir.now })
seen (command.Run c) = Run (record { config = c.config.now; events = c.events.now; dir = c.dir.now; apart = c.apart })
seen (command.Check c) = Check (record { session = c.session; stream = c.stream.now })
seen (command.Groups c) = Groups (record { config = c.config.now })
seen (command.SelfRun c) = SelfRun (record { number = c.number })
seen (command.Audit c) = Audit (record { config = c.config.now; events = c.events.now; report = c.report.now; dir = c.dir.now })

abbrev pub command_seen : Option commands.Command → Option Command
command_seen c = option_map seen c
