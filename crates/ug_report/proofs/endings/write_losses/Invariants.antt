use Rattle.std.proofs.Common.{◌≡◌, ◌++◌, drop}
use Rattle.std.specs.List.{flat_map}
use Rattle.std.specs.String.{string_bytes}
use Rattle.ug_report.specs.Report.{loss_text}
use Rattle.ug_report.proofs.endings.write_losses.Given as goal

-- what is written so far and the lines of the sessions that are left make up the whole
abbrev pub invariant-loop-loss : goal.invariant-loop-loss
invariant-loop-loss l = string_bytes l.out ++ flat_map (loss_text l.names) (drop l.loss-index l.losses) ≡ string_bytes l.fn.out ++ flat_map (loss_text l.names) l.losses
