-- The words of an audit, as the code has them, say the command that all words are.
use Rattle.std.proofs.Common.{◌≡◌, Option, Some, sym, ◌∙◌, ap}
use Rattle.ug_commands.specs.Words.{Command, AuditCommand, Audit}
use Rattle.ug_commands.specs.Views.{command_seen}
use Rattle.ug_commands.specs.declared.command.AuditWords.{AuditWords}
use Rattle.ug_commands.specs.declared.command.Command as commands
use Rattle.ug_commands.specs.declared.command.Command.TheVariants as command
use Rattle.ug_audit.specs.Stopping.{said}

pub some-is : {A : Type 0} (x y : A) → Some x ≡ Some y → x ≡ y
some-is x y e = cc

audit-is : (a b : AuditCommand) → Audit a ≡ Audit b → a ≡ b
audit-is a b e = cc

pub same-command : (o : Option commands.Command) (x : commands.Command) (w : AuditWords) (all : Option Command) (a : AuditCommand)
    → o ≡ Some x → x ≡ command.Audit w → command_seen o ≡ all → all ≡ Some (Audit a) → said w ≡ a
same-command o x w all a o_is x_is read is =
    audit-is (said w) a (some-is (Audit (said w)) (Audit a) (ap command_seen (sym (o_is ∙ ap Some x_is)) ∙ (read ∙ is)))
