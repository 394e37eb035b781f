use Rattle.std.proofs.Common.{Err, subst, sym, ◌∙◌, ap}
use Rattle.ug_config.specs.Gives.{Tells}
use Rattle.ug_config.specs.Reads.{fault_of}
use Rattle.ug_config.specs.Worlds.{config}
use Rattle.ug_commands.specs.Grouped.{most_bytes}
use Rattle.ug_commands.proofs.Whole.{wholly, fault_is}
use Rattle.ug_commands.proofs.listing.read_world.Goals as goal

pub returns-in-Err-TooLong-clause-stopped : goal.returns-in-Err-TooLong-clause-stopped
unfolding most_bytes
returns-in-Err-TooLong-clause-stopped g c = c.in-Err-TooLong.ensures.too_long (ap (λ e. Err e) c.in-Err-TooLong.field-0-is)

pub returns-in-Ok-read_config-clause-ok : goal.returns-in-Ok-read_config-clause-ok
returns-in-Ok-read_config-clause-ok g c =
    wholly (g.E.Source.left c.args.source.now) (g.E.Source.left c.read_whole.new.source) c.in-Ok.bytes.items _ c.in-Ok.ensures.ok
    (ap config (sym c.as_slice.ensures) ∙ c.in-Ok-read_config.ensures)

pub returns-in-Err-Refused-clause-stopped : goal.returns-in-Err-Refused-clause-stopped
returns-in-Err-Refused-clause-stopped g c =
    wholly (g.E.Source.left c.args.source.now) (g.E.Source.left c.read_whole.new.source) c.in-Ok.bytes.items _ c.in-Ok.ensures.ok
    (ap config (sym c.as_slice.ensures)
    ∙ fault_is (config c.as_slice.result.now) _ (subst (λ e. Tells e (fault_of (config c.as_slice.result.now))) c.in-Err-Refused.field-0-is c.in-Err-Refused.ensures))
