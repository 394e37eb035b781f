use Rattle.std.proofs.Common.{sym, ◌∙◌}
use Rattle.ug_types.proofs.NameText.{name_is_text}
use Rattle.ug_types.proofs.name.Name.read.Goals as goal

-- a name is text, so this can't come
pub returns-in_default : goal.returns-in_default
returns-in_default c = absurd (c.in_default.ensures.cases.0 (name_is_text c.args.bytes.now (sym c.is_name.ensures ∙ c.if-not-is_name.false)))
