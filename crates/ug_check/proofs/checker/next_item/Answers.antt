use Rattle.std.proofs.Common.{sym, ap, ◌∙◌}
use Rattle.ug_types.specs.Messages.{message_of}
use Rattle.ug_update.specs.Readers.{answer_of, front}
use Rattle.ug_check.proofs.Steps.{gives_says, sized_item}
use Rattle.ug_check.proofs.checker.next_item.Goals as goal

pub returns-in-Ok-Message-clause-size : goal.returns-in-Ok-Message-clause-size
returns-in-Ok-Message-clause-size c =
    let r = c.args.reader.now in
    let m = message_of c.in-Ok-Message.item in
    sized_item r m (gives_says r.taken (front r) m (sym (ap answer_of c.in-Ok-Message.field-0-is) ∙ c.in-Ok-Message.ensures.answer))
