use Rattle.std.proofs.Common.{◌≡◌, false, List, refl, subst}
use Rattle.std.specs.Prelude.{◌||◌}
use Rattle.ug_types.specs.declared.key.Key.{Key}
use Rattle.ug_types.specs.declared.message.Item.{Item}
use Rattle.ug_types.specs.Messages.{message_of}
use Rattle.ug_message.specs.Tables.{among}
use Rattle.ug_hearing.specs.Heard.{KeepsOthers}
use Rattle.ug_hearing.proofs.Followed.{both-named, on-ok}
use Rattle.ug_hearing.proofs.watch.Watch.hear.Goals as goal

pub returns-in_ok-name-in-Update : goal.returns-in_ok-name-in-Update
returns-in_ok-name-in-Update c =
    on-ok c.name-in-Update.result _ _
    (λ two entries from old new keeps w.
    both-named entries from old new c.args.self.now c.name.new.self c.name-in-Update.new.self c.as_slice.result.now c.as_slice-in-Update.result.now c.in_ok-name-in-Update.ensures two
    (λ q silent.
    subst (λ (i : Item). KeepsOthers (message_of i) old new) c.in-Update.is keeps refl q
    (subst (λ (ks : List Key). (among ks q || among c.in-Update.update.announced.items q) ≡ false) c.as_slice.ensures
    (subst (λ (ks : List Key). (among c.as_slice.result.now q || among ks q) ≡ false) c.as_slice-in-Update.ensures silent)))
    w)
    c.name-in-Update.ensures
