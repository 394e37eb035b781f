use Rattle.std.proofs.Common.{rules, ◌<◌, length}
use Rattle.ug_sender.proofs.Seats.{here_in}
use Rattle.ug_sender.proofs.places.take_out.Goals as goal

pub returns-clause-here : goal.returns-clause-here
returns-clause-here g c id here =
    let below : c.args.place < length c.args.workers.now.items = search (rules, c.requires.within) in
    here_in id c.args.workers.now.items c.args.place c.remove.result here below c.remove.ensures.value
