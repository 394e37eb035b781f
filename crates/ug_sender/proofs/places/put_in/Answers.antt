use Rattle.std.proofs.Common.{◌∙◌, ap}
use Rattle.std.specs.Prelude.{insert}
use Rattle.ug_sender.specs.Posts.{posts_of}
use Rattle.ug_sender.proofs.Seats.{put_back}
use Rattle.ug_sender.proofs.places.put_in.Goals as goal

pub returns-clause-posts : goal.returns-clause-posts
returns-clause-posts g c all out was at same =
    ap posts_of (c.in-Ok.ensures.items) ∙ (ap (λ ws. posts_of (insert ws c.args.place c.args.worker)) was ∙ put_back (λ w. w.post) all c.args.place out c.args.worker at same)
