use Rattle.ug_sender.specs.Posts.{posts_of, post_at}
use Rattle.ug_event_loop.proofs.beside.read_beside.Given as goal

-- the posts are those of the crew
abbrev pub ghosts-beside : goal.ghosts-beside
ghosts-beside g a = record { turnstile = a.turnstile.now.id; post = λ place. post_at (posts_of a.crew) place }
