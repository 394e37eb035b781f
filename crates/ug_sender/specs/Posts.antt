-- Posts: where the lanes of a run stand, whatever they have sent.
use Rattle.std.specs.Prelude.{◌≡◌, ℕ, Bool, true, false, List, [], ◌∷◌, All, Option, Some, None, IfSome, is_some, map, get_or, slice_get}
use Rattle.atomic_table.specs.Seated.{TableId}
use Rattle.ug_edge.specs.Told.{WireName}
use Rattle.ug_board.specs.Entry.{Entry}
use Rattle.ug_board.specs.Rules.{Rules}
use Rattle.ug_board.specs.Deeds.{Deed}
use Rattle.ug_turnstile.specs.Passes.{Held}
use Rattle.ug_sender.specs.Lanes.{LaneView, IsSamePost, IsAtRest, IsOver, pass_deeds}

-- A post: the turnstile and the number of a lane's pass, the root of the history, the peer that the lane sends to, and for
-- whom its wire was made.
pub record Post (Opening : Type 0) : Type 0 where
  pub turnstile : TableId
  pub number : ℕ
  pub root : Option Opening
  pub peer : ℕ
  pub made_for : WireName

-- the post of a lane
abbrev pub post_of : {W Opening Job Said : Type 0} → LaneView W Opening Job Said → Post Opening
post_of lane = record { turnstile = lane.pass.turnstile; number = lane.pass.number; root = lane.pass.root; peer = lane.peer; made_for = lane.made_for }

-- the posts of lanes, in order
abbrev pub posts : {W Opening Job Said : Type 0} → List (LaneView W Opening Job Said) → List (Post Opening)
posts lanes = map post_of lanes

-- All posts are at this turnstile.
abbrev pub AreHere : {Opening : Type 0} → TableId → List (Post Opening) → Type 0
AreHere id all = All (λ post. post.turnstile ≡ id) all

-- There are as many lanes as before, and each is the same post as its fellow.
abbrev pub AreSamePosts : {W Opening Job Said : Type 0} → List (LaneView W Opening Job Said) → List (LaneView W Opening Job Said) → Type 0
AreSamePosts [] [] = Unit {0}
AreSamePosts [] (new ∷ news) = ⊥
AreSamePosts (old ∷ olds) [] = ⊥
AreSamePosts (old ∷ olds) (new ∷ news) = IsSamePost old new × AreSamePosts olds news

-- The lane at each place of these has the post that is told of that place.
abbrev pub IsRosterOf : {Opening : Type 0} → (ℕ → Post Opening) → List (Post Opening) → Type 0
IsRosterOf {Opening} post all = (place : ℕ) (at : Post Opening) → slice_get all place ≡ Some at → post place ≡ at

-- a turnstile and a post of which nothing is said
abbrev pub nowhere : TableId
nowhere = record { words = 0; slots = 0; views_name = 0; atom = 0; block = 0; offset = 0; slot_names = [] }

abbrev pub no_post : {Opening : Type 0} → Post Opening
no_post = record { turnstile = nowhere; number = 0; root = None; peer = 0; made_for = record { dir = []; peer = [] } }

-- the post at a place of these
abbrev pub post_at : {Opening : Type 0} → List (Post Opening) → ℕ → Post Opening
post_at all place = get_or all place no_post

-- A worker: its post, and the pass of its lane where that works here.
pub record WorkerView (Opening Job Said : Type 0) : Type 0 where
  pub post : Post Opening
  pub here : Option (Held (Entry Job Said) Opening)

-- a lane that works here, and one that works in a thread of its own
abbrev pub worker_here : {W Opening Job Said : Type 0} → LaneView W Opening Job Said → WorkerView Opening Job Said
worker_here lane = record { post = post_of lane; here = Some lane.pass }

abbrev pub worker_apart : {W Opening Job Said : Type 0} → LaneView W Opening Job Said → WorkerView Opening Job Said
worker_apart lane = record { post = post_of lane; here = None }

-- the posts of workers, in order
abbrev pub posts_of : {Opening Job Said : Type 0} → List (WorkerView Opening Job Said) → List (Post Opening)
posts_of {Opening} {Job} {Said} workers = map (λ (worker : WorkerView Opening Job Said). worker.post) workers

module _ {Opening State Job Said : Type 0} (rules : Rules Opening State Job Said) where
  -- Where a lane works here, nothing is sent to its peer for now, or nothing more.
  abbrev pub RestsHere : ℕ → Option (Held (Entry Job Said) Opening) → Type 0
  RestsHere peer None = Unit {0}
  RestsHere peer (Some pass) = IsAtRest rules peer pass

  abbrev pub Rests : WorkerView Opening Job Said → Type 0
  Rests worker = RestsHere worker.post.peer worker.here

  -- Each lane of a crew that works here rests.
  abbrev pub AllRest : List (WorkerView Opening Job Said) → Type 0
  AllRest workers = All Rests workers

  -- what a lane was handed that works here
  abbrev pub here_deeds : Option (Held (Entry Job Said) Opening) → List (Deed (List ℕ))
  here_deeds None = []
  here_deeds (Some pass) = pass_deeds rules pass

  -- What is told of a crew whose lanes that work here were pumped until there was nothing to send for now, and of whether one
  -- of them did anything: the posts are as they were, the same lanes work here, each of them rests, and they were handed
  -- something just where one did.
  pub record PumpsHere (has_done : Bool) (old new : List (WorkerView Opening Job Said)) : Type 0 where
    pub posts : posts_of new ≡ posts_of old
    pub places : map (λ worker. is_some worker.here) new ≡ map (λ worker. is_some worker.here) old
    pub rest : AllRest new
    pub still : has_done ≡ false → map (λ worker. here_deeds worker.here) new ≡ map (λ worker. here_deeds worker.here) old
    pub done : has_done ≡ true → map (λ worker. here_deeds worker.here) new ≡ map (λ worker. here_deeds worker.here) old → ⊥

  -- What is told of a crew whose lanes that work here were pumped until there was nothing more to send: the posts are as they
  -- were, the same lanes work here, and each of them is at its end.
  pub record PumpsToEnd (old new : List (WorkerView Opening Job Said)) : Type 0 where
    pub posts : posts_of new ≡ posts_of old
    pub places : map (λ worker. is_some worker.here) new ≡ map (λ worker. is_some worker.here) old
    pub over : All (λ worker. IfSome worker.here (λ pass. IsOver rules worker.post.peer pass)) new
