-- Lanes and their posts.
use Rattle.std.proofs.Common.{◌≡◌, ℕ, suc, ◌+◌, List, [], ◌∷◌, ◌++◌, length, map, All, Option, Some, arith, refl, sym, ◌∙◌, ap, append_assoc, length-append}
use Rattle.std.proofs.lemmas.List.Elements.{All-cons}
use Rattle.atomic_table.specs.Seated.{TableId}
use Rattle.ug_edge.specs.Told.{WireName}
use Rattle.ug_board.specs.Entry.{Entry}
use Rattle.ug_turnstile.specs.Passes.{Held}
use Rattle.ug_sender.specs.Lanes.{LaneView, fresh_lane}
use Rattle.ug_sender.specs.Posts.{Post, post_of, posts, posts_of, worker_here}
use Rattle.ug_run.specs.Lanes.{ArePassesFrom, AreFreshFrom, AreAtPosts, fresh_lanes}

module _ {E R : Type 0} where
  -- Fresh passes have seen nothing and hold no turn.
  pub passes_wait : (id : TableId) (root : R) (number : ℕ) (passes : List (Held E R)) → AreFreshFrom id root number passes → ArePassesFrom number passes
  passes_wait id root number [] fresh = tt
  passes_wait id root number (pass ∷ passes) fresh =
      (ap (λ (p : Held E R). p.number) fresh.0, ap (λ (p : Held E R). p.holds) fresh.0, ap (λ (p : Held E R). p.seen) fresh.0, passes_wait id root (number + 1) passes fresh.1)

module _ {W Opening Job Said : Type 0} where
  -- There is a lane for each wire.
  pub lanes_many : (made_for : W → WireName) (p : ℕ) (wires : List W) (passes : List (Held (Entry Job Said) Opening)) → length passes ≡ length wires → length (fresh_lanes made_for p wires passes) ≡ length wires
  lanes_many made_for p [] passes alike = refl
  lanes_many made_for p (wire ∷ wires) [] alike = cc
  lanes_many made_for p (wire ∷ wires) (pass ∷ passes) alike = ap (λ n. suc n) (lanes_many made_for (p + 1) wires passes (omega arith))

  -- Each is made for whom its wire is.
  pub lanes_for : (made_for : W → WireName) (p : ℕ) (wires : List W) (passes : List (Held (Entry Job Said) Opening)) → length passes ≡ length wires
      → map (λ (lane : LaneView W Opening Job Said). lane.made_for) (fresh_lanes made_for p wires passes) ≡ map made_for wires
  lanes_for made_for p [] passes alike = refl
  lanes_for made_for p (wire ∷ wires) [] alike = cc
  lanes_for made_for p (wire ∷ wires) (pass ∷ passes) alike = ap (λ (ns : List WireName). made_for wire ∷ ns) (lanes_for made_for (p + 1) wires passes (omega arith))

  -- Lanes whose posts, as they are told by `post`, are those of others are made for the same as these.
  pub lanes_stay_for :
      {P : Type 0} (post : LaneView W Opening Job Said → P) → ((a b : LaneView W Opening Job Said) → post a ≡ post b → a.made_for ≡ b.made_for)
      → (new old : List (LaneView W Opening Job Said)) → map post new ≡ map post old
      → map (λ (lane : LaneView W Opening Job Said). lane.made_for) new ≡ map (λ (lane : LaneView W Opening Job Said). lane.made_for) old
  lanes_stay_for post tells [] [] same = refl
  lanes_stay_for post tells [] (b ∷ old) same = cc
  lanes_stay_for post tells (a ∷ new) [] same = cc
  lanes_stay_for post tells (a ∷ new) (b ∷ old) same =
      let heads : post a ≡ post b = cc in
      let tails : map post new ≡ map post old = cc in
      ap (λ (n : WireName). n ∷ map (λ (lane : LaneView W Opening Job Said). lane.made_for) new) (tells a b heads)
      ∙ ap (λ (ns : List WireName). b.made_for ∷ ns) (lanes_stay_for post tells new old tails)

  -- Lanes over fresh passes are at their posts.
  pub posts_fresh :
      (made_for : W → WireName) (id : TableId) (root : Opening) (p : ℕ) (wires : List W) (passes : List (Held (Entry Job Said) Opening))
      → AreFreshFrom id root (p + 1) passes → AreAtPosts id (Some root) p (fresh_lanes made_for p wires passes)
  posts_fresh made_for id root p [] passes fresh = tt
  posts_fresh made_for id root p (wire ∷ wires) [] fresh = tt
  posts_fresh made_for id root p (wire ∷ wires) (pass ∷ passes) fresh = (
    ap (λ (q : Held (Entry Job Said) Opening). q.turnstile) fresh.0,
    ap (λ (q : Held (Entry Job Said) Opening). q.root) fresh.0,
    ap (λ (q : Held (Entry Job Said) Opening). q.number) fresh.0,
    refl,
    posts_fresh made_for id root (p + 1) wires passes fresh.1,
  )

  -- Lanes whose posts, as they are told by `post`, are those of lanes at their posts are at them too.
  pub posts_stay :
      {P : Type 0} (post : LaneView W Opening Job Said → P)
      → ((a b : LaneView W Opening Job Said) → post a ≡ post b → (a.pass.turnstile ≡ b.pass.turnstile) × (a.pass.root ≡ b.pass.root) × (a.pass.number ≡ b.pass.number) × (a.peer ≡ b.peer))
      → (id : TableId) (root : Option Opening) (p : ℕ) (new old : List (LaneView W Opening Job Said))
      → map post new ≡ map post old → AreAtPosts id root p old → AreAtPosts id root p new
  posts_stay post tells id root p [] old same at = tt
  posts_stay post tells id root p (a ∷ new) [] same at = cc
  posts_stay post tells id root p (a ∷ new) (b ∷ old) same at =
      let heads : post a ≡ post b = cc in
      let tails : map post new ≡ map post old = cc in
      let told = tells a b heads in
      (told.0 ∙ at.0, told.1 ∙ at.1, told.2 ∙ at.2, told.3 ∙ at.3, posts_stay post tells id root (p + 1) new old tails at.4)

  -- Lanes at their posts are all at this turnstile.
  pub posts_here :
      {P : Type 0} (post : LaneView W Opening Job Said → P) (turnstile : P → TableId)
      → ((a : LaneView W Opening Job Said) → turnstile (post a) ≡ a.pass.turnstile)
      → (id : TableId) (root : Option Opening) (p : ℕ) (lanes : List (LaneView W Opening Job Said))
      → AreAtPosts id root p lanes → All (λ q. turnstile q ≡ id) (map post lanes)
  posts_here post turnstile tells id root p [] at = λ k d lt. absurd (omega arith)
  posts_here post turnstile tells id root p (lane ∷ lanes) at =
      All-cons (λ q. turnstile q ≡ id) (post lane) (map post lanes) (tells lane ∙ at.0) (posts_here post turnstile tells id root (p + 1) lanes at.4)

  -- One more lane stands, and one wire and one pass fewer are left.
  pub lanes_grow :
      (made_for : W → WireName) (lanes all grown : List (LaneView W Opening Job Said)) (wire : W) (pass : Held (Entry Job Said) Opening) (lane : LaneView W Opening Job Said)
      (wires wires' : List W) (passes passes' : List (Held (Entry Job Said) Opening))
      → wires ≡ wire ∷ wires' → passes ≡ pass ∷ passes' → lane ≡ fresh_lane wire (made_for wire) pass (length lanes) → grown ≡ lanes ++ lane ∷ []
      → lanes ++ fresh_lanes made_for (length lanes) wires passes ≡ all → grown ++ fresh_lanes made_for (length grown) wires' passes' ≡ all
  lanes_grow made_for lanes all grown wire pass lane wires wires' passes passes' wires_is passes_is lane_is grown_is whole =
      let longer : length grown ≡ length lanes + 1 = ap length grown_is ∙ length-append lanes (lane ∷ []) in
      ap (λ (g : List (LaneView W Opening Job Said)). g ++ fresh_lanes made_for (length grown) wires' passes') grown_is
      ∙ (append_assoc lanes (lane ∷ []) (fresh_lanes made_for (length grown) wires' passes')
      ∙ (ap (λ n. lanes ++ (lane ∷ fresh_lanes made_for n wires' passes')) longer
      ∙ (ap (λ (l : LaneView W Opening Job Said). lanes ++ (l ∷ fresh_lanes made_for (length lanes + 1) wires' passes')) lane_is
      ∙ (sym (ap (λ (ws : List W). lanes ++ fresh_lanes made_for (length lanes) ws passes) wires_is
      ∙ ap (λ (ps : List (Held (Entry Job Said) Opening)). lanes ++ fresh_lanes made_for (length lanes) (wire ∷ wires') ps) passes_is)
      ∙ whole))))

-- The posts of lanes that all work here.
pub posts_all_here : {W Opening Job Said : Type 0} (lanes : List (LaneView W Opening Job Said)) → posts_of (map worker_here lanes) ≡ posts lanes
posts_all_here [] = refl
posts_all_here (lane ∷ lanes) = ap (λ (ps : List (Post _)). post_of lane ∷ ps) (posts_all_here lanes)
