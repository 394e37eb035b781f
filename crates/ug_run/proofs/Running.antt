-- What a run keeps, as it begins, is read and is closed.
use Rattle.std.proofs.Common.{◌≡◌, ℕ, ◌+◌, ◌≤◌, Bool, List, [], length, map, Option, Some, None, refl, sym, ◌∙◌, ap, subst, arith}
use Rattle.std.specs.List.{list_any}
use Rattle.std.proofs.lemmas.List.{length-map}
use Rattle.atomic_table.specs.Seated.{TableId}
use Rattle.ug_types.specs.Listed.{Listed}
use Rattle.ug_edge.specs.Told.{WireName}
use Rattle.ug_board.specs.Entry.{Entry}
use Rattle.ug_board.specs.Rules.{Rules}
use Rattle.ug_turnstile.specs.Passes.{Gate, Held, IsSamePass}
use Rattle.ug_sender.specs.Lanes.{LaneView}
use Rattle.ug_sender.specs.Posts.{Post, post_of, posts, AreHere}
use Rattle.ug_events.specs.Events.{Saying}
use Rattle.ug_events.specs.Reads.{Reads}
use Rattle.ug_world.specs.World.{World}
use Rattle.ug_speaker.specs.Speech.{Speech}
use Rattle.ug_report.specs.Report.{losses_from}
use Rattle.ug_report.specs.declared.status.Status.{Status}
use Rattle.ug_event_loop.specs.declared.grammar.Grammar.{Grammar}
use Rattle.ug_event_loop.specs.declared.tally.Tally.{Tally}
use Rattle.ug_event_loop.specs.declared.reading.End.{End}
use Rattle.ug_event_loop.specs.Standing.{BuilderView, IsPacedBy, IsSameBuilder}
use Rattle.ug_event_loop.specs.Reading.{Outside, HasEnded, IsRead}
use Rattle.ug_event_loop.specs.Crew.{all_losses}
use Rattle.ug_run.specs.Lanes.{AreAtPosts, fresh_lanes}
use Rattle.ug_run.specs.Boards.{AreDealt}
use Rattle.ug_run.specs.Ends.{IsFinished}
use Rattle.ug_run.specs.Runs.{RunView, KeepsRun, fresh_builder}
use Rattle.ug_run.proofs.LaneLaws.{posts_fresh, posts_stay, posts_here, lanes_many, lanes_stay_for}

-- ---- lanes and their posts

module _ {W Opening Job Said : Type 0} where
  pub same-many : (lanes old : List (LaneView W Opening Job Said)) → posts lanes ≡ posts old → length lanes ≡ length old
  same-many lanes old same = sym (length-map lanes post_of) ∙ (ap length same ∙ length-map old post_of)

  pub same-for : (lanes old : List (LaneView W Opening Job Said)) → posts lanes ≡ posts old
      → map (λ (lane : LaneView W Opening Job Said). lane.made_for) lanes ≡ map (λ (lane : LaneView W Opening Job Said). lane.made_for) old
  same-for lanes old same = lanes_stay_for post_of (λ a b e. ap (λ (p : Post Opening). p.made_for) e) lanes old same

  pub same-at : (id : TableId) (root : Option Opening) (lanes old : List (LaneView W Opening Job Said)) → posts lanes ≡ posts old → AreAtPosts id root 0 old → AreAtPosts id root 0 lanes
  same-at id root lanes old same at =
      posts_stay post_of (λ a b e. (ap (λ (p : Post Opening). p.turnstile) e, ap (λ (p : Post Opening). p.root) e, ap (λ (p : Post Opening). p.number) e, ap (λ (p : Post Opening). p.peer) e)) id root 0 lanes old same at

  pub here-at : (id : TableId) (root : Option Opening) (lanes : List (LaneView W Opening Job Said)) → AreAtPosts id root 0 lanes → AreHere id (posts lanes)
  here-at id root lanes at = posts_here post_of (λ (p : Post Opening). p.turnstile) (λ a. refl) id root 0 lanes at

  -- what a run keeps as it begins
  pub keeps-begun :
      {State : Type 0} (made_for : W → WireName) (speech : Speech Opening State Job Said) (w : World) (gate : Gate) (b0 : Held (Entry Job Said) Opening) (passes : List (Held (Entry Job Said) Opening)) → AreDealt speech w gate b0 passes
      → (builder : BuilderView Opening Job Said) → builder.pass ≡ b0
      → (wires : List W) → length wires ≡ length w.peers → (lanes : List (LaneView W Opening Job Said)) → lanes ≡ fresh_lanes made_for 0 wires passes → (peers : ℕ) → peers ≡ length w.peers
      → (wires_home : Listed W) (passes_home : Listed (Held (Entry Job Said) Opening)) → wires_home.items ≡ [] → passes_home.items ≡ [] → peers ≤ wires_home.spare → peers + 1 ≤ passes_home.spare
      → KeepsRun gate builder lanes peers wires_home passes_home
  keeps-begun made_for speech w gate b0 passes is builder pass_is wires all lanes lanes_is peers peers_is wires_home passes_home no_wires no_passes wires_room passes_room =
      let many : length lanes ≡ length w.peers = ap length lanes_is ∙ (lanes_many made_for 0 wires passes (is.all ∙ sym all) ∙ all) in
      let count = is.count in
      record {
        here = ap (λ (p : Held (Entry Job Said) Opening). p.turnstile) (pass_is ∙ is.head);
        posts =
            subst (λ (r : Option Opening). AreAtPosts gate.id r 0 lanes) (sym (ap (λ (p : Held (Entry Job Said) Opening). p.root) (pass_is ∙ is.head)))
            (subst (λ (ls : List (LaneView W Opening Job Said)). AreAtPosts gate.id (Some is.root) 0 ls) (sym lanes_is) (posts_fresh made_for gate.id is.root 0 wires passes is.others));
        count = omega arith;
        all = omega arith;
        no_wires = no_wires;
        no_passes = no_passes;
        wires_room = omega arith;
        passes_room = omega arith;
      }

  -- and what it keeps when its file was read
  pub keeps-read :
      (gate : Gate) (old new : BuilderView Opening Job Said) (lanes lanes' : List (LaneView W Opening Job Said)) (peers : ℕ) (wires_home : Listed W) (passes_home : Listed (Held (Entry Job Said) Opening))
      → KeepsRun gate old lanes peers wires_home passes_home → IsSamePass old.pass new.pass → posts lanes' ≡ posts lanes → KeepsRun gate new lanes' peers wires_home passes_home
  keeps-read gate old new lanes lanes' peers wires_home passes_home keeps same posts_same =
      let many : length lanes' ≡ length lanes = same-many lanes' lanes posts_same in
      let count = keeps.count in
      let all = keeps.all in
      let wires_room = keeps.wires_room in
      let passes_room = keeps.passes_room in
      record {
        here = same.0 ∙ keeps.here;
        posts = subst (λ (r : Option Opening). AreAtPosts gate.id r 0 lanes') (sym same.2) (same-at gate.id old.pass.root lanes' lanes posts_same keeps.posts);
        count = omega arith;
        all = omega arith;
        no_wires = keeps.no_wires;
        no_passes = keeps.no_passes;
        wires_room = omega arith;
        passes_room = omega arith;
      }

module _ {Opening State Job Said : Type 0} (speech : Speech Opening State Job Said) (w : World) (gate : Gate) (b0 : Held (Entry Job Said) Opening) (passes : List (Held (Entry Job Said) Opening)) (is : AreDealt speech w gate b0 passes) where
  pub root-is : b0.root ≡ Some is.root
  root-is = ap (λ (p : Held (Entry Job Said) Opening). p.root) is.head

  -- A builder over the pass of its world has the pace of that world.
  pub paced : (every : ℕ) → every ≡ w.local.coalesce → IsPacedBy speech b0.root every
  paced every same = subst (λ (r : Option Opening). IsPacedBy speech r every) (sym root-is) (same ∙ ap (λ (v : World). v.local.coalesce) (sym is.first))

-- a builder as it is made
pub fresh-is : {Opening Job Said : Type 0} (b : BuilderView Opening Job Said) (pass : Held (Entry Job Said) Opening) (names names' : List (List ℕ)) (grammar : Grammar) (every every' : ℕ)
    → b ≡ fresh_builder pass names grammar every → names ≡ names' → every ≡ every' → b ≡ fresh_builder b.pass names' grammar every'
fresh-is {Opening} {Job} {Said} b pass names names' grammar every every' is names_is every_is =
    is
    ∙ (ap (λ (p : Held (Entry Job Said) Opening). fresh_builder p names grammar every) (sym (ap (λ (v : BuilderView Opening Job Said). v.pass) is))
    ∙ (ap (λ (ns : List (List ℕ)). fresh_builder b.pass ns grammar every) names_is ∙ ap (λ n. fresh_builder b.pass names' grammar n) every_is))

-- ---- how the reading ended

module _ {Opening State Job Said : Type 0} (rules : Rules Opening State Job Said) (speech : Speech Opening State Job Said) where
  pub read-same : (first : List (Reads Saying)) (old new : BuilderView Opening Job Said) (o o' : Outside) (end : Option End) → IsRead rules speech first old new o o' end → IsSameBuilder old new
  read-same first old new o o' None h = absurd h
  read-same first old new o o' (Some end) h = h.same

  pub read-ended : (first : List (Reads Saying)) (old new : BuilderView Opening Job Said) (o o' : Outside) (e : Option End) (end : End) → e ≡ Some end → IsRead rules speech first old new o o' e → HasEnded rules speech first old new o o' end
  read-ended first old new o o' e end is h = subst (λ (x : Option End). IsRead rules speech first old new o o' x) is h

-- ---- how it is closed

-- The end of a report of what a run is closed with is that of the run.
pub finished-at :
    {W Opening Job Said : Type 0} (run : RunView W Opening Job Said) (names : List (List ℕ)) (peers : ℕ) (tally : Tally) (unnoted : Bool) (history : List (Entry Job Said)) (before held : Option (List ℕ)) (F : Type 0) (end : End) (status : Status)
    → names ≡ run.builder.names → peers ≡ length run.lanes → tally ≡ run.builder.tally → unnoted ≡ list_any (λ (lane : LaneView W Opening Job Said). lane.unnoted) run.lanes
    → IsFinished names (losses_from 0 (all_losses 0 peers history)) tally.accepted tally.refused before held F end unnoted status
    → IsFinished run.builder.names (losses_from 0 (all_losses 0 (length run.lanes) history)) run.builder.tally.accepted run.builder.tally.refused before held F end (list_any (λ (lane : LaneView W Opening Job Said). lane.unnoted) run.lanes) status
finished-at {W} {Opening} {Job} {Said} run names peers tally unnoted history before held F end status names_is peers_is tally_is unnoted_is finished =
    let b = run.builder in
    subst (λ (u : Bool). IsFinished b.names (losses_from 0 (all_losses 0 (length run.lanes) history)) b.tally.accepted b.tally.refused before held F end u status) unnoted_is
    (subst (λ (t : Tally). IsFinished b.names (losses_from 0 (all_losses 0 (length run.lanes) history)) t.accepted t.refused before held F end unnoted status) tally_is
    (subst (λ (n : ℕ). IsFinished b.names (losses_from 0 (all_losses 0 n history)) tally.accepted tally.refused before held F end unnoted status) peers_is
    (subst (λ (ns : List (List ℕ)). IsFinished ns (losses_from 0 (all_losses 0 peers history)) tally.accepted tally.refused before held F end unnoted status) names_is finished)))
