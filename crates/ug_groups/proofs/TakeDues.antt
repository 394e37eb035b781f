-- An event that is about no peer leaves what is due to each: it begins no session, and formats no packet.
use Rattle.std.proofs.Common.{◌≡◌, ℕ, ◌+◌, ◌≤◌, Bool, false, List, None, refl, sym, ap, subst, ◌∙◌, arith}
use Rattle.ug_events.specs.Events.{Happening, ComesUp, GoesDown, HasPaths, HasNone, HasPolicy, HasEntries, AsksAgain, SendsRequest, SendsList}
use Rattle.ug_world.specs.declared.peer_state.PeerState.{PeerState}
use Rattle.ug_world.specs.World.{World}
use Rattle.ug_world.specs.After.{after}
use Rattle.ug_group_rules.specs.Machine.{System, with_counts, take_event}
use Rattle.ug_group_rules.specs.Rules.{due, group_rules}
use Rattle.ug_groups.specs.Rows.{Rows}
use Rattle.ug_groups.specs.declared.member.Member.{Member}
use Rattle.ug_groups.specs.Members.{members_from, system}
use Rattle.ug_groups.specs.Kept.{IsKept}
use Rattle.ug_groups.specs.Turns.{named_by}
use Rattle.ug_groups.proofs.TakeEntered.{entered-view}
use Rattle.ug_groups.proofs.TakeTurned.{routes-taken}

-- the peers are those that were
peers-same : (e : Happening) (w : World) → named_by e ≡ None → (after w e).peers ≡ w.peers
unfolding after
peers-same (ComesUp name) w none = absurd cc
peers-same (GoesDown name) w none = absurd cc
peers-same (AsksAgain name) w none = absurd cc
peers-same (SendsRequest name) w none = absurd cc
peers-same (SendsList name request) w none = absurd cc
peers-same (HasPolicy name policy) w none = absurd cc
peers-same (HasEntries name entries) w none = refl
peers-same (HasPaths prefix paths) w none = refl
peers-same (HasNone prefix) w none = refl

pub routes-due : (e : Happening) (w : World) (rows : Rows) (members : List Member) (made : ℕ) → IsKept w false made rows members → named_by e ≡ None
    → group_rules.due (take_event e (system w false made rows members)) ≡ group_rules.due (system w false made rows members)
routes-due e w rows members made kept none =
    ap group_rules.due (routes-taken e w rows members made kept none false made)
    ∙ ap (λ (s : System). group_rules.due (with_counts s)) (entered-view (after w e) rows members w false made)
    ∙ ap (λ (peers : List PeerState). due peers (members_from rows 0 members)) (peers-same e w none)

-- the same of the system that a state is
routes-due-of : (w : World) (closed : Bool) (made : ℕ) (rows : Rows) (members : List Member) (s : System) → system w closed made rows members ≡ s → IsKept w closed made rows members → closed ≡ false
    → (e : Happening) → named_by e ≡ None → group_rules.due (take_event e s) ≤ group_rules.due s
routes-due-of w closed made rows members s view kept open_ e none =
    let is : system w false made rows members ≡ s = ap (λ (b : Bool). system w b made rows members) (sym open_) ∙ view in
    let same = routes-due e w rows members made (subst (λ (b : Bool). IsKept w b made rows members) open_ kept) none in
    subst (λ (t : System). group_rules.due (take_event e t) ≤ group_rules.due t) is (omega (arith, same))

pub routes-rise : (w : World) (closed : Bool) (made : ℕ) (rows : Rows) (members : List Member) (s : System) → system w closed made rows members ≡ s → IsKept w closed made rows members → closed ≡ false
    → (e : Happening) → named_by e ≡ None → group_rules.due (take_event e s) ≤ group_rules.due s + 0
routes-rise w closed made rows members s view kept open_ e none = let no_more = routes-due-of w closed made rows members s view kept open_ e none in omega (arith, no_more)
