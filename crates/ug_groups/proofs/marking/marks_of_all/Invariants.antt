use Rattle.std.proofs.Common.{◌≡◌, ℕ, ◌++◌, Bool, true, drop}
use Rattle.ug_world.specs.declared.peer_state.PeerState.{PeerState}
use Rattle.ug_group_rules.specs.Machine.{marks_at}
use Rattle.ug_groups.specs.Rows.{Rows}
use Rattle.ug_groups.specs.Members.{system}
use Rattle.ug_groups.proofs.marking.marks_of_all.Given as goal

-- the marks so far, and those of the peers that are left
abbrev pub invariant-loop-id : goal.invariant-loop-id
invariant-loop-id l = (closed : Bool) (made : ℕ) (rows : Rows) →
    l.marks.items ++ marks_at (λ (p : PeerState). true) l.id (drop l.id l.world.peers) (system l.world closed made rows l.members) ≡ marks_at (λ (p : PeerState). true) 0 l.world.peers (system l.world closed made rows l.members)
