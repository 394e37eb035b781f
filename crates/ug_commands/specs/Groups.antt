-- The groups of a speaker's peers: those of equal group keys, in configured order.
use Rattle.std.specs.Prelude.{ℕ, Bool, List, [], ◌∷◌, ◌++◌, map, if◌then◌else◌}
use Rattle.std.specs.List.{list_any, filter}
use Rattle.ug_outbound.specs.declared.key.GroupKey.{GroupKey}
use Rattle.ug_outbound.specs.contracts.key.GroupKeyPartialEq.TheImpl as key_eq
use Rattle.ug_world.specs.World.{World, key_in}
use Rattle.ug_world.specs.declared.peer_state.PeerState.{PeerState}
use Rattle.ug_commands.specs.declared.member.Member.{Member}

-- a peer by its name, with its group key
abbrev pub member_in : World → PeerState → Member
member_in w s = record { name = s.peer.name; key = key_in w s }

abbrev pub members_of : World → List Member
members_of w = map (member_in w) w.peers

abbrev pub same_key : GroupKey → GroupKey → Bool
same_key a b = key_eq.ghosts.eq a b

-- whether a member has that key
abbrev pub has_key : GroupKey → Member → Bool
has_key key m = same_key m.key key

-- the first member of each group, in order; `before` are those that stand before these
abbrev pub firsts : List Member → List Member → List Member
firsts before [] = []
firsts before (m ∷ members) =
    if list_any (has_key m.key) before then firsts (before ++ m ∷ []) members else m ∷ firsts (before ++ m ∷ []) members

-- the names of the members of that key
abbrev pub names_with : GroupKey → List Member → List (List ℕ)
names_with key members = map (λ (m : Member). m.name) (filter (has_key key) members)
