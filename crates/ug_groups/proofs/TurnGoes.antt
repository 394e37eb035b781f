-- The turn of a peer whose session goes on.
use Rattle.std.proofs.Common.{◌≡◌, ℕ, zero, suc, ◌<◌, Bool, true, false, List, [], ◌∷◌, length, slice_get, Option, Some, None, is_some, refl, sym, ap, subst, ◌∙◌, arith}
use Rattle.std.specs.Option.{option_map}
use Rattle.ug_outbound.specs.declared.key.GroupKey.{GroupKey}
use Rattle.ug_world.specs.declared.peer_state.PeerState.{PeerState}
use Rattle.ug_world.specs.World.{World, key_in}
use Rattle.ug_groups.specs.Sent.{session_of}
use Rattle.ug_group_rules.specs.Packets.{same_group}
use Rattle.ug_group_rules.specs.Machine.{Turn, Asks, Rekeys, Stays}
use Rattle.ug_group_rules.proofs.Groups.{group-same}
use Rattle.ug_groups.specs.Rows.{Row, Rows, row_at, any_at, HasRow}
use Rattle.ug_groups.specs.Entered.{asking}
use Rattle.ug_groups.specs.declared.member.Member.{Member}
use Rattle.ug_groups.specs.Members.{sub_at}
use Rattle.ug_groups.specs.Turns.{turn_within, is_of_key, asked_by, IsBeside, IsTurned}
use Rattle.ug_groups.proofs.ListFacts.{some-same}
use Rattle.ug_groups.proofs.Seats.{sits-sub}
use Rattle.ug_groups.proofs.TurnLeaves.{left-nowhere}

-- which turn it is
abbrev pub Goes : Bool → GroupKey → Rows → Option ℕ → Turn
Goes asks key rows o = turn_within (is_some o) asks (is_of_key key rows o)

turn-asks : (asks : Bool) (key : GroupKey) (rows : Rows) (o : Option ℕ) (g : ℕ) → o ≡ Some g → asks ≡ true → Goes asks key rows o ≡ Asks
turn-asks asks key rows o g sits is = ap (λ (x : Option ℕ). Goes asks key rows x) sits ∙ ap (λ (a : Bool). Goes a key rows (Some g)) is

turn-same : (asks : Bool) (key : GroupKey) (rows : Rows) (o : Option ℕ) (g : ℕ) → o ≡ Some g → asks ≡ false → is_of_key key rows (Some g) ≡ true → Goes asks key rows o ≡ Stays
turn-same asks key rows o g sits is same =
    ap (λ (x : Option ℕ). Goes asks key rows x) sits ∙ ap (λ (a : Bool). Goes a key rows (Some g)) is ∙ ap (λ (b : Bool). turn_within true false b) same

turn-other : (asks : Bool) (key : GroupKey) (rows : Rows) (o : Option ℕ) (g : ℕ) → o ≡ Some g → asks ≡ false → is_of_key key rows (Some g) ≡ false → Goes asks key rows o ≡ Rekeys
turn-other asks key rows o g sits is other =
    ap (λ (x : Option ℕ). Goes asks key rows x) sits ∙ ap (λ (a : Bool). Goes a key rows (Some g)) is ∙ ap (λ (b : Bool). turn_within true false b) other

of-key : (key k : GroupKey) (o : Option Row) → option_map (λ (r : Row). r.sub.key) o ≡ Some k → any_at (λ (r : Row). same_group r.sub.key key) o ≡ same_group k key
of-key key k None e = absurd cc
of-key key k (Some r) e = let same : r.sub.key ≡ k = cc in ap (λ (j : GroupKey). same_group j key) same

-- ---- it sits nowhere

pub go-nowhere : (p : ℕ) (asks : Bool) (key : GroupKey) (w : World) (rows : Rows) (members : List Member) → IsBeside p w rows members → sub_at p members ≡ None
    → IsTurned (Goes asks key rows (sub_at p members)) p key w rows members rows members
go-nowhere p asks key w rows members beside none =
    subst (λ (o : Option ℕ). IsTurned (Goes asks key rows o) p key w rows members rows members) (sym none) (left-nowhere p w key rows members beside none)

-- ---- it sits in a subgroup

module _ (p g : ℕ) (asks : Bool) (key key' : GroupKey) (w : World) (rows : Rows) (members : List Member) (sits : sub_at p members ≡ Some g) (same_keys : key ≡ key') where
  by-turn : (turn : Turn) (rows' : Rows) (members' : List Member) → Goes asks key rows (sub_at p members) ≡ turn → IsTurned turn p key w rows members rows' members'
      → IsTurned (Goes asks key' rows (sub_at p members)) p key' w rows members rows' members'
  by-turn turn rows' members' is turned =
      subst (λ (k : GroupKey). IsTurned (Goes asks k rows (sub_at p members)) p k w rows members rows' members') same_keys
      (subst (λ (t : Turn). IsTurned t p key w rows members rows' members') (sym is) turned)

  by-steps : (turn : Turn) → Goes asks key rows (sub_at p members) ≡ turn → asked_by (Goes asks key' rows (sub_at p members)) w rows key' ≡ asked_by turn w rows key
  by-steps turn is =
      subst (λ (k : GroupKey). asked_by (Goes asks k rows (sub_at p members)) w rows k ≡ asked_by turn w rows key) same_keys (ap (λ (t : Turn). asked_by t w rows key) is)

  pub go-asks : asks ≡ true → (rows' : Rows) (members' : List Member) → IsTurned Asks p key w rows members rows' members' → IsTurned (Goes asks key' rows (sub_at p members)) p key' w rows members rows' members'
  go-asks is rows' members' turned = by-turn Asks rows' members' (turn-asks asks key rows (sub_at p members) g sits is) turned

  module _ (k : GroupKey) (at : option_map (λ (r : Row). r.sub.key) (row_at g rows) ≡ Some k) (is : asks ≡ false) where
    -- it stays, where the subgroup has its key
    pub go-stays : same_group k key ≡ true → IsBeside p w rows members → IsTurned (Goes asks key' rows (sub_at p members)) p key' w rows members rows members
    go-stays alike beside =
        by-turn Stays rows members (turn-same asks key rows (sub_at p members) g sits is (of-key key k (row_at g rows) at ∙ alike))
        (record {
          state = λ closed made. refl;
          beside = beside;
          own = λ h r sub there_is.
              let number : g ≡ h = some-same g h (sym sits ∙ sub) in
              let key_is : Some k ≡ Some r.sub.key = sym at ∙ ap (λ (n : ℕ). option_map (λ (x : Row). x.sub.key) (row_at n rows)) number ∙ ap (option_map (λ (x : Row). x.sub.key)) there_is in
              sym (some-same k r.sub.key key_is) ∙ group-same k key alike;
          remains = λ h sub. tt;
          counted = λ made all. all;
        })

    pub stays-steps : same_group k key ≡ true → asked_by (Goes asks key' rows (sub_at p members)) w rows key' ≡ 0
    stays-steps alike = by-steps Stays (turn-same asks key rows (sub_at p members) g sits is (of-key key k (row_at g rows) at ∙ alike))

    -- else it is rekeyed
    pub go-rekeys : same_group k key ≡ false → (rows' : Rows) (members' : List Member) → IsTurned Rekeys p key w rows members rows' members' → IsTurned (Goes asks key' rows (sub_at p members)) p key' w rows members rows' members'
    go-rekeys differ rows' members' turned = by-turn Rekeys rows' members' (turn-other asks key rows (sub_at p members) g sits is (of-key key k (row_at g rows) at ∙ differ)) turned

    pub rekeys-steps : same_group k key ≡ false → asked_by (Goes asks key' rows (sub_at p members)) w rows key' ≡ asking w rows key
    rekeys-steps differ = by-steps Rekeys (turn-other asks key rows (sub_at p members) g sits is (of-key key k (row_at g rows) at ∙ differ))

-- ---- what is asked of its subgroup

peer-there : (peers : List PeerState) (p : ℕ) → p < length peers → (s : PeerState) × (slice_get peers p ≡ Some s)
peer-there [] p inside = absurd (omega arith)
peer-there (s ∷ peers) zero inside = (s, refl)
peer-there (s ∷ peers) (suc p) inside = peer-there peers p (omega arith)

pub go-session : (p g : ℕ) (key : GroupKey) (w : World) (rows : Rows) (members : List Member) → p < length w.peers → IsBeside p w rows members → sub_at p members ≡ Some g
    → ((s : PeerState) (h : ℕ) (r : Row) → slice_get w.peers p ≡ Some s → sub_at p members ≡ Some h → row_at h rows ≡ Some r → session_of (key_in w s) ≡ session_of r.sub.key)
    → ((s : PeerState) → slice_get w.peers p ≡ Some s → key ≡ key_in w s) → HasRow g rows (λ r. session_of key ≡ session_of r.sub.key)
go-session p g key w rows members inside beside sits sessions keys =
    let peer = peer-there w.peers p inside in
    let row = sits-sub rows members p g sits beside.seated in
    (row.0, row.1, ap session_of (keys peer.0 peer.1) ∙ sessions peer.0 g row.0 peer.1 sits row.1)

pub go-there : (p g : ℕ) (w : World) (rows : Rows) (members : List Member) → IsBeside p w rows members → sub_at p members ≡ Some g → is_some (row_at g rows) ≡ true
go-there p g w rows members beside sits = let row = sits-sub rows members p g sits beside.seated in ap is_some row.1
