-- What is kept of a peer, after one event more.
use Rattle.std.proofs.Common.{◌≡◌, ℕ, suc, ◌+◌, ◌<◌, ◌⊎◌, inl, inr, Bool, true, false, List, [], ◌∷◌, ◌++◌, length, slice_get, Option, Some, None, refl, sym, ◌∙◌, ap, subst, arith, length-append}
use Rattle.std.specs.Prelude.{if◌then◌else◌}
use Rattle.std.specs.Option.{option_map}
use Rattle.ug_types.specs.Bytes.{same_bytes}
use Rattle.ug_types.specs.declared.key.Key.{Key}
use Rattle.ug_types.specs.declared.route.OutAttrs.{OutAttrs}
use Rattle.ug_types.specs.declared.route.PeerEnds.{PeerEnds}
use Rattle.ug_message.specs.NextHops.{told_to}
use Rattle.ug_outbound.specs.declared.key.GroupKey.{GroupKey}
use Rattle.ug_outbound.specs.Keys.{ends_of}
use Rattle.ug_events.specs.Events.{Happening, ComesUp, GoesDown, HasPaths, HasNone, HasPolicy, HasEntries, AsksAgain, SendsRequest, SendsList}
use Rattle.ug_world.specs.declared.peer_state.PeerState.{PeerState}
use Rattle.ug_world.specs.World.{World, key_in}
use Rattle.ug_world.specs.Verdicts.{verdict}
use Rattle.ug_world.specs.After.{after, changed_peer, come_up, gone_down, refiltered, with_orf, with_policy}
use Rattle.ug_world.specs.Private.{private_table, wanted}
use Rattle.ug_world.specs.Touches.{is_about}
use Rattle.ug_world.proofs.Keeping.{shared, down}
use Rattle.ug_speaker.proofs.Peers.{peer_after, peers-after}
use Rattle.ug_audit_rules.specs.declared.since.Since.{Since}
use Rattle.ug_audit_rules.specs.declared.group.Group.{Group}
use Rattle.ug_audit_rules.specs.declared.seat.Seat.{Seat}
use Rattle.ug_audit_rules.specs.Held.{held, last_held, IsRising}
use Rattle.ug_audit_rules.specs.Merges.{told_if}
use Rattle.ug_audit_rules.specs.Seats.{Rises, group_at, outs_in, outs_at, IsKeyed, IsSeatedUp, IsTurned, IsSharing, IsSeatOf, AreGroups}
use Rattle.ug_audit_rules.specs.Standing.{StandsBy}
use Rattle.ug_audit_rules.proofs.Coming.{marked-comes}
use Rattle.ug_audit_rules.proofs.Holding.{rising-wider, rising-added, held-before, held-last, last-added}
use Rattle.ug_audit_rules.proofs.GroupTables.{same-one, which-world, Follows, Keeps}

-- ---- a peer after an event

ends_where : (name : List ℕ) (change : PeerState → PeerState) (s : PeerState) → ends_of (change s).peer ≡ ends_of s.peer → ends_of (changed_peer name change s).peer ≡ ends_of s.peer
ends_where name change s same = by (same_bytes s.peer.name name)
  where
    by : (b : Bool) → ends_of (if b then change s else s).peer ≡ ends_of s.peer
    by true = same
    by false = refl

ends_stay : (e : Happening) (s : PeerState) → ends_of (peer_after e s).peer ≡ ends_of s.peer
ends_stay (ComesUp name) s = ends_where name come_up s refl
ends_stay (GoesDown name) s = ends_where name gone_down s refl
ends_stay (AsksAgain name) s = ends_where name refiltered s refl
ends_stay (SendsRequest name) s = ends_where name refiltered s refl
ends_stay (SendsList name request) s = ends_where name (with_orf request) s refl
ends_stay (HasPolicy name policy) s = ends_where name (with_policy policy) s refl
ends_stay (HasEntries name entries) s = refl
ends_stay (HasPaths prefix paths) s = refl
ends_stay (HasNone prefix) s = refl

other_where : (name : List ℕ) (change : PeerState → PeerState) (s : PeerState) → (change s).peer.name ≡ s.peer.name → same_bytes (changed_peer name change s).peer.name name ≡ false → changed_peer name change s ≡ s
other_where name change s named = by (same_bytes s.peer.name name) refl
  where
    by : (b : Bool) → same_bytes s.peer.name name ≡ b → same_bytes (if b then change s else s).peer.name name ≡ false → (if b then change s else s) ≡ s
    by true is other = absurd (let clash = sym (ap (λ (n : List ℕ). same_bytes n name) named ∙ is) ∙ other in cc)
    by false is other = refl

-- a peer that an event isn't about is as it was
other_stays : (e : Happening) (s : PeerState) → is_about e (peer_after e s) ≡ false → peer_after e s ≡ s
other_stays (ComesUp name) s other = other_where name come_up s refl other
other_stays (GoesDown name) s other = other_where name gone_down s refl other
other_stays (AsksAgain name) s other = other_where name refiltered s refl other
other_stays (SendsRequest name) s other = other_where name refiltered s refl other
other_stays (SendsList name request) s other = other_where name (with_orf request) s refl other
other_stays (HasPolicy name policy) s other = other_where name (with_policy policy) s refl other
other_stays (HasEntries name entries) s other = refl
other_stays (HasPaths prefix paths) s other = refl
other_stays (HasNone prefix) s other = refl

key_stays : (w : World) (e : Happening) (s : PeerState) → key_in (after w e) s ≡ key_in w s
unfolding after
key_stays w (ComesUp name) s = refl
key_stays w (GoesDown name) s = refl
key_stays w (AsksAgain name) s = refl
key_stays w (SendsRequest name) s = refl
key_stays w (SendsList name request) s = refl
key_stays w (HasPolicy name policy) s = refl
key_stays w (HasEntries name entries) s = refl
key_stays w (HasPaths prefix paths) s = refl
key_stays w (HasNone prefix) s = refl

-- ---- when it was up

-- the changes go on with this
record GoesOn (n : ℕ) (up : Bool) (old new : List (Since Bool)) : Type 0 where
  rising : IsRising 1 new (suc n)
  now : last_held false new ≡ up
  before : (v : ℕ) → v < n → held v false new ≡ held v false old
  some : new ≡ [] → old ≡ []

rose : (n : ℕ) (up : Bool) (old new : List (Since Bool)) → IsRising 1 old n → Rises n up old new → GoesOn n up old new
rose n up old new h (inl same) = record {
  rising = subst (λ (xs : List (Since Bool)). IsRising 1 xs (suc n)) (sym same.0) (rising-wider 1 old n (suc n) (omega arith) h);
  now = ap (λ (xs : List (Since Bool)). last_held false xs) same.0 ∙ same.1;
  before = λ v less. ap (λ (xs : List (Since Bool)). held v false xs) same.0;
  some = λ none. sym same.0 ∙ none;
}
rose n up old new h (inr more) = record {
  rising = subst (λ (xs : List (Since Bool)). IsRising 1 xs (suc n)) (sym more.1) (rising-added 1 old (record { version = n; value = up }) h);
  now = ap (λ (xs : List (Since Bool)). last_held false xs) more.1 ∙ last-added false old (record { version = n; value = up });
  before = λ v less. ap (λ (xs : List (Since Bool)). held v false xs) more.1 ∙ held-before v false old (record { version = n; value = up }) less;
  some = λ none. (let size = ap (λ (xs : List (Since Bool)). length xs) (sym more.1 ∙ none) in let longer = length-append old (record { version = n; value = up } ∷ []) in absurd (omega (arith, size, longer)));
}

stayed : (n : ℕ) (up : Bool) (old new : List (Since Bool)) → IsRising 1 old n → new ≡ old → last_held false old ≡ up → GoesOn n up old new
stayed n up old new h same last = rose n up old new h (inl (same, last))

-- ---- its group

outs_follow : (n : ℕ) (olds mids : List Group) (place : Option ℕ) (old : Group) (v : ℕ) (q : Key) → Follows n olds mids → group_at olds place ≡ Some old → v < n → held v None (outs_at mids place q) ≡ held v None (outs_at olds place q)
outs_follow n olds mids None old v q f is less = absurd cc
outs_follow n olds mids (Some g) old v q f is less =
    let at = f g old is in
    ap (λ (o : Option Group). held v None (outs_in q o)) at.there ∙ (at.before v q less ∙ sym (ap (λ (o : Option Group). held v None (outs_in q o)) is))

group_follows : (n : ℕ) (olds mids : List Group) (place : Option ℕ) (old : Group) → Follows n olds mids → group_at olds place ≡ Some old → (new : Group) × (group_at mids place ≡ Some new) × (new.key ≡ old.key)
group_follows n olds mids None old f is = absurd cc
group_follows n olds mids (Some g) old f is = let at = f g old is in (at.new, at.there, at.key)

keyed_there : (key : GroupKey) (o : Option Group) → IsKeyed key o → (group : Group) × (o ≡ Some group) × (group.key ≡ key)
keyed_there key None keyed = absurd keyed
keyed_there key (Some group) keyed = (group, refl, keyed)

keyed_by : (key : GroupKey) (o : Option Group) (group : Group) → o ≡ Some group → group.key ≡ key → IsKeyed key o
keyed_by key o group is same = subst (λ (x : Option Group). IsKeyed key x) (sym is) same

-- ---- what it shares

-- the group of a peer at a place of the groups that tells what goes out in the last of these worlds
told_there : (groups : List Group) (place : Option ℕ) (group : Group) (ws : List World) (w' : World) (key : GroupKey) (q : Key) → AreGroups (ws ++ w' ∷ []) groups → group_at groups place ≡ Some group → group.key ≡ key
    → slice_get (ws ++ w' ∷ []) (length ws) ≡ Some w' → held (length ws) None (outs_at groups place q) ≡ wanted key w' q
told_there groups None group ws w' key q h is same last = absurd cc
told_there groups (Some g) group ws w' key q h is same last =
    let log = h g group is in
    let begun = log.begun in
    let size = length-append ws (w' ∷ []) in
    ap (λ (o : Option Group). held (length ws) None (outs_in q o)) is ∙ (log.tells (length ws) w' q (omega (arith, begun, size)) last ∙ ap (λ (k : GroupKey). wanted k w' q) same)

module _ (p : ℕ) (ws : List World) (w' : World) (s' : PeerState) (mids : List Group) (later : slice_get w'.peers p ≡ Some s') (last : slice_get (ws ++ w' ∷ []) (length ws) ≡ Some w') (groups : AreGroups (ws ++ w' ∷ []) mids)
    (ends : PeerEnds) (ends_are : ends_of s'.peer ≡ ends) (ups : List (Since Bool)) (place : Option ℕ) (now : last_held false ups ≡ s'.up) (rising : IsRising 1 ups (suc (length ws))) (keyed : s'.up ≡ true → IsKeyed (key_in w' s') (group_at mids place)) where
  up_there : held (length ws) false ups ≡ s'.up
  up_there = held-last (length ws) 1 false ups (suc (length ws)) rising (omega arith) ∙ now

  pub shown-there : (q : Key) → private_table p w' q ≡ told_if ends (held (length ws) false ups) (held (length ws) None (outs_at mids place q))
  shown-there q = by s'.up refl ∙ ap (λ (u : Bool). told_if ends u (held (length ws) None (outs_at mids place q))) (sym up_there)
    where
      by : (b : Bool) → s'.up ≡ b → private_table p w' q ≡ told_if ends s'.up (held (length ws) None (outs_at mids place q))
      by false is = down w' p s' q later is ∙ ap (λ (u : Bool). told_if ends u (held (length ws) None (outs_at mids place q))) (sym is)
      by true is =
          let of = keyed_there (key_in w' s') (group_at mids place) (keyed is) in
          shared w' p s' q later is
          ∙ (ap (λ (x : PeerEnds). option_map (told_to x) (wanted (key_in w' s') w' q)) ends_are
          ∙ (ap (λ (o : Option OutAttrs). option_map (told_to ends) o) (sym (told_there mids place of.0 ws w' (key_in w' s') q groups of.1 of.2 last))
          ∙ ap (λ (u : Bool). told_if ends u (held (length ws) None (outs_at mids place q))) (sym is)))

-- what it shares, over one world more
module _ (p : ℕ) (ws : List World) (w w' : World) (s s' : PeerState) (olds mids : List Group) (old new : Seat) (sharing : IsSharing p ws w s olds old)
    (later : slice_get w'.peers p ≡ Some s') (last : slice_get (ws ++ w' ∷ []) (length ws) ≡ Some w') (groups : AreGroups (ws ++ w' ∷ []) mids) (follows : Follows (length ws) olds mids)
    (ends_are : ends_of s'.peer ≡ old.ends) (ends : new.ends ≡ old.ends) where
  one_more : (n : ℕ) → n + 1 ≡ suc n
  one_more n = omega arith

  by_parts : GoesOn (length ws) s'.up old.ups.items new.ups.items → ((old.group ≡ None) × (old.ups.items ≡ [])) ⊎ (new.group ≡ old.group)
      → ((new.group ≡ None) × (new.ups.items ≡ [])) ⊎ ((group : Group) × (group_at mids new.group ≡ Some group)) → (s'.up ≡ true → IsKeyed (key_in w' s') (group_at mids new.group)) → IsSharing p (ws ++ w' ∷ []) w' s' mids new
  by_parts on same grouped keyed = record {
    shown = λ v x q there. show v x q (which-world ws w' v x there);
    rising = subst (λ (n : ℕ). IsRising 1 new.ups.items n) (sym (length-append ws (w' ∷ []) ∙ one_more (length ws))) on.rising;
    now = on.now;
    grouped = grouped;
    keyed = keyed;
  }
    where
      early : (v : ℕ) (q : Key) → v < length ws → told_if old.ends (held v false old.ups.items) (held v None (outs_at mids new.group q)) ≡ told_if old.ends (held v false old.ups.items) (held v None (outs_at olds old.group q))
      early v q less = by same sharing.grouped
        where
          never : old.ups.items ≡ [] → told_if old.ends (held v false old.ups.items) (held v None (outs_at mids new.group q)) ≡ told_if old.ends (held v false old.ups.items) (held v None (outs_at olds old.group q))
          never none =
              ap (λ (xs : List (Since Bool)). told_if old.ends (held v false xs) (held v None (outs_at mids new.group q))) none
              ∙ sym (ap (λ (xs : List (Since Bool)). told_if old.ends (held v false xs) (held v None (outs_at olds old.group q))) none)

          by : ((old.group ≡ None) × (old.ups.items ≡ [])) ⊎ (new.group ≡ old.group) → ((old.group ≡ None) × (old.ups.items ≡ [])) ⊎ ((group : Group) × (group_at olds old.group ≡ Some group))
              → told_if old.ends (held v false old.ups.items) (held v None (outs_at mids new.group q)) ≡ told_if old.ends (held v false old.ups.items) (held v None (outs_at olds old.group q))
          by (inl fresh) had = never fresh.1
          by (inr is) (inl fresh) = never fresh.1
          by (inr is) (inr had) =
              ap (λ (g : Option ℕ). told_if old.ends (held v false old.ups.items) (held v None (outs_at mids g q))) is
              ∙ ap (λ (o : Option OutAttrs). told_if old.ends (held v false old.ups.items) o) (outs_follow (length ws) olds mids old.group had.0 v q follows had.1 less)

      show : (v : ℕ) (x : World) (q : Key) → ((v < length ws) × (slice_get ws v ≡ Some x)) ⊎ ((v ≡ length ws) × (x ≡ w')) → private_table p x q ≡ told_if new.ends (held v false new.ups.items) (held v None (outs_at mids new.group q))
      show v x q (inl before) =
          sharing.shown v x q before.1
          ∙ (sym (early v q before.0)
          ∙ (ap (λ (u : Bool). told_if old.ends u (held v None (outs_at mids new.group q))) (sym (on.before v before.0))
          ∙ ap (λ (en : PeerEnds). told_if en (held v false new.ups.items) (held v None (outs_at mids new.group q))) (sym ends)))
      show v x q (inr here) =
          ap (λ (y : World). private_table p y q) here.1
          ∙ (shown-there p ws w' s' mids later last groups new.ends (ends_are ∙ sym ends) new.ups.items new.group on.now on.rising keyed q
          ∙ ap (λ (k : ℕ). told_if new.ends (held k false new.ups.items) (held k None (outs_at mids new.group q))) (sym here.0))

  grouped_on : new.group ≡ old.group → (new.ups.items ≡ [] → old.ups.items ≡ []) → ((old.ups.items ≡ []) → new.ups.items ≡ []) → ((new.group ≡ None) × (new.ups.items ≡ [])) ⊎ ((group : Group) × (group_at mids new.group ≡ Some group))
  grouped_on same some none = by sharing.grouped
    where
      by : ((old.group ≡ None) × (old.ups.items ≡ [])) ⊎ ((group : Group) × (group_at olds old.group ≡ Some group)) → ((new.group ≡ None) × (new.ups.items ≡ [])) ⊎ ((group : Group) × (group_at mids new.group ≡ Some group))
      by (inl fresh) = inl (same ∙ fresh.0, none fresh.1)
      by (inr had) = let now = group_follows (length ws) olds mids old.group had.0 follows had.1 in inr (now.0, ap (λ (g : Option ℕ). group_at mids g) same ∙ now.1)

  -- the event wasn't about it
  pub shares-quietly : (e : Happening) → w' ≡ after w e → s' ≡ s → new.ups ≡ old.ups → new.group ≡ old.group → IsSharing p (ws ++ w' ∷ []) w' s' mids new
  shares-quietly e led is ups group =
      by_parts (stayed (length ws) s'.up old.ups.items new.ups.items sharing.rising (ap (λ v. v.items) ups) (sharing.now ∙ ap (λ (t : PeerState). t.up) (sym is))) (inr group)
      (grouped_on group (λ none. ap (λ v. v.items) (sym ups) ∙ none) (λ none. ap (λ v. v.items) ups ∙ none))
      (λ up. keyed_on up)
    where
      keyed_on : s'.up ≡ true → IsKeyed (key_in w' s') (group_at mids new.group)
      keyed_on up =
          let was = keyed_there (key_in w s) (group_at olds old.group) (sharing.keyed (ap (λ (t : PeerState). t.up) (sym is) ∙ up)) in
          let now = group_follows (length ws) olds mids old.group was.0 follows was.1 in
          keyed_by (key_in w' s') (group_at mids new.group) now.0 (ap (λ (g : Option ℕ). group_at mids g) group ∙ now.1)
          (now.2 ∙ (was.2 ∙ (sym (key_stays w e s) ∙ (ap (λ (x : World). key_in x s) (sym led) ∙ ap (λ (t : PeerState). key_in w' t) (sym is)))))

  -- it is down
  pub shares-down : s'.up ≡ false → Rises (length ws) false old.ups.items new.ups.items → new.group ≡ old.group → IsSharing p (ws ++ w' ∷ []) w' s' mids new
  shares-down is rises group =
      let on = rose (length ws) false old.ups.items new.ups.items sharing.rising rises in
      by_parts (subst (λ (u : Bool). GoesOn (length ws) u old.ups.items new.ups.items) (sym is) on) (inr group) (grouped_on group on.some (λ none. still none rises)) (λ up. absurd (let clash = sym up ∙ is in cc))
    where
      still : old.ups.items ≡ [] → Rises (length ws) false old.ups.items new.ups.items → new.ups.items ≡ []
      still none (inl same) = same.0 ∙ none
      still none (inr more) = absurd (more.0 (ap (λ (xs : List (Since Bool)). last_held false xs) none))

  -- it is up
  pub shares-up : s'.up ≡ true → w'.version ≡ length ws → IsSeatedUp w' s' mids old new → IsSharing p (ws ++ w' ∷ []) w' s' mids new
  shares-up is version up =
      let on = rose (length ws) true old.ups.items new.ups.items sharing.rising (subst (λ (n : ℕ). Rises n true old.ups.items new.ups.items) version up.ups) in
      let at = keyed_there (key_in w' s') (slice_get mids up.place) up.keyed in
      by_parts (subst (λ (u : Bool). GoesOn (length ws) u old.ups.items new.ups.items) (sym is) on) (same up.same sharing.grouped) (inr (at.0, ap (λ (g : Option ℕ). group_at mids g) up.group ∙ at.1))
      (λ so. subst (λ (g : Option ℕ). IsKeyed (key_in w' s') (group_at mids g)) (sym up.group) up.keyed)
    where
      same : (old.group ≡ None) ⊎ (old.group ≡ Some up.place) → ((old.group ≡ None) × (old.ups.items ≡ [])) ⊎ ((group : Group) × (group_at olds old.group ≡ Some group)) → ((old.group ≡ None) × (old.ups.items ≡ [])) ⊎ (new.group ≡ old.group)
      same none (inl fresh) = inl fresh
      same (inr had) (inr there) = inr (up.group ∙ sym had)
      same (inl none) (inr there) = absurd (let clash : None ≡ Some there.0 = ap (λ (g : Option ℕ). group_at olds g) (sym none) ∙ there.1 in cc)

-- ---- all that is kept of it

pub seat-goes-on : (e : Happening) (p : ℕ) (ws : List World) (w w' : World) (s' : PeerState) (olds mids : List Group) (old new : Seat) → verdict w e ≡ None → w' ≡ after w e → w'.version ≡ length ws → slice_get (ws ++ w' ∷ []) (length ws) ≡ Some w'
    → slice_get w'.peers p ≡ Some s' → IsSeatOf p ws w olds old → Follows (length ws) olds mids → AreGroups (ws ++ w' ∷ []) mids → IsTurned w' s' (is_about e s') mids old new → IsSeatOf p (ws ++ w' ∷ []) w' mids new
seat-goes-on e p ws w w' s' olds mids old new accepted led version last later h follows groups turned = record {
  by = stands;
  ends = ap (λ (t : PeerState). ends_of t.peer) state_is ∙ ends_now;
  shares = λ so. subst (λ (t : PeerState). IsSharing p (ws ++ w' ∷ []) w' t mids new) (sym state_is) (shares_by so (is_about e s') refl);
}
  where
    stands : StandsBy p (ws ++ w' ∷ []) w' new.sessions
    stands = marked-comes e p ws w w' s' old.sessions new.sessions accepted led h.by later turned.marked.begun turned.marked.ended

    state_is : stands.state ≡ s'
    state_is = same-one stands.state s' (sym stands.there ∙ later)

    next : s' ≡ peer_after e h.by.state
    next = same-one s' (peer_after e h.by.state) (sym later ∙ (ap (λ (x : World). slice_get x.peers p) led ∙ (peers-after e w p ∙ ap (option_map (peer_after e)) h.by.there)))

    ends_was : ends_of s'.peer ≡ old.ends
    ends_was = ap (λ (t : PeerState). ends_of t.peer) next ∙ (ends_stay e h.by.state ∙ h.ends)

    ends_now : ends_of s'.peer ≡ new.ends
    ends_now = ends_was ∙ sym turned.ends

    shares_by : new.shared ≡ true → (b : Bool) → is_about e s' ≡ b → IsSharing p (ws ++ w' ∷ []) w' s' mids new
    shares_by so false is =
        let quiet = turned.quiet is in
        shares-quietly p ws w w' h.by.state s' olds mids old new (h.shares (turned.shared so)) later last groups follows ends_was turned.ends e led
        (next ∙ other_stays e h.by.state (sym (ap (λ (t : PeerState). is_about e t) next) ∙ is)) quiet.0 quiet.1
    shares_by so true is = by_up s'.up refl
      where
        by_up : (b : Bool) → s'.up ≡ b → IsSharing p (ws ++ w' ∷ []) w' s' mids new
        by_up false up =
            let moved = turned.down is so up in
            shares-down p ws w w' h.by.state s' olds mids old new (h.shares (turned.shared so)) later last groups follows ends_was turned.ends up (subst (λ (n : ℕ). Rises n false old.ups.items new.ups.items) version moved.0) moved.1
        by_up true up = shares-up p ws w w' h.by.state s' olds mids old new (h.shares (turned.shared so)) later last groups follows ends_was turned.ends up version (turned.up is so up)

-- groups that are added change nothing of it
pub seat-kept : (p : ℕ) (ws : List World) (w : World) (olds news : List Group) (seat : Seat) → Keeps olds news → IsSeatOf p ws w olds seat → IsSeatOf p ws w news seat
seat-kept p ws w olds news seat keeps h = record {
  by = h.by;
  ends = h.ends;
  shares = λ so. (
      let was = h.shares so in
      record {
        shown = λ v x q there. was.shown v x q there ∙ shown_still v q was.grouped;
        rising = was.rising;
        now = was.now;
        grouped = grouped_still was.grouped;
        keyed = λ up. keyed_still up (was.keyed up);
      });
}
  where
    at_still : (place : Option ℕ) (group : Group) → group_at olds place ≡ Some group → group_at news place ≡ Some group
    at_still None group is = absurd cc
    at_still (Some g) group is = keeps g group is

    grouped_still : ((seat.group ≡ None) × (seat.ups.items ≡ [])) ⊎ ((group : Group) × (group_at olds seat.group ≡ Some group)) → ((seat.group ≡ None) × (seat.ups.items ≡ [])) ⊎ ((group : Group) × (group_at news seat.group ≡ Some group))
    grouped_still (inl fresh) = inl fresh
    grouped_still (inr had) = inr (had.0, at_still seat.group had.0 had.1)

    keyed_still : h.by.state.up ≡ true → IsKeyed (key_in w h.by.state) (group_at olds seat.group) → IsKeyed (key_in w h.by.state) (group_at news seat.group)
    keyed_still up keyed = let at = keyed_there (key_in w h.by.state) (group_at olds seat.group) keyed in keyed_by (key_in w h.by.state) (group_at news seat.group) at.0 (at_still seat.group at.0 at.1) at.2

    shown_still : (v : ℕ) (q : Key) → ((seat.group ≡ None) × (seat.ups.items ≡ [])) ⊎ ((group : Group) × (group_at olds seat.group ≡ Some group))
        → told_if seat.ends (held v false seat.ups.items) (held v None (outs_at olds seat.group q)) ≡ told_if seat.ends (held v false seat.ups.items) (held v None (outs_at news seat.group q))
    shown_still v q (inl fresh) =
        ap (λ (xs : List (Since Bool)). told_if seat.ends (held v false xs) (held v None (outs_at olds seat.group q))) fresh.1
        ∙ sym (ap (λ (xs : List (Since Bool)). told_if seat.ends (held v false xs) (held v None (outs_at news seat.group q))) fresh.1)
    shown_still v q (inr had) =
        ap (λ (o : Option Group). told_if seat.ends (held v false seat.ups.items) (held v None (outs_in q o))) (had.1 ∙ sym (at_still seat.group had.0 had.1))
