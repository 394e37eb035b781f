-- A world that follows, in which each subgroup desires what its key wants there, keeps what is so of each peer.
use Rattle.std.proofs.Common.{◌≡◌, ℕ, ◌+◌, zero, suc, true, List, [], ◌∷◌, ◌++◌, map, slice_get, Option, Some, None, refl, sym, ◌∙◌, ap, arith}
use Rattle.std.specs.Prelude.{◌||◌, is_some}
use Rattle.std.specs.Option.{option_map}
use Rattle.std.proofs.lemmas.Option.{slice_get-map}
use Rattle.ug_types.specs.Messages.{Message}
use Rattle.ug_board.specs.Deeds.{Deed}
use Rattle.ug_board.specs.Sessions.{sessions_of}
use Rattle.ug_outbound.specs.declared.key.GroupKey.{GroupKey}
use Rattle.ug_outbound.specs.Keys.{ends_of}
use Rattle.ug_message.specs.NextHops.{told_to}
use Rattle.ug_world.specs.declared.peer_state.PeerState.{PeerState}
use Rattle.ug_world.specs.World.{World}
use Rattle.ug_speaker.specs.Told.{handed_in}
use Rattle.ug_speaker.proofs.Bools.{both}
use Rattle.ug_speaker.proofs.ToldRight.{right-longer}
use Rattle.ug_group_rules.specs.declared.phase.Phase.{Phase}
use Rattle.ug_group_rules.specs.Packets.{Rows, Out, wanted_rows, with_all_desired}
use Rattle.ug_group_rules.specs.Machine.{Subgroup, Member, System, retabled, counted, counted_from}
use Rattle.ug_group_rules.proofs.StreamsInWorlds.{IsAs, stream-longer, stream-as}
use Rattle.ug_group_rules.proofs.Tables.{row_at, is_forced, desired-forced, desired-exact, wanted-sorted}
use Rattle.ug_group_rules.proofs.WantedTables.{table_in}
use Rattle.ug_group_rules.proofs.MemberStreams.{IsKept, some-mapped}
use Rattle.ug_group_rules.proofs.Seated.{stream_of, IsPlaced}

-- other rows that are desired change nothing of the stream
pub desired-as : (rows : Rows) (out : Out) (ends : _) (phase : Phase) → IsAs (table_in ends out.formatted) (table_in ends (with_all_desired rows out).formatted) (is_forced out) (is_forced (with_all_desired rows out)) phase phase
desired-as rows out ends phase = record {
  same = λ q. refl;
  forces = λ q forced there.
      let here : is_some (row_at out.formatted q) ≡ true = sym (some-mapped (told_to ends) (row_at out.formatted q)) ∙ there in
      desired-forced rows out q ∙ both (is_some (row_at out.formatted q) || is_some (row_at rows q)) (is_forced out q) (rw here refl) forced;
  rests = λ e. e;
  begun = λ e. e;
}

pub kept-retabled : (old w : World) (x : Subgroup) → IsKept old x → IsKept w (retabled w x)
kept-retabled old w x kept = record {
  exact = desired-exact (wanted_rows x.key w) x.out (wanted-sorted x.key w) kept.exact;
  desired = refl;
  nothing = kept.nothing;
  closed = kept.closed;
  due = kept.due;
  marked = kept.marked;
}

pub retabled-at : (w : World) (xs : List (Option Subgroup)) (g : ℕ) (x : Subgroup) → slice_get xs g ≡ Some (Some x) → slice_get (map (option_map (retabled w)) xs) g ≡ Some (Some (retabled w x))
retabled-at w xs g x is = slice_get-map (option_map (retabled w)) xs g ∙ ap (option_map (option_map (retabled w))) is

-- what is there then was there
pub retabled-from : (w : World) (xs : List (Option Subgroup)) (g : ℕ) (y : Subgroup) → slice_get (map (option_map (retabled w)) xs) g ≡ Some (Some y) → (x : Subgroup) × (slice_get xs g ≡ Some (Some x)) × (retabled w x ≡ y)
retabled-from w xs g y is = by (slice_get xs g) refl (sym (slice_get-map (option_map (retabled w)) xs g) ∙ is)
  where
    by : (o : Option (Option Subgroup)) → slice_get xs g ≡ o → option_map (option_map (retabled w)) o ≡ Some (Some y) → (x : Subgroup) × (slice_get xs g ≡ Some (Some x)) × (retabled w x ≡ y)
    by None at e = absurd cc
    by (Some None) at e = absurd cc
    by (Some (Some x)) at e = (x, at, (let same : retabled w x ≡ y = cc in same))

pub placed-retabled : (p : ℕ) (worlds : List World) (w : World) (deeds : List (Deed Message)) (s : PeerState) (m : Member) (xs : List (Option Subgroup)) (key : GroupKey)
    → IsPlaced p worlds deeds s m xs key → IsPlaced p (worlds ++ w ∷ []) deeds s m (map (option_map (retabled w)) xs) key
placed-retabled p worlds w deeds s m xs key placed = record {
  counted = placed.counted;
  told = λ n. right-longer p n s.peer worlds (w ∷ []) (handed_in n (sessions_of deeds)) (placed.told n);
  sat = λ t at. let sat = placed.sat t at in record {
    live = sat.live;
    subgroup = retabled w sat.subgroup;
    there = retabled-at w xs t.sub sat.subgroup sat.there;
    key_is = sat.key_is;
    stream =
        stream-as p s.sessions s.peer (worlds ++ w ∷ []) (table_in (ends_of s.peer) sat.subgroup.out.formatted) (table_in (ends_of s.peer) (retabled w sat.subgroup).out.formatted) (is_forced sat.subgroup.out) (is_forced (retabled w sat.subgroup).out)
        sat.subgroup.ending sat.subgroup.phase sat.subgroup.phase (stream_of s deeds t.rest) (desired-as (wanted_rows sat.subgroup.key w) sat.subgroup.out (ends_of s.peer) sat.subgroup.phase)
        (stream-longer p s.sessions s.peer worlds (w ∷ []) (table_in (ends_of s.peer) sat.subgroup.out.formatted) (is_forced sat.subgroup.out) sat.subgroup.ending sat.subgroup.phase (stream_of s deeds t.rest) sat.stream);
    tellable = sat.tellable;
    fitting = sat.fitting;
    untold = sat.untold;
  };
  empty = placed.empty;
}

-- ---- counts

pub counted-at : (s : System) (g : ℕ) (xs : List (Option Subgroup)) (k : ℕ) → slice_get (counted_from s g xs) k ≡ option_map (option_map (counted s (g + k))) (slice_get xs k)
counted-at s g [] k = refl
counted-at s g (x ∷ xs) zero = let here : g + 0 ≡ g = omega arith in rw here refl
counted-at s g (x ∷ xs) (suc k) = let there : g + 1 + k ≡ g + suc k = omega arith in rw (sym there) (counted-at s (g + 1) xs k)

pub counted-from : (s : System) (xs : List (Option Subgroup)) (k : ℕ) (y : Subgroup) → slice_get (counted_from s 0 xs) k ≡ Some (Some y) → (x : Subgroup) × (slice_get xs k ≡ Some (Some x)) × (counted s (0 + k) x ≡ y)
counted-from s xs k y is = by (slice_get xs k) refl (sym (counted-at s 0 xs k) ∙ is)
  where
    by : (o : Option (Option Subgroup)) → slice_get xs k ≡ o → option_map (option_map (counted s (0 + k))) o ≡ Some (Some y) → (x : Subgroup) × (slice_get xs k ≡ Some (Some x)) × (counted s (0 + k) x ≡ y)
    by None at e = absurd cc
    by (Some None) at e = absurd cc
    by (Some (Some x)) at e = (x, at, (let same : counted s (0 + k) x ≡ y = cc in same))

pub placed-counted : (p : ℕ) (worlds : List World) (deeds : List (Deed Message)) (s : PeerState) (m : Member) (state : System) (xs : List (Option Subgroup)) (key : GroupKey)
    → IsPlaced p worlds deeds s m xs key → IsPlaced p worlds deeds s m (counted_from state 0 xs) key
placed-counted p worlds deeds s m state xs key placed = record {
  counted = placed.counted;
  told = placed.told;
  sat = λ t at. let sat = placed.sat t at in record {
    live = sat.live;
    subgroup = counted state (0 + t.sub) sat.subgroup;
    there = counted-at state 0 xs t.sub ∙ ap (option_map (option_map (counted state (0 + t.sub)))) sat.there;
    key_is = sat.key_is;
    stream = sat.stream;
    tellable = sat.tellable;
    fitting = sat.fitting;
    untold = sat.untold;
  };
  empty = placed.empty;
}
