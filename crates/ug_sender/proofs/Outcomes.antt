-- What the answer of a round says of what it did.
use Rattle.std.proofs.Common.{◌≡◌, ℕ, ◌<◌, ◌≤◌, Bool, true, false, List, [], ◌∷◌, ◌++◌, ◌+◌, length, map, length-append, Option, Some, None, refl, sym, ◌∙◌, ap, subst, arith, inl, inr, take, append_assoc}
use Rattle.std.specs.Prelude.{◌||◌, ◌⊎◌, IsSome}
use Rattle.std.proofs.lemmas.List.{append-nil}
use Rattle.std.proofs.lemmas.List.{length-take-le, length-map}
use Rattle.ug_edge.specs.Told.{Rose, SendsPiece}
use Rattle.ug_turnstile.specs.Passes.{StartsWith}
use Rattle.ug_board.specs.Deeds.{Deed, Begins, Hands, Loses}
use Rattle.ug_sender.specs.declared.pumped.Pumped.{Pumped}
use Rattle.ug_sender.specs.declared.pumped.Pumped.TheVariants.{Begun as DidBegin, Sent as DidSend, Idle as WasIdle, Lost as WasLost, Stopped as WasStopped}
use Rattle.ug_sender.specs.declared.pumped.Round.{Round}
use Rattle.ug_sender.specs.declared.turn.Ending.{Ending}
use Rattle.ug_sender.specs.declared.turn.Ending.TheVariants.{Begun, Idle, Stop, More}
use Rattle.ug_sender.specs.declared.turn.Taken.{Taken}
use Rattle.ug_sender.specs.declared.sending.Went.{Went}
use Rattle.ug_sender.specs.declared.sending.Went.TheVariants.{Well, Ill}
use Rattle.ug_sender.specs.Courses.{Course, is_unnoted, KeepsWire}
use Rattle.ug_sender.specs.Rounds.{Packet, hands, bytes_in, ending_deeds, begun_by, TellsTurn, SendsBy, BeginsBy, IsBelow, TellsWent, CountsFault, fate_after, open_after, outcome, outcome_of, with_packets, TellsEnd, TellsRound}
use Rattle.ug_sender.specs.Tellings.{IsSameWire, Shown}
use Rattle.ug_sender.proofs.Pieces.{nothing-sent}
use Rattle.ug_sender.proofs.Wires.{or-false}

-- Where a session is open, one was begun on the wire.
pub begun-some :
    (cs : List Course) (ds : List (Deed (List ℕ))) (told : Option (List (List ℕ))) (begun faults : ℕ) (latest : Option ℕ) (unnoted : Bool)
    → KeepsWire cs ds told begun faults latest unnoted → IsSome latest → 0 < begun
begun-some [] ds told begun faults None unnoted kept some = cc
begun-some [] ds told begun faults (Some n) unnoted kept some = let at = kept.latest in cc
begun-some (c ∷ cs) ds told begun faults latest unnoted kept some = let b = kept.begun in omega arith

bytes-none : (packets : List Packet) → bytes_in None packets ≡ []
bytes-none [] = refl
bytes-none (packet ∷ packets) = bytes-none packets

-- Where no session is open, nothing fills the buffer.
pub filled-none : (taken : Taken) (buf : List ℕ) (ds ds' : List (Deed (List ℕ))) → TellsTurn None taken buf ds ds' → taken.filled ≡ 0
filled-none taken buf ds ds' turn =
    let f = turn.filled in
    let none : length (take taken.filled buf) ≡ 0 = ap length (turn.bytes ∙ bytes-none turn.packets) in
    omega (arith, length-take-le taken.filled buf turn.filled)

pub below-as : (ending : Ending) (a b : ℕ) → b ≡ a → IsBelow a ending → IsBelow b ending
below-as ending a b same below = subst (λ n. IsBelow n ending) (sym same) below

-- How the answer tells what ended the turn

pub idle-outcome : (ending : Ending) (sent begun : Went) → outcome ending sent begun ≡ WasIdle → (ending ≡ Idle) × (sent ≡ Well) × (begun ≡ Well)
idle-outcome (Begun n) Well Well is = cc
idle-outcome Idle Well Well is = (refl, refl, refl)
idle-outcome Stop Well Well is = cc
idle-outcome More Well Well is = cc
idle-outcome ending Well (Ill noted) is = cc
idle-outcome ending (Ill noted) begun is = cc

pub stop-outcome : (ending : Ending) (sent begun : Went) → outcome ending sent begun ≡ WasStopped → (ending ≡ Stop) × (sent ≡ Well) × (begun ≡ Well)
stop-outcome (Begun n) Well Well is = cc
stop-outcome Idle Well Well is = cc
stop-outcome Stop Well Well is = (refl, refl, refl)
stop-outcome More Well Well is = cc
stop-outcome ending Well (Ill noted) is = cc
stop-outcome ending (Ill noted) begun is = cc

pub sent-outcome : (ending : Ending) (sent begun : Went) → outcome ending sent begun ≡ DidSend → ending ≡ More
sent-outcome (Begun n) Well Well is = cc
sent-outcome Idle Well Well is = cc
sent-outcome Stop Well Well is = cc
sent-outcome More Well Well is = refl
sent-outcome ending Well (Ill noted) is = cc
sent-outcome ending (Ill noted) begun is = cc

well-not-lost : (ending : Ending) → outcome_of ending ≡ WasLost → ⊥
well-not-lost (Begun n) is = cc
well-not-lost Idle is = cc
well-not-lost Stop is = cc
well-not-lost More is = cc

-- Faults

rose-then : (a b c : ℕ) → Rose a b → b ≤ c → Rose a c
rose-then a b c (inl less) most = let few : a < c = omega arith in inl few
rose-then a b c (inr full) most = inr full

pub round-rose :
    (ending : Ending) (sent begun : Went) (f0 f1 f2 : ℕ) → CountsFault sent f0 f1 → CountsFault begun f1 f2 → outcome ending sent begun ≡ WasLost → Rose f0 f2
round-rose ending Well Well f0 f1 f2 first second is = absurd (well-not-lost ending is)
round-rose ending Well (Ill noted) f0 f1 f2 first second is = subst (λ f. Rose f f2) first second.0
round-rose ending (Ill noted) Well f0 f1 f2 first second is = subst (λ f. Rose f0 f) (sym second) first.0
round-rose ending (Ill noted) (Ill other) f0 f1 f2 first second is = rose-then f0 f1 f2 first.0 second.1

pub round-unharmed :
    (ending : Ending) (sent begun : Went) (f0 f1 f2 : ℕ) → CountsFault sent f0 f1 → CountsFault begun f1 f2 → (outcome ending sent begun ≡ WasLost → ⊥) → f2 ≡ f0
round-unharmed ending Well Well f0 f1 f2 first second other = second ∙ first
round-unharmed ending Well (Ill noted) f0 f1 f2 first second other = absurd (other refl)
round-unharmed ending (Ill noted) begun f0 f1 f2 first second other = absurd (other refl)

-- Whether a loss was not taken changes only where a call failed.
pub unnoted-rose :
    (sent begun : Went) (u u' : Bool) (f0 f1 f2 : ℕ) → u' ≡ ((u || is_unnoted (fate_after sent)) || is_unnoted (fate_after begun))
    → CountsFault sent f0 f1 → CountsFault begun f1 f2 → (u' ≡ u) ⊎ Rose f0 f2
unnoted-rose Well Well u u' f0 f1 f2 is first second = inl (is ∙ (or-false (u || false) ∙ or-false u))
unnoted-rose Well (Ill noted) u u' f0 f1 f2 is first second = inr (subst (λ f. Rose f f2) first second.0)
unnoted-rose (Ill noted) Well u u' f0 f1 f2 is first second = inr (subst (λ f. Rose f0 f) (sym second) first.0)
unnoted-rose (Ill noted) (Ill other) u u' f0 f1 f2 is first second = inr (rose-then f0 f1 f2 first.0 second.1)

counts-up : (went : Went) (f f' : ℕ) → CountsFault went f f' → f ≤ f'
counts-up Well f f' count = omega arith
counts-up (Ill noted) f f' count = count.1

pub round-faults : (sent begun : Went) (f0 f1 f2 : ℕ) → CountsFault sent f0 f1 → CountsFault begun f1 f2 → f0 ≤ f2
round-faults sent begun f0 f1 f2 first second =
    let a = counts-up sent f0 f1 first in let b = counts-up begun f1 f2 second in omega arith

-- A round without packets, at whose end there was nothing to send, leaves the wire as it is.

no-packets : (packets : List Packet) → length packets ≡ 0 → packets ≡ []
no-packets [] none = refl
no-packets (packet ∷ packets) none = let bad : ⊥ = omega arith in absurd bad

begins-none : (ending : Ending) (told told' : Option (List (List ℕ))) (begun begun' : ℕ) → (ending ≡ Idle) ⊎ (ending ≡ Stop) → BeginsBy ending told begun told' begun' → IsSameWire told begun told' begun'
begins-none (Begun n) told told' begun begun' (inl is) begins_it = cc
begins-none (Begun n) told told' begun begun' (inr is) begins_it = cc
begins-none Idle told told' begun begun' is begins_it = begins_it
begins-none Stop told told' begun begun' is begins_it = begins_it
begins-none More told told' begun begun' is begins_it = begins_it

ended-idly : (ending : Ending) (sent begun : Went) → (outcome ending sent begun ≡ WasIdle) ⊎ (outcome ending sent begun ≡ WasStopped) → ((ending ≡ Idle) ⊎ (ending ≡ Stop)) × (sent ≡ Well)
ended-idly ending sent begun (inl is) = let all = idle-outcome ending sent begun is in (inl all.0, all.1)
ended-idly ending sent begun (inr is) = let all = stop-outcome ending sent begun is in (inr all.0, all.1)

pub round-still :
    (taken : Taken) (buf : List ℕ) (sent begun : Went) (latest : Option ℕ) (ds ds' : List (Deed (List ℕ)))
    (told0 told1 told2 : Option (List (List ℕ))) (begun0 begun1 begun2 : ℕ)
    → TellsTurn latest taken buf ds ds' → SendsBy sent told0 told1 (take taken.filled buf) → begun1 ≡ begun0
    → BeginsBy taken.ending told1 begun1 told2 begun2 → taken.packets ≡ 0
    → (outcome taken.ending sent begun ≡ WasIdle) ⊎ (outcome taken.ending sent begun ≡ WasStopped)
    → IsSameWire told0 begun0 told2 begun2
round-still taken buf sent begun latest ds ds' told0 told1 told2 begun0 begun1 begun2 turn sends counted begins_it none is =
    let ended = ended-idly taken.ending sent begun is in
    let empty : bytes_in latest turn.packets ≡ [] = ap (bytes_in latest) (no-packets turn.packets (sym turn.count ∙ none)) in
    let nothing : SendsPiece told0 told1 [] = subst (λ m. SendsPiece told0 told1 m) (turn.bytes ∙ empty) (subst (λ w. SendsBy w told0 told1 (take taken.filled buf)) ended.1 sends) in
    let same = begins-none taken.ending told1 told2 begun1 begun2 ended.0 begins_it in
    (same.0 ∙ nothing-sent told0 told1 nothing, same.1 ∙ counted)

-- What a round tells

begun_numbers : Ending → List ℕ
begun_numbers (Begun n) = n ∷ []
begun_numbers Idle = []
begun_numbers Stop = []
begun_numbers More = []

ending-numbers : (ending : Ending) → ending_deeds ending ≡ map (λ n. Begins n) (begun_numbers ending)
unfolding begun_numbers
ending-numbers (Begun n) = refl
ending-numbers Idle = refl
ending-numbers Stop = refl
ending-numbers More = refl

-- the losses that a call leads to
unfoldable pub Losses : List (Deed (List ℕ)) → List (Deed (List ℕ)) → Type 0
Losses old new = (lost : List ℕ) × (new ≡ old ++ map (λ n. Loses n) lost)

pub went-losses : (went : Went) (session : Option ℕ) (old new : List (Deed (List ℕ))) → TellsWent went session old new → Losses old new
unfolding Losses
went-losses Well session old new tells = ([], tells ∙ sym (append-nil old))
went-losses (Ill noted) None old new tells = absurd tells
went-losses (Ill true) (Some n) old new tells = (n ∷ [], tells)
went-losses (Ill false) (Some n) old new tells = ([], tells ∙ sym (append-nil old))

abbrev pub loses : List ℕ → List (Deed (List ℕ))
loses numbers = map (λ n. Loses n) numbers

pub map-both : (a b : List ℕ) → loses (a ++ b) ≡ loses a ++ loses b
map-both [] b = refl
map-both (x ∷ a) b = ap (λ l. Loses x ∷ l) (map-both a b)

lost-told :
    (ending : Ending) (ds0 ds1 ds2 ds3 : List (Deed (List ℕ))) → ds1 ≡ ds0 ++ ending_deeds ending → Losses ds1 ds2 → Losses ds2 ds3
    → (begun : List ℕ) × (lost : List ℕ) × (ds3 ≡ ds0 ++ (map (λ n. Begins n) begun ++ map (λ n. Loses n) lost))
unfolding Losses
lost-told ending ds0 ds1 ds2 ds3 grown first second =
    let b : List (Deed (List ℕ)) = map (λ n. Begins n) (begun_numbers ending) in
    let l1 = map (λ n. Loses n) first.0 in
    let l2 = map (λ n. Loses n) second.0 in (
      begun_numbers ending,
      first.0 ++ second.0,
      second.1 ∙ (ap (λ d. d ++ l2) (first.1 ∙ ap (λ d. d ++ l1) (grown ∙ ap (λ d. ds0 ++ d) (ending-numbers ending)))
          ∙ (append_assoc (ds0 ++ b) l1 l2 ∙ (append_assoc ds0 b (l1 ++ l2) ∙ ap (λ l. ds0 ++ (b ++ l)) (sym (map-both first.0 second.0))))),
    )

abbrev shows : List (Deed (List ℕ)) → Option ℕ → Bool → Shown
shows deeds latest unnoted = record { deeds = deeds; latest = latest; unnoted = unnoted }

same-shown :
    (ds ds' : List (Deed (List ℕ))) (latest : Option ℕ) (u u' : Bool) → ds' ≡ ds → u' ≡ u → shows ds' latest u' ≡ shows ds latest u
same-shown ds ds' latest u u' same known = ap (λ d. shows d latest u') same ∙ ap (λ b. shows ds latest b) known

twice-false : (u : Bool) → ((u || false) || false) ≡ u
twice-false u = or-false (u || false) ∙ or-false u

pub round-told :
    (ending : Ending) (sent begun : Went) (latest : Option ℕ) (u : Bool) (ds0 ds1 ds2 ds3 : List (Deed (List ℕ)))
    → ds1 ≡ ds0 ++ ending_deeds ending → TellsWent sent latest ds1 ds2 → TellsWent begun (begun_by ending) ds2 ds3
    → TellsEnd (outcome ending sent begun) (record { deeds = ds0; latest = latest; unnoted = u })
    (record { deeds = ds3; latest = open_after latest ending sent begun; unnoted = ((u || is_unnoted (fate_after sent)) || is_unnoted (fate_after begun)) })
round-told (Begun n) Well Well latest u ds0 ds1 ds2 ds3 grown first second = (n, second ∙ (first ∙ grown), refl, twice-false u)
round-told Idle Well Well latest u ds0 ds1 ds2 ds3 grown first second =
    same-shown ds0 ds3 latest u _ (second ∙ (first ∙ (grown ∙ append-nil ds0))) (twice-false u)
round-told Stop Well Well latest u ds0 ds1 ds2 ds3 grown first second =
    same-shown ds0 ds3 latest u _ (second ∙ (first ∙ (grown ∙ append-nil ds0))) (twice-false u)
round-told More Well Well latest u ds0 ds1 ds2 ds3 grown first second =
    same-shown ds0 ds3 latest u _ (second ∙ (first ∙ (grown ∙ append-nil ds0))) (twice-false u)
round-told ending Well (Ill noted) latest u ds0 ds1 ds2 ds3 grown first second =
    lost-told ending ds0 ds1 ds2 ds3 grown (went-losses Well latest ds1 ds2 first) (went-losses (Ill noted) (begun_by ending) ds2 ds3 second)
round-told ending (Ill noted) begun latest u ds0 ds1 ds2 ds3 grown first second =
    lost-told ending ds0 ds1 ds2 ds3 grown (went-losses (Ill noted) latest ds1 ds2 first) (went-losses begun (begun_by ending) ds2 ds3 second)

-- the answer of a round, by what its calls answered
pub round-tells :
    (round : Round) (d0 d3 : List (Deed (List ℕ))) (l0 l3 : Option ℕ) (u0 u3 : Bool)
    (taken : Taken) (buf : List ℕ) (sent begun : Went) (latest : Option ℕ) (u : Bool) (ds0 ds1 ds2 : List (Deed (List ℕ)))
    → TellsTurn latest taken buf ds0 ds1 → TellsWent sent latest ds1 ds2 → TellsWent begun (begun_by taken.ending) ds2 d3
    → round.packets ≡ taken.packets → round.end ≡ outcome taken.ending sent begun
    → d0 ≡ ds0 → l0 ≡ latest → u0 ≡ u → l3 ≡ open_after latest taken.ending sent begun
    → u3 ≡ ((u || is_unnoted (fate_after sent)) || is_unnoted (fate_after begun))
    → TellsRound round (shows d0 l0 u0) (shows d3 l3 u3)
round-tells round d0 d3 l0 l3 u0 u3 taken buf sent begun latest u ds0 ds1 ds2 turn first second packets end deeds was known is gone =
    let grown : ds1 ≡ (ds0 ++ hands turn.packets) ++ ending_deeds taken.ending =
    turn.grown ∙ sym (append_assoc ds0 (hands turn.packets) (ending_deeds taken.ending)) in
    let told = round-told taken.ending sent begun latest u (ds0 ++ hands turn.packets) ds1 ds2 d3 grown first second in
    (turn.packets, packets ∙ turn.count, rw (end, deeds, was, known, is, gone) told)

-- A round by which the pass was handed nothing, and that noted nothing, had nothing to send.

went-longer : (went : Went) (session : Option ℕ) (old new : List (Deed (List ℕ))) → TellsWent went session old new → length old ≤ length new
went-longer Well session old new tells = let same = ap length tells in omega arith
went-longer (Ill noted) None old new tells = absurd tells
went-longer (Ill true) (Some n) old new tells = let more = ap length tells in omega (arith, length-append old (Loses n ∷ []))
went-longer (Ill false) (Some n) old new tells = let same = ap length tells in omega arith

pub length-hands : (packets : List Packet) → length (hands packets) ≡ length packets
length-hands packets = length-map packets (λ p. Hands p.session p.bytes)

done_by :
    (ending : Ending) (sent begun : Went) (old new : List (Deed (List ℕ))) → sent ≡ Well → TellsWent begun (begun_by ending) old new
    → length (ending_deeds ending) ≡ 0 → (ending ≡ More → ⊥)
    → (outcome ending sent begun ≡ WasIdle) ⊎ (outcome ending sent begun ≡ WasStopped)
done_by (Begun n) sent begun old new well tells none other = let bad : ⊥ = omega arith in absurd bad
done_by Idle Well Well old new well tells none other = inl refl
done_by Idle Well (Ill noted) old new well tells none other = absurd tells
done_by Idle (Ill noted) begun old new well tells none other = cc
done_by Stop Well Well old new well tells none other = inr refl
done_by Stop Well (Ill noted) old new well tells none other = absurd tells
done_by Stop (Ill noted) begun old new well tells none other = cc
done_by More sent begun old new well tells none other = absurd (other refl)

pub round-done :
    (taken : Taken) (buf : List ℕ) (sent begun : Went) (latest : Option ℕ) (ds0 ds1 ds2 ds3 : List (Deed (List ℕ)))
    → TellsTurn latest taken buf ds0 ds1 → TellsWent sent latest ds1 ds2 → TellsWent begun (begun_by taken.ending) ds2 ds3
    → (taken.filled ≡ 0 → sent ≡ Well) → (taken.ending ≡ More → 0 < taken.packets) → ds3 ≡ ds0
    → (outcome taken.ending sent begun ≡ WasIdle) ⊎ (outcome taken.ending sent begun ≡ WasStopped)
round-done taken buf sent begun latest ds0 ds1 ds2 ds3 turn first second unfilled more same =
    let a = went-longer sent latest ds1 ds2 first in
    let b = went-longer begun (begun_by taken.ending) ds2 ds3 second in
    let grown : length ds1 ≡ length ds0 + (length (hands turn.packets) + length (ending_deeds taken.ending)) =
    ap length turn.grown ∙ (length-append ds0 (hands turn.packets ++ ending_deeds taken.ending)
    ∙ ap (λ n. length ds0 + n) (length-append (hands turn.packets) (ending_deeds taken.ending))) in
    let back : length ds3 ≡ length ds0 = ap length same in
    let none : length turn.packets ≡ 0 = omega (arith, length-hands turn.packets) in
    let ended : length (ending_deeds taken.ending) ≡ 0 = omega arith in
    let empty : length (take taken.filled buf) ≡ 0 = ap length (turn.bytes ∙ ap (bytes_in latest) (no-packets turn.packets none)) in
    let f = turn.filled in
    let unfull : taken.filled ≡ 0 = omega (arith, length-take-le taken.filled buf turn.filled) in
    let count = turn.count in
    done_by taken.ending sent begun ds2 ds3 (unfilled unfull) second ended (λ is. let some = more is in omega arith)

-- Deeds are added, and none is taken back.

end-adds : (end : Pumped) (old new : Shown) → TellsEnd end old new → StartsWith new.deeds old.deeds
end-adds DidBegin old new told = (Begins told.0 ∷ [], told.1)
end-adds DidSend old new told = ([], ap (λ s. s.deeds) told ∙ sym (append-nil old.deeds))
end-adds WasIdle old new told = ([], ap (λ s. s.deeds) told ∙ sym (append-nil old.deeds))
end-adds WasStopped old new told = ([], ap (λ s. s.deeds) told ∙ sym (append-nil old.deeds))
end-adds WasLost old new told = (map (λ n. Begins n) told.0 ++ map (λ n. Loses n) told.1, told.2)

-- what a round adds: no less than the packets that were handed out
pub round-adds :
    (round : Round) (old new : Shown) → TellsRound round old new
    → (rest : List (Deed (List ℕ))) × (new.deeds ≡ old.deeds ++ rest) × (round.packets ≤ length rest)
round-adds round old new told =
    let end = end-adds round.end (with_packets told.0 old) new told.2 in
    let count = told.1 in (
      hands told.0 ++ end.0,
      end.1 ∙ append_assoc old.deeds (hands told.0) end.0,
      omega (arith, length-append (hands told.0) end.0, length-hands told.0),
    )

pub starts-longer : {X : Type 0} (old new : List X) → StartsWith new old → length old ≤ length new
starts-longer {X} old new starts = let e = ap length starts.1 in omega (arith, length-append old starts.0)

longer-by : {X : Type 0} (rest old new : List X) → new ≡ old ++ rest → (new ≡ old → ⊥) → length old < length new
longer-by [] old new is other = absurd (other (is ∙ append-nil old))
longer-by (x ∷ rest) old new is other = let e = ap length is in omega (arith, length-append old (x ∷ rest))

pub starts-longer-other : {X : Type 0} (old new : List X) → StartsWith new old → (new ≡ old → ⊥) → length old < length new
starts-longer-other {X} old new starts other = longer-by starts.0 old new starts.1 other

-- a round in which something was done
pub round-longer :
    (round : Round) (old new : Shown) (first : List (Deed (List ℕ))) → TellsRound round old new → StartsWith old.deeds first
    → (new.deeds ≡ old.deeds → (round.end ≡ WasIdle) ⊎ (round.end ≡ WasStopped)) → ((round.end ≡ WasIdle) ⊎ (round.end ≡ WasStopped) → ⊥)
    → length first < length new.deeds
round-longer round old new first told starts done other =
    let adds = round-adds round old new told in
    let more = longer-by adds.0 old.deeds new.deeds adds.1 (λ same. other (done same)) in
    omega (arith, starts-longer first old.deeds starts)

-- a round in which packets were handed out
pub packets-longer :
    (round : Round) (old new : Shown) → TellsRound round old new → 0 < round.packets → length old.deeds < length new.deeds
packets-longer round old new told some =
    let adds = round-adds round old new told in
    let e = ap length adds.1 in
    let m = adds.2 in omega (arith, length-append old.deeds adds.0)

pub round-starts : (round : Round) (old new : Shown) → TellsRound round old new → StartsWith new.deeds old.deeds
round-starts round old new told = let adds = round-adds round old new told in (adds.0, adds.1)
