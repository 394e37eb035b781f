-- Lists that grow by one item, of which the rest is known.
use Rattle.std.proofs.Common.{◌≡◌, ℕ, zero, suc, ◌+◌, ◌-◌, ◌<◌, true, List, [], ◌∷◌, ◌++◌, map, length, refl, sym, ◌∙◌, ap, subst, append_assoc, arith}
use Rattle.std.specs.Prelude.{replicate}
use Rattle.std.proofs.lemmas.List.{map-append, length-replicate}
use Rattle.rand_pcg.specs.Lcg.{Lcg}
use Rattle.ug_outbound.specs.declared.peer.Peer.{Peer}
use Rattle.ug_events.specs.declared.event.Event.{Event}
use Rattle.ug_events.specs.Events.{Happening, ComesUp}
use Rattle.ug_events.specs.Views.{event_of}
use Rattle.ug_selfrun.specs.Configuration.{peers_from, workload_peer, peer_name}
use Rattle.ug_selfrun.specs.Workload.{Drawing, ups_from, events_from, event_drawn}

-- one item more, from the front of the rest
grown : (before after : List Event) (e : Event) (rest : List Happening) → after ≡ before ++ e ∷ [] → map event_of after ++ rest ≡ map event_of before ++ (event_of e ∷ rest)
grown before after e rest is =
    ap (λ (es : List Event). map event_of es ++ rest) is
    ∙ (ap (λ (hs : List Happening). hs ++ rest) (map-append event_of before (e ∷ [])) ∙ append_assoc (map event_of before) (event_of e ∷ []) rest)

-- one less is left
one_less : (n i : ℕ) → i < n → n - i ≡ suc (n - (i + 1))
one_less n i h = omega arith

ups_more : (n i : ℕ) → i < n → ups_from (1 + i) (n - i) ≡ ComesUp (peer_name (1 + i)) ∷ ups_from (1 + (i + 1)) (n - (i + 1))
ups_more n i h = ap (ups_from (1 + i)) (one_less n i h) ∙ ap (λ (k : ℕ). ComesUp (peer_name (1 + i)) ∷ ups_from k (n - (i + 1))) (omega arith)

pub ups_step : (n i : ℕ) (before after : List Event) (e : Event) (all : List Happening) → i < n → after ≡ before ++ e ∷ [] → event_of e ≡ ComesUp (peer_name (1 + i))
    → map event_of before ++ ups_from (1 + i) (n - i) ≡ all → map event_of after ++ ups_from (1 + (i + 1)) (n - (i + 1)) ≡ all
ups_step n i before after e all h is says so =
    grown before after e (ups_from (1 + (i + 1)) (n - (i + 1))) is
    ∙ (ap (λ (x : Happening). map event_of before ++ (x ∷ ups_from (1 + (i + 1)) (n - (i + 1)))) says
    ∙ (ap (λ (hs : List Happening). map event_of before ++ hs) (sym (ups_more n i h)) ∙ so))

pub drawn_step : (peers n i : ℕ) (d : Drawing) (before after : List Event) (e : Event) (d' : Drawing) (all : List Happening) → i < n → after ≡ before ++ e ∷ [] → (event_of e, d') ≡ event_drawn peers d
    → map event_of before ++ events_from peers (n - i) d ≡ all → map event_of after ++ events_from peers (n - (i + 1)) d' ≡ all
drawn_step peers n i d before after e d' all h is drawn so =
    grown before after e (events_from peers (n - (i + 1)) d') is
    ∙ (ap (λ (x : Happening × Drawing). map event_of before ++ (x.0 ∷ events_from peers (n - (i + 1)) x.1)) drawn
    ∙ (ap (λ (k : ℕ). map event_of before ++ events_from peers k d) (sym (one_less n i h)) ∙ so))

peers_more : (n i : ℕ) → i < n → peers_from (1 + i) (n - i) ≡ workload_peer (i + 1) ∷ peers_from (1 + (i + 1)) (n - (i + 1))
peers_more n i h =
    let e : 1 + i ≡ i + 1 = omega arith in
    let f : (1 + i) + 1 ≡ 1 + (i + 1) = omega arith in
    ap (peers_from (1 + i)) (one_less n i h) ∙ (λ j. workload_peer (e j) ∷ peers_from (f j) (n - (i + 1)))

pub peers_step : (n i : ℕ) (before after : List Peer) (p : Peer) (all : List Peer) → i < n → after ≡ before ++ p ∷ [] → p ≡ workload_peer (i + 1)
    → before ++ peers_from (1 + i) (n - i) ≡ all → after ++ peers_from (1 + (i + 1)) (n - (i + 1)) ≡ all
peers_step n i before after p all h is says so =
    let rest = peers_from (1 + (i + 1)) (n - (i + 1)) in
    ap (λ (ps : List Peer). ps ++ rest) is
    ∙ (append_assoc before (p ∷ []) rest
    ∙ (ap (λ (x : Peer). before ++ (x ∷ rest)) says
    ∙ (ap (λ (ps : List Peer). before ++ ps) (sym (peers_more n i h)) ∙ so)))

-- a list to which one item was added
pub single : {A : Type 0} (xs before after : List A) (x y : A) → xs ≡ after → after ≡ before ++ x ∷ [] → before ≡ [] → x ≡ y → xs ≡ y ∷ []
single {A} xs before after x y e f g h = e ∙ (f ∙ (ap (λ (zs : List A). zs ++ x ∷ []) g ∙ ap (λ (z : A). z ∷ []) h))

-- all events: those of the peers that come up, and those that are drawn
pub whole : (none ups drawn all : List Event) (peers events : ℕ) (draws : Lcg) (d : Drawing) → all ≡ drawn → none ≡ [] → map event_of ups ≡ map event_of none ++ ups_from 1 peers
    → map event_of drawn ≡ map event_of ups ++ events_from (length d.up) events d → d ≡ record { draws = draws; up = replicate peers true }
    → map event_of all ≡ ups_from 1 peers ++ events_from peers events (record { draws = draws; up = replicate peers true })
whole none ups drawn all peers events draws d e f g h k =
    ap (map event_of) e
    ∙ (h
    ∙ (ap (λ (hs : List Happening). hs ++ events_from (length d.up) events d) (g ∙ ap (λ (es : List Event). map event_of es ++ ups_from 1 peers) f)
    ∙ (ap (λ (x : Drawing). ups_from 1 peers ++ events_from (length x.up) events x) k
    ∙ ap (λ (n : ℕ). ups_from 1 peers ++ events_from n events (record { draws = draws; up = replicate peers true })) (length-replicate peers true))))
