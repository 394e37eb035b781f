-- What is handed out as bytes and as messages: the same sessions, and each text is that of its message.
use Rattle.std.proofs.Common.{◌≡◌, ℕ, Bool, true, false, List, [], ◌∷◌, ◌++◌, slice_get, Some, refl, sym, ◌∙◌, ap, subst, append_assoc}
use Rattle.std.specs.Prelude.{◌==◌, fold, if◌then◌else◌}
use Rattle.std.proofs.lemmas.Bool.{eqb-true}
use Rattle.ug_types.specs.declared.capabilities.Capabilities.{Capabilities}
use Rattle.ug_types.specs.Messages.{Message}
use Rattle.ug_board.specs.declared.steps.BoardStep.{BoardStep}
use Rattle.ug_board.specs.declared.steps.BoardStep.TheVariants.{Job as DoJob, Lane as LaneTakes}
use Rattle.ug_board.specs.declared.steps.BoardSaid.{BoardSaid}
use Rattle.ug_board.specs.declared.steps.BoardSaid.TheVariants.{Job as JobSaid, Lane as LaneGot}
use Rattle.ug_board.specs.declared.steps.LaneStep.TheVariants.{Next, Lost}
use Rattle.ug_board.specs.declared.steps.LaneSaid.{LaneSaid}
use Rattle.ug_board.specs.declared.steps.LaneSaid.TheVariants.{Begun, Hand, Idle, Stop, Noted}
use Rattle.ug_board.specs.Entry.{Entry}
use Rattle.ug_board.specs.Rules.{Rules}
use Rattle.ug_board.specs.History.{IsLegalStep, IsLegalFrom, after_step, replay}
use Rattle.ug_board.proofs.Histories.{replay_from-append}
use Rattle.ug_board.specs.Deeds.{Deed, Begins, Hands, Loses, when, is_to, to_peer, lane_deeds, step_deeds, deeds_from, deeds, losses}
use Rattle.ug_board.specs.Sessions.{Session, with_item, hand_last, after_deed, sessions_of}
use Rattle.ug_message.specs.Texts.{written}
use Rattle.ug_world.specs.declared.peer_state.PeerState.{PeerState}
use Rattle.ug_speaker.specs.Speech.{Speech, capabilities_of}
use Rattle.ug_speaker.specs.Told.{world_at}
use Rattle.ug_speaker.specs.Owes.{IsCourse, HistoriesRight}
use Rattle.ug_event_loop.proofs.Growing.{course-front}

module _ (c : Capabilities) where
  -- Of the same session, and where something is handed out its text is that of the message.
  abbrev pub IsTextOf : Deed (List ℕ) → Deed Message → Type 0
  IsTextOf (Begins n) (Begins m) = n ≡ m
  IsTextOf (Hands n text) (Hands m message) = (n ≡ m) × (written c message ≡ Some text)
  IsTextOf (Loses n) (Loses m) = n ≡ m
  IsTextOf (Begins n) (Hands m message) = ⊥
  IsTextOf (Begins n) (Loses m) = ⊥
  IsTextOf (Hands n text) (Begins m) = ⊥
  IsTextOf (Hands n text) (Loses m) = ⊥
  IsTextOf (Loses n) (Begins m) = ⊥
  IsTextOf (Loses n) (Hands m message) = ⊥

  abbrev pub AreTextsOf : List (Deed (List ℕ)) → List (Deed Message) → Type 0
  AreTextsOf [] [] = Unit {0}
  AreTextsOf [] (e ∷ es) = ⊥
  AreTextsOf (d ∷ ds) [] = ⊥
  AreTextsOf (d ∷ ds) (e ∷ es) = IsTextOf d e × AreTextsOf ds es

  abbrev pub AreTexts : List (List ℕ) → List Message → Type 0
  AreTexts [] [] = Unit {0}
  AreTexts [] (m ∷ ms) = ⊥
  AreTexts (text ∷ texts) [] = ⊥
  AreTexts (text ∷ texts) (m ∷ ms) = (written c m ≡ Some text) × AreTexts texts ms

  abbrev pub IsSessionOf : Session (List ℕ) → Session Message → Type 0
  IsSessionOf s t = (s.number ≡ t.number) × AreTexts s.handed t.handed

  abbrev pub AreSessions : List (Session (List ℕ)) → List (Session Message) → Type 0
  AreSessions [] [] = Unit {0}
  AreSessions [] (t ∷ ts) = ⊥
  AreSessions (s ∷ ss) [] = ⊥
  AreSessions (s ∷ ss) (t ∷ ts) = IsSessionOf s t × AreSessions ss ts

  texts-join : (ds ds' : List (Deed (List ℕ))) (es es' : List (Deed Message)) → AreTextsOf ds es → AreTextsOf ds' es' → AreTextsOf (ds ++ ds') (es ++ es')
  texts-join [] ds' [] es' h k = k
  texts-join [] ds' (e ∷ es) es' h k = absurd h
  texts-join (d ∷ ds) ds' [] es' h k = absurd h
  texts-join (d ∷ ds) ds' (e ∷ es) es' h k = (h.0, texts-join ds ds' es es' h.1 k)

  texts_push : (texts : List (List ℕ)) (ms : List Message) (text : List ℕ) (m : Message) → AreTexts texts ms → written c m ≡ Some text → AreTexts (texts ++ text ∷ []) (ms ++ m ∷ [])
  texts_push [] [] text m h is = (is, tt)
  texts_push [] (m' ∷ ms) text m h is = absurd h
  texts_push (text' ∷ texts) [] text m h is = absurd h
  texts_push (text' ∷ texts) (m' ∷ ms) text m h is = (h.0, texts_push texts ms text m h.1 is)

  sessions_push : (ss : List (Session (List ℕ))) (ts : List (Session Message)) (s : Session (List ℕ)) (t : Session Message) → AreSessions ss ts → IsSessionOf s t → AreSessions (ss ++ s ∷ []) (ts ++ t ∷ [])
  sessions_push [] [] s t h is = (is, tt)
  sessions_push [] (t' ∷ ts) s t h is = absurd h
  sessions_push (s' ∷ ss) [] s t h is = absurd h
  sessions_push (s' ∷ ss) (t' ∷ ts) s t h is = (h.0, sessions_push ss ts s t h.1 is)

  one_more : (b : Bool) (text : List ℕ) (m : Message) (s : Session (List ℕ)) (t : Session Message) → IsSessionOf s t → written c m ≡ Some text
      → IsSessionOf (if b then record { number = s.number; handed = s.handed ++ text ∷ [] } else s) (if b then record { number = t.number; handed = t.handed ++ m ∷ [] } else t)
  one_more true text m s t h is = (h.0, texts_push s.handed t.handed text m h.1 is)
  one_more false text m s t h is = h

  item_more : (n : ℕ) (text : List ℕ) (m : Message) (s : Session (List ℕ)) (t : Session Message) → IsSessionOf s t → written c m ≡ Some text → IsSessionOf (with_item n text s) (with_item n m t)
  item_more n text m s t h is =
      subst (λ (k : ℕ). IsSessionOf (with_item n text s) (if k == n then record { number = t.number; handed = t.handed ++ m ∷ [] } else t)) h.0 (one_more (s.number == n) text m s t h is)

  last_more : (n : ℕ) (text : List ℕ) (m : Message) (ss : List (Session (List ℕ))) (ts : List (Session Message)) → AreSessions ss ts → written c m ≡ Some text → AreSessions (hand_last n text ss) (hand_last n m ts)
  last_more n text m [] [] h is = tt
  last_more n text m [] (t ∷ ts) h is = absurd h
  last_more n text m (s ∷ ss) [] h is = absurd h
  last_more n text m (s ∷ []) (t ∷ []) h is = (item_more n text m s t h.0 is, tt)
  last_more n text m (s ∷ []) (t ∷ t' ∷ ts) h is = absurd h.1
  last_more n text m (s ∷ s' ∷ ss) (t ∷ []) h is = absurd h.1
  last_more n text m (s ∷ s' ∷ ss) (t ∷ t' ∷ ts) h is = (h.0, last_more n text m (s' ∷ ss) (t' ∷ ts) h.1 is)

  deed_more : (d : Deed (List ℕ)) (e : Deed Message) (ss : List (Session (List ℕ))) (ts : List (Session Message)) → IsTextOf d e → AreSessions ss ts → AreSessions (after_deed ss d) (after_deed ts e)
  deed_more (Begins n) (Begins m) ss ts is h = sessions_push ss ts (record { number = n; handed = [] }) (record { number = m; handed = [] }) h (is, tt)
  deed_more (Hands n text) (Hands m message) ss ts is h = subst (λ (k : ℕ). AreSessions (hand_last n text ss) (hand_last k message ts)) is.0 (last_more n text message ss ts h is.1)
  deed_more (Loses n) (Loses m) ss ts is h = h
  deed_more (Begins n) (Hands m message) ss ts is h = absurd is
  deed_more (Begins n) (Loses m) ss ts is h = absurd is
  deed_more (Hands n text) (Begins m) ss ts is h = absurd is
  deed_more (Hands n text) (Loses m) ss ts is h = absurd is
  deed_more (Loses n) (Begins m) ss ts is h = absurd is
  deed_more (Loses n) (Hands m message) ss ts is h = absurd is

  deeds_more : (ds : List (Deed (List ℕ))) (es : List (Deed Message)) (ss : List (Session (List ℕ))) (ts : List (Session Message)) → AreTextsOf ds es → AreSessions ss ts → AreSessions (fold after_deed ss ds) (fold after_deed ts es)
  deeds_more [] [] ss ts are h = h
  deeds_more [] (e ∷ es) ss ts are h = absurd are
  deeds_more (d ∷ ds) [] ss ts are h = absurd are
  deeds_more (d ∷ ds) (e ∷ es) ss ts are h = deeds_more ds es (after_deed ss d) (after_deed ts e) are.1 (deed_more d e ss ts are.0 h)

  -- the sessions are the same, with texts and with messages
  pub sessions-alike : (ds : List (Deed (List ℕ))) (es : List (Deed Message)) → AreTextsOf ds es → AreSessions (sessions_of ds) (sessions_of es)
  sessions-alike ds es are = deeds_more ds es [] [] are tt

  pub losses-alike : (ds : List (Deed (List ℕ))) (es : List (Deed Message)) → AreTextsOf ds es → losses ds ≡ losses es
  losses-alike [] [] are = refl
  losses-alike [] (e ∷ es) are = absurd are
  losses-alike (d ∷ ds) [] are = absurd are
  losses-alike (Begins n ∷ ds) (Begins m ∷ es) are = losses-alike ds es are.1
  losses-alike (Hands n text ∷ ds) (Hands m message ∷ es) are = losses-alike ds es are.1
  losses-alike (Loses n ∷ ds) (Loses m ∷ es) are = ap (λ (k : ℕ). k ∷ losses ds) are.0 ∙ ap (λ (ns : List ℕ). m ∷ ns) (losses-alike ds es are.1)
  losses-alike (Begins n ∷ ds) (Hands m message ∷ es) are = absurd are.0
  losses-alike (Begins n ∷ ds) (Loses m ∷ es) are = absurd are.0
  losses-alike (Hands n text ∷ ds) (Begins m ∷ es) are = absurd are.0
  losses-alike (Hands n text ∷ ds) (Loses m ∷ es) are = absurd are.0
  losses-alike (Loses n ∷ ds) (Begins m ∷ es) are = absurd are.0
  losses-alike (Loses n ∷ ds) (Hands m message ∷ es) are = absurd are.0

module _ {Opening State Job Said : Type 0} (rules : Rules Opening State Job Said) (speech : Speech Opening State Job Said) where
  -- What a lane was told, where the text of what is handed out is known.
  lane_texts : (c : Capabilities) (p : ℕ) (said : LaneSaid) (state : State)
      → ((session made len : ℕ) → said ≡ Hand session made len → written c (speech.message p state) ≡ Some (rules.handed p state))
      → AreTextsOf c (lane_deeds rules.handed (Next p) said state) (lane_deeds speech.message (Next p) said state)
  lane_texts c p (Begun session) state text = (refl, tt)
  lane_texts c p (Hand session made len) state text = ((refl, text session made len refl), tt)
  lane_texts c p Idle state text = tt
  lane_texts c p Stop state text = tt
  lane_texts c p Noted state text = tt

  step_texts : (c : Capabilities) (p : ℕ) (b : Bool) (step : BoardStep Job) (said : BoardSaid Said) (state : State) → is_to p step ≡ b → IsLegalStep rules step said state
      → ((session made len : ℕ) → rules.lane_reply (Next p) state ≡ Hand session made len → written c (speech.message p state) ≡ Some (rules.handed p state))
      → AreTextsOf c (when b (step_deeds rules.handed step said state)) (when b (step_deeds speech.message step said state))
  step_texts c p false step said state is legal text = tt
  step_texts c p true (DoJob job) said state is legal text = tt
  step_texts c p true (LaneTakes (Next q)) (LaneGot said) state is legal text =
      let same : p ≡ q = sym (eqb-true q p is) in
      let text' : (session made len : ℕ) → said ≡ Hand session made len → written c (speech.message p state) ≡ Some (rules.handed p state) =
      λ session made len e. text session made len (subst (λ (k : ℕ). rules.lane_reply (Next k) state ≡ Hand session made len) (sym same) (sym legal.1 ∙ e))
      in
      subst (λ (k : ℕ). AreTextsOf c (lane_deeds rules.handed (Next k) said state) (lane_deeds speech.message (Next k) said state)) same (lane_texts c p said state text')
  step_texts c p true (LaneTakes (Lost q n)) (LaneGot said) state is legal text = (refl, tt)
  step_texts c p true (LaneTakes step) (JobSaid said) state is legal text = absurd legal

  module _ (histories : HistoriesRight rules speech) (opening : Opening) (history : List (Entry Job Said)) (course : IsCourse rules speech opening history) (c : Capabilities) (p : ℕ)
      (peers : (front more : List (Entry Job Said)) → history ≡ front ++ more → (s : PeerState) × (slice_get (world_at rules speech opening front).peers p ≡ Some s) × (capabilities_of s.peer ≡ c)) where
    text_at : (front more : List (Entry Job Said)) → history ≡ front ++ more → (session made len : ℕ) → rules.lane_reply (Next p) (replay rules opening front) ≡ Hand session made len
        → written c (speech.message p (replay rules opening front)) ≡ Some (rules.handed p (replay rules opening front))
    text_at front more parts session made len said =
        let course' : IsCourse rules speech opening front = course-front rules speech opening front more (subst (λ (h : List (Entry Job Said)). IsCourse rules speech opening h) parts course) in
        let there = peers front more parts in
        subst (λ (d : Capabilities). written d (speech.message p (replay rules opening front)) ≡ Some (rules.handed p (replay rules opening front))) there.2
        (histories.text opening front p session made len there.0 course' there.1 said)

    texts_from : (front entries : List (Entry Job Said)) → history ≡ front ++ entries → IsLegalFrom rules (replay rules opening front) entries
        → AreTextsOf c (deeds_from rules rules.handed (to_peer p) (replay rules opening front) entries) (deeds_from rules speech.message (to_peer p) (replay rules opening front) entries)
    texts_from front [] parts legal = tt
    texts_from front (entry ∷ entries) parts legal =
        let state = replay rules opening front in
        let here = step_texts c p (to_peer p entry) entry.step entry.said state refl legal.0 (text_at front (entry ∷ entries) parts) in
        let next : replay rules opening (front ++ entry ∷ []) ≡ after_step rules entry.step state = replay_from-append rules (rules.start opening) front (entry ∷ []) in
        let rest = texts_from (front ++ entry ∷ []) entries (parts ∙ sym (append_assoc front (entry ∷ []) entries)) (subst (λ (s : State). IsLegalFrom rules s entries) (sym next) legal.1) in
        texts-join c (when (to_peer p entry) (step_deeds rules.handed entry.step entry.said state)) (deeds_from rules rules.handed (to_peer p) (after_step rules entry.step state) entries)
        (when (to_peer p entry) (step_deeds speech.message entry.step entry.said state)) (deeds_from rules speech.message (to_peer p) (after_step rules entry.step state) entries) here
        (subst (λ (s : State). AreTextsOf c (deeds_from rules rules.handed (to_peer p) s entries) (deeds_from rules speech.message (to_peer p) s entries)) next rest)

    -- What a peer was handed are the texts of what it was told.
    pub texts-told : AreTextsOf c (deeds rules rules.handed (to_peer p) opening history) (deeds rules speech.message (to_peer p) opening history)
    texts-told = texts_from [] history refl course.legal
