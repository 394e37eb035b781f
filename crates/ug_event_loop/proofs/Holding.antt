-- What the sessions of a wire hold: of each, messages at the front of what was told in it, and all of them where it
-- wasn't lost.
use Rattle.std.proofs.Common.{◌≡◌, ℕ, zero, suc, ◌+◌, ◌<◌, ◌≤◌, inl, Bool, true, false, List, [], ◌∷◌, ◌++◌, length, slice_get, Some, refl, sym, ◌∙◌, subst, arith}
use Rattle.std.specs.List.{concat}
use Rattle.std.proofs.lemmas.List.{append-nil}
use Rattle.ug_types.specs.declared.capabilities.Capabilities.{Capabilities}
use Rattle.ug_types.specs.Messages.{Message}
use Rattle.ug_board.specs.Deeds.{Each}
use Rattle.ug_board.specs.Sessions.{Session}
use Rattle.ug_sender.specs.Courses.{Fate, Whole, Noted, Unnoted, Course, HoldsOf, HoldsAll}
use Rattle.ug_message.specs.Streams.{AreOf, IsSentForm}
use Rattle.ug_event_loop.specs.Contents.{Content, EachFrom, has_number}
use Rattle.ug_event_loop.specs.Kept.{IsSent}
use Rattle.ug_event_loop.proofs.Texts.{AreTexts, AreSessions}
use Rattle.ug_event_loop.proofs.Sent.{HoldsFront, all-written, holds-front, sent-form}
use Rattle.ug_event_loop.proofs.Numbers.{AreNumbered}
use Rattle.ug_event_loop.proofs.Losing.{IsFailed, sessions_in}

-- for each session with its number
pub each-from-so : (P Q : ℕ → List ℕ → Content → Type 0) (n : ℕ) (sessions : List (List ℕ)) (contents : List Content)
    → ((m : ℕ) (bytes : List ℕ) (c : Content) → n ≤ m → m < n + length sessions → P m bytes c → Q m bytes c) → EachFrom P n sessions contents → EachFrom Q n sessions contents
each-from-so P Q n [] [] f h = tt
each-from-so P Q n [] (c ∷ contents) f h = absurd h
each-from-so P Q n (bytes ∷ sessions) [] f h = absurd h
each-from-so P Q n (bytes ∷ sessions) (c ∷ contents) f h =
    (f n bytes c (omega arith) (omega arith) h.0, each-from-so P Q (n + 1) sessions contents (λ m bs d low high is. f m bs d (omega arith) (omega arith) is) h.1)

-- the content at a place is that of its session
pub content-of : (P : ℕ → List ℕ → Content → Type 0) (n : ℕ) (sessions : List (List ℕ)) (contents : List Content) (k : ℕ) (c : Content)
    → EachFrom P n sessions contents → slice_get contents k ≡ Some c → (bytes : List ℕ) × P (n + k) bytes c
content-of P n [] [] k c h is = absurd cc
content-of P n [] (d ∷ contents) k c h is = absurd h
content-of P n (bytes ∷ sessions) [] k c h is = absurd h
content-of P n (bytes ∷ sessions) (d ∷ contents) zero c h is =
    let same : d ≡ c = cc in
    let here : n ≡ n + 0 = omega arith in
    (bytes, subst (λ m. P m bytes c) here (subst (λ (x : Content). P n bytes x) same h.0))
content-of P n (bytes ∷ sessions) (d ∷ contents) (suc k) c h is =
    let found = content-of P (n + 1) sessions contents k c h.1 is in
    let there : n + 1 + k ≡ n + suc k = omega arith in
    (found.0, subst (λ m. P m found.0 c) there found.1)

module _ (told : ℕ → List Message) (c : Capabilities) (enhanced : Bool) (lost : List ℕ) where
  -- A session holds a front of what was told in it, and all of it where it wasn't lost.
  pub record IsContent (n : ℕ) (bytes : List ℕ) (content : Content) : Type 0 where
    pub more : List Message
    pub told_is : told n ≡ content.messages ++ more
    pub form : IsSentForm c (IsSent enhanced) bytes content.messages content.rest
    pub all : has_number lost n ≡ false → (more ≡ []) × (content.rest ≡ [])

  abbrev HasContent : ℕ → List ℕ → Type 0
  HasContent n bytes = (content : Content) × IsContent n bytes content

  abbrev holds_all : (texts : List (List ℕ)) (messages : List Message) → AreTexts c texts messages → HoldsFront c messages (concat texts)
  holds_all texts messages are = record {
    messages = messages;
    more = [];
    whole = concat texts;
    rest = [];
    told_is = sym (append-nil messages);
    written_is = all-written c texts messages are;
    parts = sym (append-nil (concat texts));
    left = inl refl;
  }

  some_content : (n : ℕ) (messages : List Message) (bytes : List ℕ) (h : HoldsFront c messages bytes) → told n ≡ messages → AreOf (IsSent enhanced) messages
      → (has_number lost n ≡ false → (h.more ≡ []) × (h.rest ≡ [])) → HasContent n bytes
  some_content n messages bytes h is are all = (
    record { messages = h.messages; rest = h.rest },
    record { more = h.more; told_is = is ∙ h.told_is; form = sent-form c enhanced messages bytes h are; all = all },
  )

  one_content : (n : ℕ) (fate : Fate) (texts : List (List ℕ)) (messages : List Message) (bytes : List ℕ) → AreTexts c texts messages → told n ≡ messages → AreOf (IsSent enhanced) messages
      → HoldsOf fate texts bytes → (IsFailed fate → has_number lost n ≡ true) → HasContent n bytes
  one_content n Whole texts messages bytes texts_are is are holds fails =
      subst (λ (bs : List ℕ). HasContent n bs) (sym holds) (some_content n messages (concat texts) (holds_all texts messages texts_are) is are (λ _. (refl, refl)))
  one_content n Noted texts messages bytes texts_are is are holds fails =
      some_content n messages bytes (holds-front c texts messages bytes holds.rest texts_are holds.parts) is are (λ none. (let some = fails tt in absurd cc))
  one_content n Unnoted texts messages bytes texts_are is are holds fails =
      some_content n messages bytes (holds-front c texts messages bytes holds.rest texts_are holds.parts) is are (λ none. (let some = fails tt in absurd cc))

  pub contents-of : (n : ℕ) (courses : List Course) (ts : List (Session Message)) (sessions : List (List ℕ)) → AreSessions c (sessions_in courses) ts → AreNumbered n (sessions_in courses)
      → ((k : ℕ) (t : Session Message) → slice_get ts k ≡ Some t → told (n + k) ≡ t.handed)
      → ((m : ℕ) → n ≤ m → m < n + length courses → AreOf (IsSent enhanced) (told m))
      → Each (λ (course : Course). IsFailed course.fate → has_number lost course.session.number ≡ true) courses → HoldsAll courses sessions
      → (contents : List Content) × EachFrom IsContent n sessions contents
  contents-of n [] [] [] alike numbered told_in are fails holds = ([], tt)
  contents-of n [] [] (bytes ∷ sessions) alike numbered told_in are fails holds = absurd holds
  contents-of n [] (t ∷ ts) sessions alike numbered told_in are fails holds = absurd alike
  contents-of n (course ∷ courses) [] sessions alike numbered told_in are fails holds = absurd alike
  contents-of n (course ∷ courses) (t ∷ ts) [] alike numbered told_in are fails holds = absurd holds
  contents-of n (course ∷ courses) (t ∷ ts) (bytes ∷ sessions) alike numbered told_in are fails holds =
      let here : n + 0 ≡ n = omega arith in
      let is : told n ≡ t.handed = subst (λ m. told m ≡ t.handed) here (told_in 0 t refl) in
      let one = one_content n course.fate course.session.handed t.handed bytes alike.0.1 is (subst (λ (ms : List Message). AreOf (IsSent enhanced) ms) is (are n (omega arith) (omega arith))) holds.0
      (λ failed. subst (λ m. has_number lost m ≡ true) numbered.0 (fails.0 failed))
      in
      let told_in' : (k : ℕ) (u : Session Message) → slice_get ts k ≡ Some u → told (n + 1 + k) ≡ u.handed =
      λ k u there. (let next : n + suc k ≡ n + 1 + k = omega arith in subst (λ m. told m ≡ u.handed) next (told_in (suc k) u there))
      in
      let rest = contents-of (n + 1) courses ts sessions alike.1 numbered.1 told_in' (λ m low high. are m (omega arith) (omega arith)) fails.1 holds.1 in
      (one.0 ∷ rest.0, (one.1, rest.1))
