-- What the files are said to be by an audit's answer.
use Rattle.std.proofs.Common.{◌≡◌, ℕ, zero, suc, ◌+◌, ◌<◌, ◌≤◌, ◌⊎◌, inl, inr, true, List, [], ◌∷◌, ◌++◌, slice_get, Option, Some, None, Ok, refl, sym, ap, subst, ◌∙◌, arith, append_assoc}
use Rattle.std.proofs.lemmas.Bool.{cases_lt}
use Rattle.ug_edge.specs.Told.{FileText, FileTold, Missing, file_told, file_named, missing_or_bytes}
use Rattle.ug_world.specs.declared.peer_state.PeerState.{PeerState}
use Rattle.ug_world.specs.World.{World}
use Rattle.ug_config.specs.Worlds as configs
use Rattle.ug_types.specs.declared.key.Key.{Key}
use Rattle.ug_hearing.specs.declared.breach.Breach.{Breach}
use Rattle.ug_audit_rules.proofs.Refuted.{heard-sound, refuted}
use Rattle.ug_audit_rules.specs.Audited.{IsSound, IsAudited, marks_in, is_lost_in}
use Rattle.ug_report.specs.declared.status.Status.{Status}
use Rattle.ug_report.specs.declared.status.Status.TheVariants as statuses
use Rattle.ug_report.specs.Statuses.{row_of}
use Rattle.ug_audit_rules.specs.Lines.{said_in}
use Rattle.ug_commands.specs.Words.{AuditCommand}
use Rattle.ug_audit.specs.Files.{IsFile}
use Rattle.ug_audit.specs.Sessions.{SessionOf, sessions_from, sessions_of_peers, sessions_of, file_of}
use Rattle.ug_audit.specs.Auditing.{worlds_of, last_of, told_by, HasReport, IsHeard, IsCertified, IsBroken, AreRight, IsRight, IsRefuted, IsTooLong, IsAuditing}
use Rattle.ug_audit.specs.Auditing as audits
use Rattle.ug_audit.specs.Right.{held_by, AreRight as AreRightFiles}

-- ---- what a site tells is what was read

file_there : (files : List FileText) (name bytes : List ℕ) → IsFile (file_told (Some files) name) bytes → file_named name files ≡ Some bytes
file_there files name bytes h = by (file_named name files) h
  where
    by : (o : Option (List ℕ)) → IsFile (missing_or_bytes o) bytes → o ≡ Some bytes
    by None h = absurd h
    by (Some held) h = ap (λ (b : List ℕ). Some b) h

some_is : {X : Type 0} (x y : X) → Some x ≡ Some y → x ≡ y
some_is {X} x y e = cc

one_of_two : {X : Type 0} (o : Option X) (x y : X) → o ≡ Some x → o ≡ Some y → x ≡ y
one_of_two {X} o x y a b = some_is x y (sym a ∙ b)

-- ---- each session is one of all

-- The session is among these.
record IsAmong (x : SessionOf) (xs : List SessionOf) : Type 0 where
  front : List SessionOf
  more : List SessionOf
  parts : xs ≡ front ++ x ∷ more

among_front : (x : SessionOf) (xs ys : List SessionOf) → IsAmong x xs → IsAmong x (xs ++ ys)
among_front x xs ys h = record { front = h.front; more = h.more ++ ys; parts = ap (λ (zs : List SessionOf). zs ++ ys) h.parts ∙ append_assoc h.front (x ∷ h.more) ys }

among_more : (x : SessionOf) (xs ys : List SessionOf) → IsAmong x ys → IsAmong x (xs ++ ys)
among_more x xs ys h = record { front = xs ++ h.front; more = h.more; parts = ap (λ (zs : List SessionOf). xs ++ zs) h.parts ∙ sym (append_assoc xs h.front (x ∷ h.more)) }

among_numbers : (p : ℕ) (s : PeerState) (from count n : ℕ) → from ≤ n → n < from + count → IsAmong (record { place = p; state = s; number = n }) (sessions_from p s from count)
among_numbers p s from zero n least most = absurd (omega arith)
among_numbers p s from (suc count) n least most = elim (cases_lt from n) [
  | inl lt ↦ (
      let h = among_numbers p s (from + 1) count n (omega (arith, lt)) (omega (arith, most)) in
      record { front = record { place = p; state = s; number = from } ∷ h.front; more = h.more; parts = ap (λ (zs : List SessionOf). record { place = p; state = s; number = from } ∷ zs) h.parts })
  | inr ge ↦ (
      let same : from ≡ n = omega (arith, ge, least) in
      record { front = []; more = sessions_from p s (from + 1) count; parts = ap (λ (k : ℕ). record { place = p; state = s; number = k } ∷ sessions_from p s (from + 1) count) same })
]

among_peers : (from : ℕ) (peers : List PeerState) (i : ℕ) (s : PeerState) (n : ℕ) → slice_get peers i ≡ Some s → 0 < n → n ≤ s.sessions → IsAmong (record { place = from + i; state = s; number = n }) (sessions_of_peers from peers)
among_peers from [] i s n is some few = absurd cc
among_peers from (t ∷ peers) zero s n is some few =
    let same : t ≡ s = some_is t s is in
    let at : from + 0 ≡ from = omega arith in
    subst (λ (k : ℕ). IsAmong (record { place = k; state = s; number = n }) (sessions_of_peers from (t ∷ peers))) (sym at)
    (among_front (record { place = from; state = s; number = n }) (sessions_from from t 1 t.sessions) (sessions_of_peers (from + 1) peers)
    (subst (λ (u : PeerState). IsAmong (record { place = from; state = s; number = n }) (sessions_from from u 1 u.sessions)) (sym same) (among_numbers from s 1 s.sessions n (omega (arith, some)) (omega (arith, few)))))
among_peers from (t ∷ peers) (suc i) s n is some few =
    let at : from + 1 + i ≡ from + suc i = omega arith in
    subst (λ (k : ℕ). IsAmong (record { place = k; state = s; number = n }) (sessions_of_peers from (t ∷ peers))) at
    (among_more (record { place = from + 1 + i; state = s; number = n }) (sessions_from from t 1 t.sessions) (sessions_of_peers (from + 1) peers) (among_peers (from + 1) peers i s n is some few))

-- and each of all is one of a peer
record IsOfPeer (from : ℕ) (peers : List PeerState) (x : SessionOf) : Type 0 where
  i : ℕ
  place : x.place ≡ from + i
  there : slice_get peers i ≡ Some x.state
  some : 0 < x.number
  few : x.number ≤ x.state.sessions

-- One of these lists has it.
in_either : (x : SessionOf) (xs ys front more : List SessionOf) → xs ++ ys ≡ front ++ x ∷ more → IsAmong x xs ⊎ IsAmong x ys
in_either x [] ys front more e = inr (record { front = front; more = more; parts = e })
in_either x (y ∷ xs) ys [] more e = (let same : y ≡ x = cc in inl (record { front = []; more = xs; parts = ap (λ (z : SessionOf). z ∷ xs) same }))
in_either x (y ∷ xs) ys (z ∷ front) more e =
    let same : y ≡ z = cc in
    let rest : xs ++ ys ≡ front ++ x ∷ more = cc in
    elim (in_either x xs ys front more rest) [
      | inl h ↦ inl (record { front = y ∷ h.front; more = h.more; parts = ap (λ (zs : List SessionOf). y ∷ zs) h.parts })
      | inr h ↦ inr h
    ]

-- It is of this peer, and its number is one of these.
record IsNumbered (p : ℕ) (s : PeerState) (from count : ℕ) (x : SessionOf) : Type 0 where
  place : x.place ≡ p
  state : x.state ≡ s
  least : from ≤ x.number
  most : x.number < from + count

numbered : (p : ℕ) (s : PeerState) (from count : ℕ) (x : SessionOf) (front more : List SessionOf) → sessions_from p s from count ≡ front ++ x ∷ more → IsNumbered p s from count x
numbered p s from zero x [] more e = absurd cc
numbered p s from zero x (y ∷ front) more e = absurd cc
numbered p s from (suc count) x [] more e =
    let same : record { place = p; state = s; number = from } ≡ x = cc in
    subst (IsNumbered p s from (suc count)) same (record { place = refl; state = refl; least = omega arith; most = omega arith })
numbered p s from (suc count) x (y ∷ front) more e =
    let rest : sessions_from p s (from + 1) count ≡ front ++ x ∷ more = cc in
    let h = numbered p s (from + 1) count x front more rest in
    let least = h.least in
    let most = h.most in
    record { place = h.place; state = h.state; least = omega (arith, least); most = omega (arith, most) }

of_peer : (from : ℕ) (peers : List PeerState) (x : SessionOf) (front more : List SessionOf) → sessions_of_peers from peers ≡ front ++ x ∷ more → IsOfPeer from peers x
of_peer from [] x [] more e = absurd cc
of_peer from [] x (y ∷ front) more e = absurd cc
of_peer from (s ∷ peers) x front more e = elim (in_either x (sessions_from from s 1 s.sessions) (sessions_of_peers (from + 1) peers) front more e) [
  | inl h ↦ (
      let k = numbered from s 1 s.sessions x h.front h.more h.parts in
      let place = k.place in
      let least = k.least in
      let most = k.most in
      let few : s.sessions ≡ x.state.sessions = ap (λ (u : PeerState). u.sessions) (sym k.state) in
      record { i = 0; place = omega (arith, place); there = ap (λ (u : PeerState). Some u) (sym k.state); some = omega (arith, least); few = omega (arith, most, few) })
  | inr h ↦ (let k = of_peer (from + 1) peers x h.front h.more h.parts in let place = k.place in record { i = suc k.i; place = omega (arith, place); there = k.there; some = k.some; few = k.few })
]

-- ---- where all is right

module _ (command : AuditCommand) (told : List FileText) where
  abbrev Audited : World → List ℕ → List ℕ → Type 0
  Audited w events report = IsAudited w (said_in events) (told_by w events report) (λ (p n : ℕ). held_by command.dir told n (slice_get (last_of w events).peers p))

  each_right : (w : World) (events report : List ℕ) (x : SessionOf) (front more : List SessionOf) (text : List ℕ) → AreRight command (file_told (Some told)) w events report (front ++ x ∷ more) text
      → (certificate : List ℕ) × IsHeard command (file_told (Some told)) x (IsCertified w events report x certificate)
  each_right w events report x [] more text h = (h.0, h.3)
  each_right w events report x (y ∷ front) more text h = each_right w events report x front more h.1 h.4

  sound : (w : World) (events report : List ℕ) (x : SessionOf) (certificate : List ℕ) → IsHeard command (file_told (Some told)) x (IsCertified w events report x certificate)
      → (bytes : List ℕ) × (file_named (file_of command.dir x) told ≡ Some bytes) × IsSound (worlds_of w events) (last_of w events) x.place x.number x.state (marks_in (told_by w events report)) (is_lost_in (told_by w events report) x.place x.number) bytes
  sound w events report x certificate h = (
    h.bytes,
    file_there told (file_of command.dir x) h.bytes h.file,
    heard-sound (worlds_of w events) (last_of w events) x.place x.number x.state (marks_in (told_by w events report)) (is_lost_in (told_by w events report) x.place x.number) h.bytes h.messages h.ending h.read h.it.right,
  )

  audited : (w : World) (events report text : List ℕ) → AreRight command (file_told (Some told)) w events report (sessions_of (last_of w events)) text → Audited w events report
  audited w events report text right p n s is some few =
      let at : 0 + p ≡ p = omega arith in
      let x : SessionOf = record { place = p; state = s; number = n } in
      let there = subst (λ (k : ℕ). IsAmong (record { place = k; state = s; number = n }) (sessions_of (last_of w events))) at (among_peers 0 (last_of w events).peers p s n is some few) in
      let one = each_right w events report x there.front there.more text (subst (λ (xs : List SessionOf). AreRight command (file_told (Some told)) w events report xs text) there.parts right) in
      let k = sound w events report x one.0 one.1 in
      (k.0, ap (held_by command.dir told n) is ∙ k.1, k.2)

  pub files_right : (picks : List (List ℕ) → Type 0) (reported : List ℕ → Type 0) → IsRight command (file_told (Some told)) picks reported → AreRightFiles command told
  files_right picks reported h settings events report w has_settings stands has_events has_report =
      let same_settings = one_of_two (file_named command.config told) h.before.before.first.bytes settings (file_there told command.config h.before.before.first.bytes h.before.before.first.file) has_settings in
      let same_world : h.w ≡ w = (let e : Ok h.w ≡ Ok w = sym h.before.before.first.stands ∙ ap configs.config same_settings ∙ stands in cc) in
      let same_events = one_of_two (file_named command.events told) h.events events (file_there told command.events h.events h.before.before.file) has_events in
      let same_report = one_of_two (file_named command.report told) h.report report (file_there told command.report h.report h.before.file) has_report in
      subst (λ (u : World). Audited u events report) same_world
      (subst (λ (es : List ℕ). Audited h.w es report) same_events
      (subst (λ (r : List ℕ). Audited h.w h.events r) same_report (audited h.w h.events h.report h.text h.right)))

  -- ---- where something isn't

  unsound : (w : World) (events report : List ℕ) (x : SessionOf) (b : Breach) → IsHeard command (file_told (Some told)) x (IsBroken w events report x b) → (front more : List SessionOf) → sessions_of (last_of w events) ≡ front ++ x ∷ more → Audited w events report → ⊥
  unsound w events report x b h front more parts right =
      let k = of_peer 0 (last_of w events).peers x front more parts in
      let place = k.place in
      let at : k.i ≡ x.place = omega (arith, place) in
      let there = subst (λ (i : ℕ). slice_get (last_of w events).peers i ≡ Some x.state) at k.there in
      let one = right x.place x.number x.state there k.some k.few in
      let same : one.0 ≡ h.bytes = one_of_two (file_named (file_of command.dir x) told) one.0 h.bytes (sym (ap (held_by command.dir told x.number) there) ∙ one.1) (file_there told (file_of command.dir x) h.bytes h.file) in
      refuted (worlds_of w events) (last_of w events) x.place x.number x.state (marks_in (told_by w events report)) (is_lost_in (told_by w events report) x.place x.number) h.bytes h.messages h.ending h.read
      (subst (IsSound (worlds_of w events) (last_of w events) x.place x.number x.state (marks_in (told_by w events report)) (is_lost_in (told_by w events report) x.place x.number)) same one.2) b h.it.is

  pub files_wrong : (picks : List (List ℕ) → Type 0) (place number kind message : ℕ) (key : Option Key) (reported : List ℕ → Type 0) → IsRefuted command (file_told (Some told)) picks place number kind message key reported → AreRightFiles command told → ⊥
  files_wrong picks place number kind message key reported h right =
      let before = h.came.heard.before in
      unsound h.w h.events h.report h.x h.b h.broken h.came.front h.came.more h.came.heard.parts
      (right before.before.first.bytes h.events h.report h.w (file_there told command.config before.before.first.bytes before.before.first.file) before.before.first.stands (file_there told command.events h.events before.before.file) (file_there told command.report h.report before.file))

-- ---- where the configuration is missing

module _ (command : AuditCommand) (files : List ℕ → FileTold) (picks : List (List ℕ) → Type 0) (before held : Option (List ℕ)) (failed : Type 0) (missing : files command.config ≡ Missing) where
  none : (bytes : List ℕ) → IsFile (files command.config) bytes → ⊥
  none bytes h = subst (λ (f : FileTold). IsFile f bytes) missing h

  no_report : (w : World) (events report : List ℕ) → HasReport command files w events report → ⊥
  no_report w events report h = none h.before.first.bytes h.before.first.file

  no_limit : IsTooLong command files picks → ⊥
  no_limit (IsTooLong.Config bytes file many picked) = none bytes file
  no_limit (IsTooLong.Events w bytes first file past picked) = none first.bytes first.file
  no_limit (IsTooLong.Report w events bytes has file past clear picked) = none has.first.bytes has.first.file
  no_limit (IsTooLong.Session w events report bytes x came file many) = no_report w events report came.heard.before

  pub unread_status : (status : Status) → IsAuditing command files picks status before held failed → (row_of status).may_be_unread ≡ true
  unread_status statuses.Ok h = absurd (no_report h.w h.events h.report h.before)
  unread_status statuses.ReportFault h = absurd (no_report h.w h.events h.report h.before)
  unread_status (statuses.Config number field) h = absurd (none h.0.bytes h.0.file)
  unread_status statuses.ReadFault h = refl
  unread_status statuses.NoMemory h = refl
  unread_status statuses.TooLong h = absurd (no_limit h.0)
  unread_status (statuses.Refuted peer session kind message key) h = absurd (no_report h.w h.events h.report h.came.heard.before)
  unread_status (statuses.Unclear line) h = absurd (none h.0.before.first.bytes h.0.before.first.file)
  unread_status statuses.Usage h = absurd h
  unread_status statuses.SiteFault h = absurd h
  unread_status (statuses.Lost peer session) h = absurd h
  unread_status (statuses.Malformed cause offset) h = absurd h

-- ---- by the status

pub right_by : (command : AuditCommand) (t : Option (List FileText)) (told : List FileText) (picks : List (List ℕ) → Type 0) (status : Status) (before held : Option (List ℕ)) (failed : Type 0) → status ≡ statuses.Ok → t ≡ Some told
    → IsAuditing command (file_told t) picks status before held failed → AreRightFiles command told
right_by command t told picks status before held failed is files h =
    files_right command told picks _
    (subst (λ (s : Status). IsAuditing command (file_told (Some told)) picks s before held failed) is (subst (λ (x : Option (List FileText)). IsAuditing command (file_told x) picks status before held failed) files h))

pub refuted_by : (command : AuditCommand) (t : Option (List FileText)) (told : List FileText) (picks : List (List ℕ) → Type 0) (status : Status) (before held : Option (List ℕ)) (failed : Type 0) (place number kind message : ℕ) (key : Option Key)
    → status ≡ statuses.Refuted place number kind message key → t ≡ Some told → IsAuditing command (file_told t) picks status before held failed → AreRightFiles command told → ⊥
refuted_by command t told picks status before held failed place number kind message key is files h =
    files_wrong command told picks place number kind message key _
    (subst (λ (s : Status). IsAuditing command (file_told (Some told)) picks s before held failed) is (subst (λ (x : Option (List FileText)). IsAuditing command (file_told x) picks status before held failed) files h))
