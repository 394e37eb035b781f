-- What an auditor reads in a report.
use Rattle.std.specs.Prelude.{◌≡◌, ℕ, ◌+◌, ◌==◌, nat_le, nat_lt, Bool, false, ◌&&◌, List, [], ◌∷◌, slice_get, Option, Some, None, codes, map, if◌then◌else◌}
use Rattle.std.specs.Fmt.{decimal}
use Rattle.std.specs.Str.Parse.{digits_value}
use Rattle.ug_types.specs.Bytes.{same_bytes}
use Rattle.ug_types.specs.declared.mark.Mark.{Mark}
use Rattle.ug_text.specs.Cutting.{pieces, ◌>>=◌}
use Rattle.ug_pieces.specs.Lines.{lines_of}
use Rattle.ug_world.specs.declared.peer_state.PeerState.{PeerState}
use Rattle.ug_world.specs.World.{World}
use Rattle.ug_audit_rules.specs.declared.entry.Entry.{Entry}
use Rattle.ug_audit_rules.specs.declared.entry.Entry.TheVariants.{Passes, Sync, Lost, Unclear}

-- the names of the peers, in configured order
abbrev pub peer_names_in : World → List (List ℕ)
peer_names_in w = map (λ (s : PeerState). s.peer.name) w.peers

-- a number as a report writes it: of 64 bits, without leading zeros
abbrev pub where_written : List ℕ → ℕ → Option ℕ
where_written word n = if same_bytes (decimal n) word && nat_lt n 18446744073709551616 then Some n else None

abbrev pub written_number : List ℕ → Option ℕ
written_number word = where_written word (digits_value 10 word)

-- the place of a name
abbrev pub place_from : ℕ → List (List ℕ) → List ℕ → Option ℕ
place_from p [] name = None
place_from p (x ∷ names) name = if same_bytes x name then Some p else place_from (p + 1) names name

abbrev pub is_number_of : ℕ → Option PeerState → Bool
is_number_of n None = false
is_number_of n (Some s) = nat_lt 0 n && nat_le n s.sessions

-- the peer had a session of that number
abbrev pub had_session : World → ℕ → ℕ → Bool
had_session last p n = is_number_of n (slice_get last.peers p)

abbrev pub where_true : {A : Type 0} → Bool → A → Option A
where_true b x = if b then Some x else None

-- `VERSION PEER SESSION MESSAGES`, of a version and a session that were
abbrev pub mark_said : World → List (List ℕ) → Option Mark
mark_said last (version ∷ name ∷ session ∷ handed ∷ []) = do
  v ← written_number version
  p ← place_from 0 (peer_names_in last) name
  n ← written_number session
  m ← written_number handed
  where_true (nat_le v last.version && had_session last p n) (record { version = v; peer = p; session = n; handed = m })
mark_said last _ = None

-- `PEER SESSION`, of a session that was
abbrev pub loss_said : World → List (List ℕ) → Option Entry
loss_said last (name ∷ session ∷ []) = do
  p ← place_from 0 (peer_names_in last) name
  n ← written_number session
  where_true (had_session last p n) (Lost p n)
loss_said last _ = None

abbrev pub mark_or : Option Mark → Entry
mark_or None = Unclear
mark_or (Some m) = Sync m

abbrev pub loss_or : Option Entry → Entry
loss_or None = Unclear
loss_or (Some e) = e

-- a line by its words
abbrev pub entry_by : World → List (List ℕ) → Entry
entry_by last [] = Passes
entry_by last (word ∷ words) =
    if same_bytes word (codes "sync") then mark_or (mark_said last words)
    else if same_bytes word (codes "lost") then loss_or (loss_said last words)
    else Passes

-- what a line of the report tells, by the world to which all lines of events lead
unfoldable pub entry_of : World → List ℕ → Entry
entry_of last line = entry_by last (pieces 32 line)

abbrev pub entries_of : World → List ℕ → List Entry
entries_of last report = map (entry_of last) (lines_of report)

abbrev pub IsClear : Entry → Type 0
IsClear Passes = Unit {0}
IsClear (Sync m) = Unit {0}
IsClear (Lost peer session) = Unit {0}
IsClear Unclear = ⊥

-- Each line is clear.
abbrev pub AreClear : List Entry → Type 0
AreClear [] = Unit {0}
AreClear (e ∷ entries) = IsClear e × AreClear entries

-- The byte isn't among these.
abbrev pub Lacks : ℕ → List ℕ → Type 0
Lacks b [] = Unit {0}
Lacks b (c ∷ bytes) = ((c == b) ≡ false) × Lacks b bytes

-- Words can be told apart: they have neither spaces nor newlines.
pub record IsWord (word : List ℕ) : Type 0 where
  pub no_space : Lacks 32 word
  pub no_newline : Lacks 10 word
