-- The report: a line for each line of events that is refused, and for each mark; then the sessions that were lost, the
-- counts, and the status.
use Rattle.std.specs.Prelude.{◌≡◌, ℕ, ◌+◌, ◌==◌, nat_lt, Bool, true, List, [], ◌∷◌, ◌++◌, map, slice_get, Option, Some, None, unwrap_or, Ok, Err, codes, if◌then◌else◌}
use Rattle.std.specs.List.{concat, flat_map, list_all}
use Rattle.std.specs.Fmt.{decimal}
use Rattle.ug_types.specs.declared.mark.Mark.{Mark}
use Rattle.ug_report.specs.declared.endings.Loss.{Loss}
use Rattle.ug_events.specs.Events.{Saying, SaysNothing, SaysSync, Says}
use Rattle.ug_events.specs.Reads.{Refusal, Reads}
use Rattle.ug_world.specs.declared.peer_state.PeerState.{PeerState}
use Rattle.ug_world.specs.World.{World}
use Rattle.ug_world.specs.Verdicts.{verdict}
use Rattle.ug_world.specs.Worlds.{Outcome, Passes, Accepts, Refuses, outcome, world_after}

-- the name of a refusal
abbrev pub refusal_name : ℕ → List ℕ
refusal_name number =
    if number == 1 then codes "unknown-peer"
    else if number == 2 then codes "already-up"
    else if number == 3 then codes "not-up"
    else if number == 4 then codes "no-such-prefix"
    else if number == 5 then codes "unknown-policy"
    else if number == 6 then codes "unknown-list"
    else if number == 7 then codes "same-path-id"
    else if number == 8 then codes "too-many-paths"
    else if number == 9 then codes "table-full"
    else if number == 11 then codes "no-orf"
    else if number == 12 then codes "orf-full"
    else if number == 20 then codes "line-too-long"
    else if number == 21 then codes "bad-verb"
    else if number == 22 then codes "bad-words"
    else if number == 23 then codes "bad-prefix"
    else if number == 24 then codes "bad-attribute"
    else if number == 25 then codes "bad-name"
    else codes "bad-message"

-- the number of a message's own refusal, behind a space
abbrev pub inner_text : Option ℕ → List ℕ
inner_text None = []
inner_text (Some number) = codes " " ++ decimal number

-- `line N refused CODE NAME`, and for a message its own refusal behind it
unfoldable pub refusal_text : ℕ → Refusal → List ℕ
refusal_text line refusal =
    codes "line " ++ (decimal line ++ (codes " refused " ++ (decimal refusal.number ++ (codes " " ++ (refusal_name refusal.number ++ (inner_text refusal.inner ++ codes "\n"))))))

-- What a line comes to: nothing, a refusal, an accepted event with its marks, or the marks of `sync`.
pub data Answer : Type 0 where
  Passed : Answer
  Refused : Refusal → Answer
  Took : List Mark → Answer
  Synced : List Mark → Answer

abbrev pub answer_by : Option ℕ → List Mark → Answer
answer_by None ms = Took ms
answer_by (Some number) ms = Refused (record { number = number; inner = None })

-- what a line comes to in a world, with these marks
abbrev pub answer_to : World → Reads Saying → List Mark → Answer
answer_to w (Ok SaysNothing) ms = Passed
answer_to w (Ok SaysSync) ms = Synced ms
answer_to w (Ok (Says e)) ms = answer_by (verdict w e) ms
answer_to w (Err refusal) ms = Refused refusal

-- the names of the peers, in configured order
abbrev pub names_in : World → List (List ℕ)
names_in w = map (λ (s : PeerState). s.peer.name) w.peers

-- the name at a place
abbrev pub name_at : List (List ℕ) → ℕ → List ℕ
name_at names p = unwrap_or (slice_get names p) []

-- `sync VERSION PEER SESSION MESSAGES`, or `refresh ..`, by the word that it begins with
unfoldable pub mark_text : List ℕ → List (List ℕ) → Mark → List ℕ
mark_text word names m =
    word ++ (codes " " ++ (decimal m.version ++ (codes " " ++ (name_at names m.peer ++ (codes " " ++ (decimal m.session ++ (codes " " ++ (decimal m.handed ++ codes "\n"))))))))

-- the mark counts messages in 64 bits
abbrev pub is_of_64 : Mark → Bool
is_of_64 m = nat_lt m.handed 18446744073709551616

abbrev pub AreOf64 : List Mark → Type 0
AreOf64 ms = list_all is_of_64 ms ≡ true

-- what the report says of what the line of this number came to
abbrev pub answer_texts : List (List ℕ) → ℕ → Answer → List (List ℕ)
answer_texts names number Passed = []
answer_texts names number (Refused refusal) = refusal_text number refusal ∷ []
answer_texts names number (Took ms) = map (mark_text (codes "refresh") names) ms
answer_texts names number (Synced ms) = map (mark_text (codes "sync") names) ms

abbrev pub first_marks : List (List Mark) → List Mark
first_marks [] = []
first_marks (ms ∷ marks) = ms

abbrev pub later_marks : List (List Mark) → List (List Mark)
later_marks [] = []
later_marks (ms ∷ marks) = marks

-- what the report says of the lines, in their order, the first of which has this number and comes to this world
abbrev pub line_texts : List (List ℕ) → ℕ → World → List (Reads Saying) → List (List Mark) → List (List ℕ)
line_texts names number w [] marks = []
line_texts names number w (line ∷ lines) marks =
    answer_texts names number (answer_to w line (first_marks marks)) ++ line_texts names (number + 1) (world_after w (outcome w line)) lines (later_marks marks)

abbrev pub one_if_accepted : Outcome → ℕ
one_if_accepted Passes = 0
one_if_accepted (Accepts w) = 1
one_if_accepted (Refuses refusal) = 0

abbrev pub one_if_refused : Outcome → ℕ
one_if_refused Passes = 0
one_if_refused (Accepts w) = 0
one_if_refused (Refuses refusal) = 1

-- how many lines were accepted, and how many refused
abbrev pub accepted_count : World → List (Reads Saying) → ℕ
accepted_count w [] = 0
accepted_count w (line ∷ lines) = one_if_accepted (outcome w line) + accepted_count (world_after w (outcome w line)) lines

abbrev pub refused_count : World → List (Reads Saying) → ℕ
refused_count w [] = 0
refused_count w (line ∷ lines) = one_if_refused (outcome w line) + refused_count (world_after w (outcome w line)) lines

-- the lost sessions of all peers, by peer and then by session; `lost` has for each peer, from place `p` on, their numbers
abbrev pub losses_from : ℕ → List (List ℕ) → List Loss
losses_from p [] = []
losses_from p (numbers ∷ lost) = map (λ (n : ℕ). record { peer = p; session = n }) numbers ++ losses_from (p + 1) lost

-- `lost PEER SESSION`
unfoldable pub loss_text : List (List ℕ) → Loss → List ℕ
loss_text names loss = codes "lost " ++ (name_at names loss.peer ++ (codes " " ++ (decimal loss.session ++ codes "\n")))

-- `accepted A refused R`
unfoldable pub counts_text : ℕ → ℕ → List ℕ
counts_text accepted refused = codes "accepted " ++ (decimal accepted ++ (codes " refused " ++ (decimal refused ++ codes "\n")))

-- `status 8 lost PEER SESSION`
unfoldable pub lost_status : List ℕ → ℕ → List ℕ
lost_status name session = codes "status 8 lost " ++ (name ++ (codes " " ++ (decimal session ++ codes "\n")))

-- the same, of the first that was lost, and nothing where none was
abbrev pub losses_status : List (List ℕ) → List Loss → List ℕ
losses_status names [] = []
losses_status names (loss ∷ losses) = lost_status (name_at names loss.peer) loss.session

-- the last lines of a run that completed, but for the status line
abbrev pub end_text : List (List ℕ) → World → List (Reads Saying) → List Loss → List ℕ
end_text names w lines losses = flat_map (loss_text names) losses ++ counts_text (accepted_count w lines) (refused_count w lines)

-- the report of a run that completed, but for the status line
abbrev pub completed_text : World → List (Reads Saying) → List (List Mark) → List Loss → List ℕ
completed_text w lines marks losses = concat (line_texts (names_in w) 1 w lines marks) ++ end_text (names_in w) w lines losses
