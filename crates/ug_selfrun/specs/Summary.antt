-- The summary of a run over a drawn workload.
use Rattle.std.specs.Prelude.{◌≡◌, ℕ, List, [], ◌∷◌, ◌++◌, Option, Some, None, codes}
use Rattle.std.specs.Fmt.{decimal}
use Rattle.ug_events.specs.Events.{Happening}
use Rattle.ug_world.specs.declared.peer_state.PeerState.{PeerState}
use Rattle.ug_world.specs.World.{World}
use Rattle.ug_world.specs.Worlds.{last_world}
use Rattle.ug_report.specs.Report.{counts_text, accepted_count, refused_count}
use Rattle.ug_selfrun.specs.Lines.{lines_of}
use Rattle.ug_selfrun.specs.Standings.{AreStandings}

-- ` down`, or ` rows K`
abbrev pub standing_text : Option ℕ → List ℕ
standing_text None = codes " down\n"
standing_text (Some count) = codes " rows " ++ (decimal count ++ codes "\n")

-- `peer NAME ..`
unfoldable pub peer_text : List ℕ → Option ℕ → List ℕ
peer_text name standing = codes "peer " ++ (name ++ standing_text standing)

abbrev pub peers_text : List PeerState → List (Option ℕ) → List ℕ
peers_text [] standings = []
peers_text (s ∷ peers) [] = []
peers_text (s ∷ peers) (x ∷ standings) = peer_text s.peer.name x ++ peers_text peers standings

-- `selfrun NUMBER accepted A refused R`
unfoldable pub head_text : ℕ → ℕ → ℕ → List ℕ
head_text number accepted refused = codes "selfrun " ++ (decimal number ++ (codes " " ++ counts_text accepted refused))

-- The text of a run that came to this world and these counts: a line with the counts, and then one for each peer, of where it stands.
pub record HasText (number : ℕ) (last : World) (accepted refused : ℕ) (text : List ℕ) : Type 0 where
  pub standings : List (Option ℕ)
  pub are : AreStandings last 0 last.peers standings
  pub is_text : text ≡ head_text number accepted refused ++ peers_text last.peers standings

-- The summary of a run from this world through these events: how many of them are accepted and refused, and where each peer
-- stands in the last world.
abbrev pub IsSummary : ℕ → World → List Happening → List ℕ → Type 0
IsSummary number w events text = HasText number (last_world w (lines_of events)) (accepted_count w (lines_of events)) (refused_count w (lines_of events)) text
