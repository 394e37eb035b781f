-- What a site in memory holds, and what each of its calls makes of it.
use Rattle.std.specs.Prelude.{ℕ, Bool, true, false, List, [], ◌∷◌, ◌++◌, Option, Some, None, map, drop, slice_get, if◌then◌else◌}
use Rattle.ug_types.specs.Bytes.{same_bytes}
use Rattle.ug_edge.specs.declared.lists.CallKind.TheVariants.{Pick, Read, Wire}
use Rattle.ug_edge.specs.declared.lists.FailAt.{FailAt}
use Rattle.ug_edge.specs.declared.lists.File.{File}
use Rattle.ug_edge.specs.declared.lists.Cut.{Cut}
use Rattle.ug_edge.specs.declared.lists.BeginFails.{BeginFails}
use Rattle.ug_edge.specs.Fails.{raised, lists}
use Rattle.ug_edge.specs.declared.lists.Made.{Made}
use Rattle.ug_edge.specs.Told.{FileText, file_named, WireName}

-- a total of bytes at which a send of the wires to a peer fails
pub record PeerCut : Type 0 where
  pub peer : List ℕ
  pub total : ℕ

-- the numbers of the sessions whose begin fails on the wires to a peer
pub record PeerBegins : Type 0 where
  pub peer : List ℕ
  pub sessions : List ℕ

-- The files, whether one of them is picked, the names that were, the bytes left to read, the wires made, the calls that are listed to
-- fail, the cuts, the sessions whose begin fails, the number of calls of each kind so far, and the two counts of
-- faults.
pub record SiteState : Type 0 where
  pub files : List FileText
  pub is_picked : Bool
  pub picked : List (List ℕ)
  pub left : List ℕ
  pub made : List WireName
  pub fails : List FailAt
  pub cuts : List PeerCut
  pub begins : List PeerBegins
  pub picks : ℕ
  pub reads : ℕ
  pub wires : ℕ
  pub faults : ℕ
  pub wire_faults : ℕ

-- the names and the bytes of files
abbrev pub file_texts : List File → List FileText
file_texts = map (λ file. record { name = file.name.items; bytes = file.bytes.items })

abbrev pub peer_cuts : List Cut → List PeerCut
peer_cuts = map (λ cut. record { peer = cut.peer.items; total = cut.total })

abbrev pub peer_begins : List BeginFails → List PeerBegins
peer_begins = map (λ fails. record { peer = fails.peer.items; sessions = fails.sessions.items })

abbrev pub wire_names : List Made → List WireName
wire_names = map (λ wire. record { dir = wire.dir.items; peer = wire.peer.items })

-- the bytes of a file from an offset on
abbrev pub bytes_from : ℕ → Option File → List ℕ
bytes_from offset None = []
bytes_from offset (Some file) = drop offset file.bytes.items

-- the bytes left of the file at that place
abbrev pub bytes_left : List File → Option ℕ → ℕ → List ℕ
bytes_left files None offset = []
bytes_left files (Some place) offset = bytes_from offset (slice_get files place)

-- the site that has these files, before any call
abbrev pub fresh_site : List FileText → List FailAt → List PeerCut → SiteState
fresh_site files fails cuts = record { files = files; is_picked = false; picked = []; left = []; made = []; fails = fails; cuts = cuts; begins = []; picks = 0; reads = 0; wires = 0; faults = 0; wire_faults = 0 }

-- the totals of the cuts of a peer
abbrev pub totals_to : List ℕ → List PeerCut → List ℕ
totals_to peer [] = []
totals_to peer (cut ∷ cuts) = if same_bytes peer cut.peer then cut.total ∷ totals_to peer cuts else totals_to peer cuts

-- the sessions of a peer whose begin fails
abbrev pub begins_to : List ℕ → List PeerBegins → List ℕ
begins_to peer [] = []
begins_to peer (fails ∷ begins) = if same_bytes peer fails.peer then fails.sessions ++ begins_to peer begins else begins_to peer begins

-- The next pick, read or wire is listed to fail.
abbrev pub next_pick_fails : SiteState → Bool
next_pick_fails site = lists Pick (raised site.picks) site.fails

abbrev pub next_read_fails : SiteState → Bool
next_read_fails site = lists Read (raised site.reads) site.fails

abbrev pub next_wire_fails : SiteState → Bool
next_wire_fails site = lists Wire (raised site.wires) site.fails

-- the bytes that a pick of that name makes the ones to read, and none where it fails
abbrev pub picked_bytes : List ℕ → SiteState → Option (List ℕ)
picked_bytes name site = if next_pick_fails site then None else file_named name site.files

-- the site after a pick that made these bytes the ones to read
abbrev pub site_picked : List ℕ → List ℕ → SiteState → SiteState
site_picked name bytes site = record site { is_picked = true; picked = site.picked ++ name ∷ []; left = bytes; picks = raised site.picks }

-- the site after a pick that failed
abbrev pub site_unpicked : List ℕ → SiteState → SiteState
site_unpicked name site = record site { is_picked = false; picked = site.picked ++ name ∷ []; left = []; picks = raised site.picks; faults = raised site.faults }

-- the site after a pick for which memory ran out
abbrev pub site_unnamed : SiteState → SiteState
site_unnamed site = record site { is_picked = false; left = []; picks = raised site.picks }

-- the site after a read of this many bytes
abbrev pub site_read : ℕ → SiteState → SiteState
site_read count site = record site { left = drop count site.left; reads = raised site.reads }

-- the site after a read that failed
abbrev pub site_unread : SiteState → SiteState
site_unread site = record site { reads = raised site.reads; faults = raised site.faults }

-- the site after a wire was made
abbrev pub site_wired : List ℕ → List ℕ → SiteState → SiteState
site_wired dir peer site = record site { wires = raised site.wires; made = site.made ++ record { dir = dir; peer = peer } ∷ [] }

-- the site after a wire for which memory ran out
abbrev pub site_unmade : SiteState → SiteState
site_unmade site = record site { wires = raised site.wires }

-- the site after a wire that was listed to fail
abbrev pub site_unwired : SiteState → SiteState
site_unwired site = record site { wires = raised site.wires; wire_faults = raised site.wire_faults }

-- the site with further sessions of a peer whose begin fails
abbrev pub site_with_begins : List ℕ → List ℕ → SiteState → SiteState
site_with_begins peer sessions site = record site { begins = site.begins ++ record { peer = peer; sessions = sessions } ∷ [] }
