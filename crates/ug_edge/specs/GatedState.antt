-- What a site and its wires in memory hold whose wires wait for each other.
use Rattle.std.specs.Prelude.{ℕ, Bool, List, []}
use Rattle.ug_edge.specs.Told.{FileText}
use Rattle.ug_edge.specs.SiteState.{SiteState, fresh_site}
use Rattle.ug_edge.specs.WireState.{WireState}

-- The wire within, whether its next send still waits for the other wire, and the faults so far.
pub record GatedWireState : Type 0 where
  pub wire : WireState
  pub is_gated : Bool
  pub faults : ℕ

-- The site within, the number of wires asked for so far, and how many of them could not be made.
pub record GatedSiteState : Type 0 where
  pub site : SiteState
  pub calls : ℕ
  pub wire_faults : ℕ

-- the site that has these files, before any call
abbrev pub fresh_gated_site : List FileText → GatedSiteState
fresh_gated_site files = record { site = fresh_site files [] []; calls = 0; wire_faults = 0 }
