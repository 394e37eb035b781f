-- The files that a completed run leaves in a folder are right.
use Rattle.std.proofs.Common.{◌≡◌, ℕ, List, slice_get, Option, Some, Ok, sym, ◌∙◌, ap, subst}
use Rattle.std.specs.Option.{option_map}
use Rattle.std.proofs.lemmas.Option.{slice_get-map}
use Rattle.ug_edge.specs.Told.{FileText, file_named}
use Rattle.ug_world.specs.declared.peer_state.PeerState.{PeerState}
use Rattle.ug_world.specs.World.{World}
use Rattle.ug_world.specs.Worlds.{last_world}
use Rattle.ug_report.specs.Report.{names_in}
use Rattle.ug_config.specs.Worlds.{config}
use Rattle.ug_config.proofs.Inverting.{ok_is}
use Rattle.ug_commands.specs.Words.{AuditCommand}
use Rattle.ug_audit_rules.specs.Lines.{said_in}
use Rattle.ug_event_loop.specs.Contents.{WireTold}
use Rattle.ug_event_loop.proofs.Lists.{some-same}
use Rattle.ug_audit_rules.specs.Audited.{IsAudited}
use Rattle.ug_audit_rules.specs.Reports.{entries_of}
use Rattle.ug_audit.specs.Right.{AreRight, held_by}
use Rattle.ug_run.specs.AuditedRuns.{LeavesRight}
use Rattle.ug_run.specs.Sites.{HoldSessions}
use Rattle.ug_run.proofs.Ranges.{name_here, names-stay}

-- the same text is read as the same world
pub one_world : (bytes : List ℕ) (v w : World) → config bytes ≡ Ok v → config bytes ≡ Ok w → v ≡ w
one_world bytes v w one other = ok_is v w (sym one ∙ other)

module _ (command : AuditCommand) (files : List FileText) (configuration events report : List ℕ) (wires : List WireTold)
    (config_is : file_named command.config files ≡ Some configuration) (events_are : file_named command.events files ≡ Some events) (report_is : file_named command.report files ≡ Some report)
    (w : World) (first : config configuration ≡ Ok w) (hold : HoldSessions files command.dir (names_in w) wires) (leaves : LeavesRight w events report wires) where
  abbrev last : World
  last = last_world w (said_in events)

  named : (p : ℕ) (s : PeerState) → slice_get last.peers p ≡ Some s → slice_get (names_in w) p ≡ Some s.peer.name
  named p s there =
      ap (λ (names : List (List ℕ)). slice_get names p) (sym (names-stay (said_in events) w)) ∙ (slice_get-map name_here last.peers p ∙ ap (λ o. option_map name_here o) there)

  right_here : IsAudited w (said_in events) (entries_of last report) (λ (p n : ℕ). held_by command.dir files n (slice_get last.peers p))
  right_here p n s there some few =
      let found = leaves.audited p n s there some few in
      (found.0, ap (λ (o : Option PeerState). held_by command.dir files n o) there ∙ hold p n s.peer.name found.0 (named p s there) found.1, found.2)

  pub files-right : AreRight command files
  files-right settings events' report' w' settings_are config_of events_is reports =
      let s = some-same settings configuration (sym settings_are ∙ config_is) in
      let e = some-same events events' (sym events_are ∙ events_is) in
      let r = some-same report report' (sym report_is ∙ reports) in
      let v = one_world configuration w w' first (ap config (sym s) ∙ config_of) in
      subst (λ (u : World). IsAudited u (said_in events') (entries_of (last_world u (said_in events')) report') (λ (p n : ℕ). held_by command.dir files n (slice_get (last_world u (said_in events')).peers p))) v
      (subst (λ (x : List ℕ). IsAudited w (said_in events') (entries_of (last_world w (said_in events')) x) (λ (p n : ℕ). held_by command.dir files n (slice_get (last_world w (said_in events')).peers p))) r
      (subst (λ (x : List ℕ). IsAudited w (said_in x) (entries_of (last_world w (said_in x)) report) (λ (p n : ℕ). held_by command.dir files n (slice_get (last_world w (said_in x)).peers p))) e right_here))
