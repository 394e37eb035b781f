-- A report that was read from a source.
use Rattle.std.proofs.Common.{◌≡◌, ℕ, ◌<◌, ◌≤◌, inl, inr, List, [], ◌++◌, length, map, take, Option, sym, ap, subst, ◌∙◌}
use Rattle.std.proofs.lemmas.List.{append-nil}
use Rattle.ug_edge.specs.Told.{IsEnded}
use Rattle.ug_pieces.specs.Lines.{lines_of, ended_from}
use Rattle.ug_pieces.specs.Pieces.{HasRead, IsHalt}
use Rattle.ug_pieces.specs.declared.halt.Halt.{Halt}
use Rattle.ug_pieces.specs.declared.halt.Halt.TheVariants as halts
use Rattle.std.proofs.lemmas.List.{length-map}
use Rattle.ug_world.specs.World.{World}
use Rattle.ug_audit_rules.specs.declared.entry.Entry.{Entry}
use Rattle.ug_audit_rules.specs.Reports.{entry_of, entries_of, AreClear}
use Rattle.ug_audit_rules.specs.declared.lines.Told.{Told}
use Rattle.ug_audit_rules.specs.declared.reading.Reading.{Reading}
use Rattle.ug_audit_rules.specs.declared.stop.Stop.{Stop}
use Rattle.ug_audit_rules.specs.Told.{most_lines, IsStop}
use Rattle.ug_audit_rules.specs.Reading.{HasTold, whole_entries, HasReadTo, HasGone, HasStoppedIn, most_bytes, IsReport, IsReportHalt}

clear_whole : (last : World) (r : Reading) (bytes : List ℕ) → HasReadTo last r bytes → AreClear (whole_entries last bytes)
unfolding ended_from
clear_whole last r bytes h = subst AreClear (sym (ap (map (entry_of last)) (h.lines ∙ append-nil h.done))) h.told.clear

module _ (last w' : World) (r r' : Reading) (left now : Option (List ℕ)) (none : HasReadTo last r []) where
  pub halts_so : (halt : Halt Stop) → HasRead left now (IsHalt halt 1073741824 (HasGone r last r' w') (HasStoppedIn r last r' w')) → HasRead left now (IsReportHalt last now halt)
  unfolding most_bytes
  halts_so halts.Read h = record { read = h.read; taken = h.taken; so = (h.so.0, clear_whole last r' h.read (h.so.1.1 [] none)) }
  halts_so halts.NoMemory h = record { read = h.read; taken = h.taken; so = tt }
  halts_so halts.TooLong h = record { read = h.read; taken = h.taken; so = (h.so.0, clear_whole last r' (take 1073741824 h.read) (h.so.1.1 [] none)) }
  halts_so (halts.Stopped stop) h = record { read = h.read; taken = h.taken; so = inl (h.so.1 [] none) }

  pub reads_so : (t : Told) → HasRead left now (λ read. IsEnded now × (length read ≤ 1073741824) × HasGone r last r' w' read) → ((stream : List ℕ) → HasReadTo w' r' stream → HasTold t (entries_of w' stream))
      → HasRead left now (IsReport last now t.entries.items)
  unfolding most_bytes
  reads_so t h ends =
      let gone = h.so.2 in
      let told = subst (λ (w : World). HasTold t (entries_of w h.read)) gone.0 (ends h.read (subst (λ (w : World). HasReadTo w r' h.read) (sym gone.0) (gone.1 [] none))) in
      record {
        read = h.read;
        taken = h.taken;
        so = record { ended = h.so.0; few_bytes = h.so.1; few_lines = subst (λ (n : ℕ). n ≤ most_lines) (length-map (lines_of h.read) (entry_of last)) told.few; clear = told.clear; tells = told.tells };
      }

  pub stops_so : (stop : Stop) → HasRead left now (λ read. IsEnded now × (length read ≤ 1073741824) × HasGone r last r' w' read) → ((stream : List ℕ) → HasReadTo w' r' stream → IsStop stop (entries_of w' stream))
      → HasRead left now (IsReportHalt last now (halts.Stopped stop))
  unfolding most_bytes
  stops_so stop h ends =
      let gone = h.so.2 in
      let stopped = subst (λ (w : World). IsStop stop (entries_of w h.read)) gone.0 (ends h.read (subst (λ (w : World). HasReadTo w r' h.read) (sym gone.0) (gone.1 [] none))) in
      record { read = h.read; taken = h.taken; so = inr (h.so.0, h.so.1, stopped) }
