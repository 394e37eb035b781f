-- The report of a completed run is read as it was meant.
use Rattle.std.proofs.Common.{◌≡◌, ℕ, ◌<◌, true, List, ◌++◌, length, sym, ◌∙◌, ap, subst, refl, arith}
use Rattle.ug_types.specs.declared.mark.Mark.{Mark}
use Rattle.ug_board.specs.Deeds.{Each}
use Rattle.ug_events.specs.Events.{Saying}
use Rattle.ug_events.specs.Reads.{Reads}
use Rattle.ug_world.specs.Names.{are_distinct}
use Rattle.ug_world.specs.World.{World}
use Rattle.ug_world.specs.Worlds.{worlds, last_world}
use Rattle.ug_speaker.specs.Owes.{IsOpening}
use Rattle.std.specs.List.{concat}
use Rattle.ug_report.specs.declared.endings.Loss.{Loss}
use Rattle.ug_report.specs.Report.{AreOf64, names_in, line_texts, end_text, accepted_count, refused_count, completed_text, losses_from, losses_status}
use Rattle.ug_event_loop.specs.Contents.{WireTold, Content, is_lost_at}
use Rattle.ug_event_loop.specs.Kept.{IsKept, IsWireOf}
use Rattle.ug_audit_rules.specs.Reports.{IsWord, entries_of}
use Rattle.ug_run.specs.Files.{all_syncs}
use Rattle.ug_run.specs.Reports.{IsReport}
use Rattle.ug_run.proofs.Worlds.{CanBeTold, EachHad}
use Rattle.ug_run.proofs.AuditedLosses.{is_lost_among, lost-in}
use Rattle.ug_run.proofs.Telling.{Tell, lost-told, report-read}
use Rattle.ug_event_loop.proofs.EachWires.{one-by-one}
use Rattle.ug_run.proofs.Good.{marks-good, losses-good}
use Rattle.ug_run.proofs.Tails.{status-silent}
use Rattle.ug_run.proofs.Ranges.{is-named, names-stay, IsWithin, within-lines, first-had, first-within, first-distinct}

module _ (w : World) (lines : List (Reads Saying)) (marks : List (List Mark)) (wires : List WireTold) (contents : List (List Content)) (lost : List (List ℕ))
    (opens : IsOpening w) (words : Each IsWord (names_in w)) (few : length lines < 18446744073709551616) (small : Each AreOf64 marks) (is : IsKept w lines marks true wires contents lost) where
  abbrev last : World
  last = last_world w lines

  can : CanBeTold last
  can =
      let within = within-lines 0 lines w (subst (λ (v : World). IsWithin 0 v) (sym opens.first) (first-within opens.parts)) in
      let version = within.version in
      record {
        named = λ p s there.
            is-named last p s (subst (λ (ns : List (List ℕ)). Each IsWord ns) (sym (names-stay lines w)) words)
            (ap are_distinct (names-stay lines w) ∙ (ap (λ (v : World). are_distinct (names_in v)) opens.first ∙ first-distinct opens.parts opens.good)) there;
        version = omega arith;
        sessions = λ p s there. let most = within.sessions p s there in omega arith;
      }

  module _ (front tail : List ℕ) (status : losses_status (names_in w) (losses_from 0 lost) ≡ front ++ tail) where
    stay : names_in last ≡ names_in w
    stay = names-stay lines w

    -- the whole text, with these names
    abbrev text : List (List ℕ) → List ℕ
    text ns = concat (line_texts ns 1 w lines marks) ++ end_text ns w lines (losses_from 0 lost)

    pub read-again : IsReport last (completed_text w lines marks (losses_from 0 lost) ++ front) (all_syncs lines marks) lost
    read-again =
        let losses = losses-good last can (worlds w lines) true 0 wires contents lost (one-by-one (IsWireOf (worlds w lines) last true) wires contents lost is.each) in
        let had = subst (λ (v : World). EachHad v) (sym opens.first) (first-had opens.parts) in
        let silent = status-silent last (losses_from 0 lost) front tail losses (ap (λ (ns : List (List ℕ)). losses_status ns (losses_from 0 lost)) stay ∙ status) in
        let tells = subst (λ (ns : List (List ℕ)). Tell (entries_of last (text ns ++ front)) (all_syncs lines marks) (losses_from 0 lost)) stay
        (report-read last w lines marks (losses_from 0 lost) (accepted_count w lines) (refused_count w lines) front
        (marks-good last can (is_lost_at lost) w lines marks had refl is.marked small) losses silent) in
        record {
          clear = tells.clear;
          told = record {
            syncs_are = tells.marks;
            losses_are = λ p n.
                lost-told (entries_of last (completed_text w lines marks (losses_from 0 lost) ++ front)) p n
                ∙ (ap (λ (ls : List Loss). is_lost_among ls p n) tells.losses ∙ lost-in lost p n);
          };
        }
