use Rattle.std.proofs.Common.{sym, ◌∙◌, ap, subst}
use Rattle.std.proofs.lemmas.List.{append-nil}
use Rattle.ug_world.specs.World.{World}
use Rattle.ug_edge.specs.Told.{AppendsAll, Rose}
use Rattle.ug_config.specs.Worlds.{config}
use Rattle.ug_run.specs.AuditedRuns.{LeavesRight}
use Rattle.ug_run.proofs.Runs.{run-right}
use Rattle.ug_run.proofs.Sites.{one_world, files-right}
use Rattle.ug_run.proofs.Audits.{nothing-amiss}
use Rattle.ug_run.proofs.laws.files_are_right.Goals as goal

pub returns : goal.returns
returns g c = record {
  right = λ audit files w command configuration events report run is completed tell config_told events_told empty report_told config_is events_are report_is first hold.
      let found = run-right g.M.Machine.rules g.M.Speaker.speech command configuration events report run config_told events_told empty report_told completed tell is in
      let read = sym (append-nil found.1.read) ∙ sym found.1.is_part in
      let same = one_world configuration found.0 w (ap config (sym read) ∙ found.1.is) first in
      files-right audit files configuration events report run.wires config_is events_are report_is w first hold (subst (λ (v : World). LeavesRight v events report run.wires) same found.2);
  ends = λ audit files w command configuration events report run ending seen seen' before held failures failures' is completed tell config_told events_told empty report_told config_is events_are report_is first hold audited.
      let found = run-right g.M.Machine.rules g.M.Speaker.speech command configuration events report run config_told events_told empty report_told completed tell is in
      let read = sym (append-nil found.1.read) ∙ sym found.1.is_part in
      let same = one_world configuration found.0 w (ap config (sym read) ∙ found.1.is) first in
      let leaves = subst (λ (v : World). LeavesRight v events report run.wires) same found.2 in
      nothing-amiss audit files configuration events report config_is events_are report_is w first leaves.clear
      (files-right audit files configuration events report run.wires config_is events_are report_is w first hold leaves) (AppendsAll seen seen') before held (Rose failures failures') ending audited;
}
