use Rattle.ug_audit.proofs.Answered.{right_by, refuted_by}
use Rattle.ug_audit.proofs.auditing.audit.Goals as goal

pub returns-clause-right : goal.returns-clause-right
returns-clause-right g c = λ is told files. right_by _ (g.E.Source.files c.args.site.now) told _ c.audit_files.result _ _ _ is files c.audit_files.ensures.audited

pub returns-clause-refuted : goal.returns-clause-refuted
returns-clause-refuted g c = λ peer session kind message key told is files. refuted_by _ (g.E.Source.files c.args.site.now) told _ c.audit_files.result _ _ _ peer session kind message key is files c.audit_files.ensures.audited
