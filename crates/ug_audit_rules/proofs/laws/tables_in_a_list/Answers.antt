use Rattle.ug_audit_rules.proofs.InAList.{right-by, first-by}
use Rattle.ug_audit_rules.proofs.laws.tables_in_a_list.Goals as goal

pub returns : goal.returns
returns c = record {
  right = λ ws last p n s syncs lost messages ending h. right-by ws last p n s syncs lost messages ending h;
  first = λ ws last p n s syncs lost messages ending b h. first-by ws last p n s syncs lost messages ending b h;
}
