use Rattle.ug_update.proofs.attributes.cluster_list.ClusterListSpelled.size.Goals as goal

pub returns : goal.returns
returns c = rw (← c.as_slice.ensures) (c.list_size.ensures.size 128 10)
