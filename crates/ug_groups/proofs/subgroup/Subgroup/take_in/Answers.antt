use Rattle.std.specs.Prelude.{None}
use Rattle.std.specs.Map.{keys_of}
use Rattle.std.specs.List.Sorted.{IsStrictlySortedBy}
use Rattle.std.specs.Ordering.{nat_cmp}
use Rattle.std.proofs.Common.{◌≡◌, sym, subst, ap, ◌∙◌}
use Rattle.ug_queue.specs.Queues.{place_of, AreNewcomers}
use Rattle.ug_queue.proofs.Members.{newcomers_listed, each_member}
use Rattle.ug_groups.specs.Subgroups.{Grouped}
use Rattle.ug_groups.proofs.subgroup.Subgroup.take_in.Goals as goal

pub join_all-requires : goal.join_all-requires
join_all-requires c =
    let q = c.args.self.now.queue in let places = c.args.other.now.queue.places in
    let same : c.other.inside.queue.places ≡ places = ap (λ (g : Grouped). g.queue.places) c.other.view_is in
    subst (AreNewcomers q) (sym (c.as_slice.ensures ∙ c.in_ok-members.ensures.members ∙ ap keys_of same))
    (newcomers_listed q (keys_of places) (subst (λ l. IsStrictlySortedBy nat_cmp (keys_of l)) same c.in_ok-members.ensures.sorted) (each_member (λ m. place_of q m ≡ None) places c.requires.apart))
