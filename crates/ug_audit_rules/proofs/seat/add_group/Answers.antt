use Rattle.std.proofs.Common.{◌≡◌, ℕ, rules, inr, List, length, slice_get, subst, sym}
use Rattle.ug_audit_rules.specs.declared.group.Group.{Group}
use Rattle.ug_audit_rules.specs.Seats.{IsKeyed}
use Rattle.ug_audit_rules.proofs.GroupNotes.{keyed-last, begun-with}
use Rattle.ug_audit_rules.proofs.seat.add_group.Goals as goal

pub returns-clause-keyed : goal.returns-clause-keyed
returns-clause-keyed g c =
    let place : c.len-place.result ≡ length c.args.groups.now.items = search rules in
    subst (λ (n : ℕ). IsKeyed c.args.key (slice_get c.push.new.self.items n)) (sym place)
    (subst (λ (gs : List Group). IsKeyed c.args.key (slice_get gs (length c.args.groups.now.items))) (sym c.in_ok-push.ensures.items)
    (keyed-last c.args.key c.args.groups.now.items c.in_ok-group.group c.in_ok-group.ensures.key))

pub returns-clause-groups : goal.returns-clause-groups
returns-clause-groups g c = inr (c.in_ok-group.group, c.in_ok-push.ensures.items, begun-with c.args.world.now c.args.key c.in_ok-group.group c.in_ok-group.ensures.key c.in_ok-group.ensures.start c.in_ok-group.ensures.noted)
