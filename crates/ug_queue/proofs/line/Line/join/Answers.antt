use Rattle.std.proofs.Common.{◌+◌, ◌<◌, ◌%◌, ◌^◌, length, set, get_or, refl, ap, ◌∙◌, arith}
use Rattle.std.specs.Ordering.{nat_cmp}
use Rattle.std.specs.BTreeMap.{insert_entry}
use Rattle.ug_queue.specs.Queues.{is_member, place_of, least_place, passed, with_member}
use Rattle.ug_queue.specs.Lines.{place_from, places_from}
use Rattle.ug_queue.proofs.Placed.{missed_back}
use Rattle.ug_queue.proofs.Sheds.{passed_joined}
use Rattle.ug_queue.proofs.Kept.{begun_long, begun_at_most, joined, queued_same}
use Rattle.ug_queue.proofs.line.Line.join.Goals as goal

pub insert-requires : goal.insert-requires
insert-requires g c = missed_back (is_member c.args.member) (place_from c.self.inside.start) c.self.inside.cursors (ap (λ q. place_of q c.args.member) c.self.view_is ∙ c.requires)

pub raise-requires-clause-fits : goal.raise-requires-clause-fits
raise-requires-clause-fits g c =
    omega (arith, begun_at_most _ _ _ _ c.self.invariant c.begin.new.waiting.items c.len-end.result (c.begin.ensures.counts c.len-end.result), c.len-members.ensures.small, c.len-members.ensures.len)

pub invariant_of-self-2 : goal.invariant_of-self-2
invariant_of-self-2 g c =
    let v = c.begin.new.waiting.items in let es = c.self.inside.cursors in let s = c.self.inside.start in let m = c.args.member in
    let at = ap (λ q. place_of q m) c.self.view_is ∙ c.requires in
    let long = begun_long _ _ _ _ c.self.invariant v c.begin.ensures.same (λ z. c.in_ok-begin.ensures.first z) in
    let few : length c.self.inside.packets.items < 2 ^ 64 = omega (arith, long, c.begin.new.waiting.ok.0, c.begin.new.waiting.small.0, c.begin.new.waiting.small.1) in
    (joined _ _ _ _ c.self.invariant v c.raise.new.waiting.items c.insert.new.self m at few c.begin.ensures.counts long
    (c.raise.ensures ∙ ap (λ k. set v k (get_or v k 0 + 1)) c.len-end.ensures)
    (c.in_ok-insert.ensures.entries ∙ ap (λ k. insert_entry nat_cmp es m ((s + k) % 2 ^ 64)) c.len-end.ensures) c.insert.ensures.ordered).line

pub returns-clause-ok : goal.returns-clause-ok
returns-clause-ok g c =
    let v = c.begin.new.waiting.items in let es = c.self.inside.cursors in let s = c.self.inside.start in let m = c.args.member in
    let at = ap (λ q. place_of q m) c.self.view_is ∙ c.requires in
    let long = begun_long _ _ _ _ c.self.invariant v c.begin.ensures.same (λ z. c.in_ok-begin.ensures.first z) in
    let few : length c.self.inside.packets.items < 2 ^ 64 = omega (arith, long, c.begin.new.waiting.ok.0, c.begin.new.waiting.small.0, c.begin.new.waiting.small.1) in
    queued_same c.self.inside.packets.items _ _ _ c.self.inside.limit refl
    (joined _ _ _ _ c.self.invariant v c.raise.new.waiting.items c.insert.new.self m at few c.begin.ensures.counts long
    (c.raise.ensures ∙ ap (λ k. set v k (get_or v k 0 + 1)) c.len-end.ensures)
    (c.in_ok-insert.ensures.entries ∙ ap (λ k. insert_entry nat_cmp es m ((s + k) % 2 ^ 64)) c.len-end.ensures) c.insert.ensures.ordered).places
    ∙ ap (λ q. with_member q m (length q.packets)) c.self.view_is

pub returns-clause-needed : goal.returns-clause-needed
returns-clause-needed g c =
    let v = c.begin.new.waiting.items in let es = c.self.inside.cursors in let s = c.self.inside.start in let m = c.args.member in let n = length c.self.inside.packets.items in
    let at = ap (λ q. place_of q m) c.self.view_is ∙ c.requires in
    let long = begun_long _ _ _ _ c.self.invariant v c.begin.ensures.same (λ z. c.in_ok-begin.ensures.first z) in
    let few : n < 2 ^ 64 = omega (arith, long, c.begin.new.waiting.ok.0, c.begin.new.waiting.small.0, c.begin.new.waiting.small.1) in
    ap (least_place n)
    (joined _ _ _ _ c.self.invariant v c.raise.new.waiting.items c.insert.new.self m at few c.begin.ensures.counts long
    (c.raise.ensures ∙ ap (λ k. set v k (get_or v k 0 + 1)) c.len-end.ensures)
    (c.in_ok-insert.ensures.entries ∙ ap (λ k. insert_entry nat_cmp es m ((s + k) % 2 ^ 64)) c.len-end.ensures) c.insert.ensures.ordered).places
    ∙ passed_joined n m (places_from s es) at ∙ ap passed c.self.view_is
