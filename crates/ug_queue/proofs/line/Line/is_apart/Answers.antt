use Rattle.std.specs.Prelude.{None}
use Rattle.std.specs.Map.{keys_of}
use Rattle.std.specs.List.{AllByRecursion}
use Rattle.std.proofs.Common.{◌≡◌, ℕ, get_or, sym, ap, subst, ◌∙◌, arith, below_more}
use Rattle.std.proofs.lemmas.Map.Entries.{length-keys_of}
use Rattle.ug_queue.specs.Queues.{place_of, IsMember}
use Rattle.ug_queue.specs.Lines.{place_from}
use Rattle.ug_queue.proofs.Placed.{keys_of-mapped}
use Rattle.ug_queue.proofs.Members.{listed_member, each_member}
use Rattle.ug_queue.proofs.Searches.{member_at, all_at, all_from}
use Rattle.ug_queue.proofs.line.Line.is_apart.Goals as goal

pub loop-member-init : goal.loop-member-init
loop-member-init g c = (
  ap keys_of c.entries-member-items.ensures ∙ sym (keys_of-mapped (place_from c.other.inside.start) c.other.inside.cursors) ∙ ap (λ q. keys_of q.places) c.other.view_is,
  λ k lt. absurd (omega (arith, lt)),
)

pub loop-member-preserved : goal.loop-member-preserved
loop-member-preserved g c =
    let es = c.entries-member-items.result.now in let i = c.loop-member.member-index in
    let none : place_of c.args.self.now (get_or (keys_of es) i 0) ≡ None = ap (place_of c.args.self.now) (member_at es i _ c.loop-member-test.true) ∙ c.has.ensures.none c.if-has.false in
    (c.loop-member.invariant.0, below_more _ _ c.loop-member.invariant.1 none)

pub returns-then-has-clause-meets : goal.returns-then-has-clause-meets
returns-then-has-clause-meets g c = λ so.
    let es = c.entries-member-items.result.now in let i = c.loop-member.member-index in
    let listed = subst (AllByRecursion (IsMember c.args.other.now)) (sym c.loop-member.invariant.0) (each_member (IsMember c.args.other.now) c.args.other.now.places (λ m is. is)) in (
      get_or (keys_of es) i 0,
      all_at (IsMember c.args.other.now) (keys_of es) i listed (omega (arith, c.loop-member-test.true, length-keys_of es)),
      subst (IsMember c.args.self.now) (sym (member_at es i _ c.loop-member-test.true)) (c.has.ensures.member.0 c.if-has.true),
    )

pub returns-clause-apart : goal.returns-clause-apart
returns-clause-apart g c so m member =
    let es = c.entries-member-items.result.now in
    let none = λ (n : ℕ). place_of c.args.self.now n ≡ None in
    let all = all_from none (keys_of es) (λ k lt. c.loop-member.invariant.1 k (omega (arith, lt, c.loop-member-test.false, length-keys_of es))) in
    listed_member none c.args.other.now.places (subst (AllByRecursion none) c.loop-member.invariant.0 all) m member
