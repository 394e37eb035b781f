use Rattle.std.proofs.Common.{◌≡◌, suc, Bool, List, [], length, None, option_copied, refl, ap, ◌∙◌, subst}
use Rattle.std.specs.Prelude.{◌&&◌, not}
use Rattle.ug_types.specs.declared.key.Key.{Key}
use Rattle.ug_types.specs.Messages.{changes_of}
use Rattle.ug_message.specs.Tables.{among}
use Rattle.ug_hearing.proofs.Among.{neither}
use Rattle.ug_hearing.proofs.Retold.{passed-as}
use Rattle.ug_hearing.proofs.Taking.{taken}
use Rattle.ug_hearing.proofs.hearing.Hearing.update.Goals as goal

picked : (gone withdrawn announced withdrawn' announced' : List Key) → withdrawn ≡ withdrawn' → announced ≡ announced' → ((q : Key) → among gone q ≡ (among withdrawn q && not (among announced q)))
    → (q : Key) → among gone q ≡ (among withdrawn' q && not (among announced' q))
picked gone withdrawn announced withdrawn' announced' one other h =
    subst (λ (ks : List Key). (q : Key) → among gone q ≡ (among withdrawn' q && not (among ks q))) other
    (subst (λ (ks : List Key). (q : Key) → among gone q ≡ (among ks q && not (among announced q))) one h)

pub returns-clause-taken : goal.returns-clause-taken
returns-clause-taken c = λ past tables ms course number heard.
    let u = changes_of c.args.update.now in
    taken c.args.course.now.changes c.args.course.now.from c.args.course.now.to past tables course u ms c.in_ok-gone.gone.items c.args.self.now.standings c.visit_all.new.self c.visit_all-2.new.self
    c.visit_all.new.failed.items c.visit_all-2.new.failed.items
    (picked c.in_ok-gone.gone.items c.as_slice.result.now c.as_slice-announced.result.now u.withdrawn u.announced c.as_slice.ensures c.as_slice-announced.ensures c.in_ok-gone.ensures)
    (passed-as c.args.course.now.changes c.args.course.now.from c.args.course.now.to c.args.message (suc (length ms)) c.as_slice-announced.result.now u.announced c.new-failed.result.items []
    (option_copied c.as_ref-attrs.result) u.attrs c.visit_all.new.failed.items c.args.self.now.standings c.visit_all.new.self number c.as_slice-announced.ensures c.new-failed.ensures.items c.as_ref-attrs.ensures.value
    c.in_ok-visit_all.ensures)
    (passed-as c.args.course.now.changes c.args.course.now.from c.args.course.now.to c.args.message (suc (length ms)) c.deref.result.now c.in_ok-gone.gone.items c.visit_all.new.failed.items c.visit_all.new.failed.items None None
    c.visit_all-2.new.failed.items c.visit_all.new.self c.visit_all-2.new.self number c.deref.ensures.value refl refl c.in_ok-visit_all-2.ensures)
    c.args.self.now.refreshing heard

pub returns-clause-others : goal.returns-clause-others
returns-clause-others c = λ ends q silent.
    let u = changes_of c.args.update.now in
    let n = neither (among u.withdrawn q) (among u.announced q) silent in
    let gone =
    picked c.in_ok-gone.gone.items c.as_slice.result.now c.as_slice-announced.result.now u.withdrawn u.announced c.as_slice.ensures c.as_slice-announced.ensures c.in_ok-gone.ensures q
    ∙ ap (λ (b : Bool). b && not (among u.announced q)) n.0 in
    let stays = ap (λ (ks : List Key). among ks q) c.deref.ensures.value ∙ gone in
    c.in_ok-visit_all-2.ensures.unseen q stays ∙ c.in_ok-visit_all.ensures.unseen q (ap (λ (ks : List Key). among ks q) c.as_slice-announced.ensures ∙ n.1)
