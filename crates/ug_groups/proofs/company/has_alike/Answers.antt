use Rattle.std.proofs.Common.{◌≡◌, ◌+◌, ℕ, Bool, true, false, sym, ap, subst, ◌∙◌, get_or}
use Rattle.std.proofs.lemmas.Option.{get_or_from_slice_get}
use Rattle.ug_group_rules.specs.Machine.{is_level}
use Rattle.ug_groups.specs.declared.entry.Entry.{Entry}
use Rattle.ug_groups.specs.Entries.{bare}
use Rattle.ug_groups.specs.Company.{AreMarked, IsUnlike}
use Rattle.ug_groups.proofs.Alike.{apart_more, unmarked, marked_more}
use Rattle.ug_groups.proofs.company.has_alike.Goals as goal

never : {P : Type 0} (b : Bool) → b ≡ false → b ≡ true → P
never b is_not is_so = absurd (let e : false ≡ true = sym is_not ∙ is_so in cc)

pub returns-then-not-is_level-clause-unlike : goal.returns-then-not-is_level-clause-unlike
returns-then-not-is_level-clause-unlike c _ before =
    apart_more c.args.place c.args.entries.now before
    (λ r at is_so. never c.is_level.result c.if-not-is_level.true
    (c.is_level.ensures ∙ ap (λ (x : ℕ × Entry). is_level (bare x.1).sub) (get_or_from_slice_get c.args.entries.now c.args.place r c.index-entries-place.result at) ∙ is_so))

pub returns-then-not-mark-clause-marked : goal.returns-then-not-mark-clause-marked
returns-then-not-mark-clause-marked c =
    subst (AreMarked (c.args.place + 1) c.args.entries.now) (sym c.mark.ensures.set)
    (marked_more c.args.place c.args.entries.now c.args.marks.now (get_or c.args.entries.now c.args.place c.index-entries-place.result).1.class c.requires.size c.requires.marked
    (λ r at. ap (λ (x : ℕ × Entry). x.1.class) (sym (get_or_from_slice_get c.args.entries.now c.args.place r c.index-entries-place.result at))))

pub returns-then-not-mark-clause-unlike : goal.returns-then-not-mark-clause-unlike
returns-then-not-mark-clause-unlike c _ before =
    apart_more c.args.place c.args.entries.now before
    (λ r at is_so. subst (λ (x : ℕ × Entry). IsUnlike c.args.place c.args.entries.now x.1.class) (get_or_from_slice_get c.args.entries.now c.args.place r c.index-entries-place.result at)
    (unmarked c.args.place c.args.entries.now c.args.marks.now (get_or c.args.entries.now c.args.place c.index-entries-place.result).1.class c.requires.marked (sym c.mark.ensures.was ∙ c.if-not-mark.true)))

pub returns-clause-marked : goal.returns-clause-marked
returns-clause-marked c =
    subst (AreMarked (c.args.place + 1) c.args.entries.now) (sym c.mark.ensures.set)
    (marked_more c.args.place c.args.entries.now c.args.marks.now (get_or c.args.entries.now c.args.place c.index-entries-place.result).1.class c.requires.size c.requires.marked
    (λ r at. ap (λ (x : ℕ × Entry). x.1.class) (sym (get_or_from_slice_get c.args.entries.now c.args.place r c.index-entries-place.result at))))

pub returns-clause-unlike : goal.returns-clause-unlike
returns-clause-unlike c none before =
    apart_more c.args.place c.args.entries.now before
    (λ r at is_so. subst (λ (x : ℕ × Entry). IsUnlike c.args.place c.args.entries.now x.1.class) (get_or_from_slice_get c.args.entries.now c.args.place r c.index-entries-place.result at)
    (c.has_level.ensures none))
