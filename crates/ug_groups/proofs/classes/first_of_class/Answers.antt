use Rattle.std.proofs.Common.{◌≡◌, ℕ, ◌==◌, List, Option, drop, ap, ◌∙◌, arith}
use Rattle.std.specs.Prelude.{position}
use Rattle.ug_queue.specs.Spread.{numbered}
use Rattle.ug_groups.specs.declared.entry.Entry.{Entry}
use Rattle.ug_groups.specs.Scans.{first_of, number_at}
use Rattle.ug_groups.proofs.Scanned.{number_first_from}
use Rattle.ug_groups.proofs.ClassSweeps.{there_in, below_in, skipped_in, none_in}
use Rattle.ug_groups.proofs.classes.first_of_class.Goals as goal

found : (class from : ℕ) (xs : List (Option Entry)) (rows : List (ℕ × Entry)) (place result : Option ℕ) → rows ≡ numbered from (drop from xs) → place ≡ position (λ (r : ℕ × Entry). r.1.class == class) rows
    → result ≡ number_at place rows → result ≡ first_of (λ g e. e.class == class) from (drop from xs)
found class from xs rows place result listed at is =
    is ∙ ap (λ (o : Option ℕ). number_at o rows) at ∙ ap (λ (rs : List (ℕ × Entry)). number_at (position (λ (r : ℕ × Entry). r.1.class == class) rs) rs) listed
    ∙ number_first_from (λ g e. e.class == class) from (drop from xs)

abbrev is_found : goal.After-number_of → Type 0
is_found c = c.number_of.result ≡ first_of (λ g e. e.class == c.args.class) c.args.from (drop c.args.from c.args.live.now)

the_first : (c : goal.After-number_of) → is_found c
the_first c = found c.args.class c.args.from c.args.live.now c.entries_from-entries.result.now c.place_of_class.result c.number_of.result c.entries_from-entries.ensures c.place_of_class.ensures c.number_of.ensures

pub returns-clause-there : goal.returns-clause-there
returns-clause-there c = there_in c.args.class c.args.from c.args.live.now c.number_of.result (the_first c)

pub returns-clause-below : goal.returns-clause-below
returns-clause-below c =
    let fits = c.next-next.type_inv in let is = c.next-next.ensures in
    below_in c.args.class c.args.from c.args.live.now 4294967295 (omega (arith, fits, is)) c.number_of.result (the_first c)

pub returns-clause-skipped : goal.returns-clause-skipped
returns-clause-skipped c = skipped_in c.args.class c.args.from c.args.live.now c.number_of.result (the_first c)

pub returns-clause-none : goal.returns-clause-none
returns-clause-none c = none_in c.args.class c.args.from c.args.live.now c.number_of.result (the_first c)
