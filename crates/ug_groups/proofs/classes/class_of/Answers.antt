use Rattle.std.specs.Prelude.{position, slice_index_or}
use Rattle.std.proofs.Common.{sym, subst, ap, ◌∙◌, ℕ, List}
use Rattle.ug_queue.specs.Spread.{numbered}
use Rattle.ug_group_rules.specs.Packets.{same_group}
use Rattle.ug_groups.specs.declared.entry.Entry.{Entry}
use Rattle.ug_groups.specs.Entries.{key_of, IsClass}
use Rattle.ug_groups.proofs.Accounts.{class_known, class_fresh}
use Rattle.ug_groups.proofs.Scanned.{place_some, place_none}
use Rattle.ug_groups.proofs.classes.class_of.Goals as goal

pub returns-in-Some : goal.returns-in-Some
returns-in-Some c =
    let xs = c.args.live.now in let i = c.in-Some.i in let d = c.index-entries-i.result in let row = slice_index_or (numbered 0 xs) i d in
    let found = place_some (λ (r : ℕ × Entry). same_group (key_of r.1) c.args.key.now) i d xs (ap (λ rows. position (λ (r : ℕ × Entry). same_group (key_of r.1) c.args.key.now) rows) (sym c.entries-entries.ensures) ∙ sym c.place_of_key.ensures ∙ c.in-Some.is) in
    subst (λ (rows : List (ℕ × Entry)). IsClass c.args.next xs c.args.key.now (slice_index_or rows i d).1.class) (sym c.entries-entries.ensures) (class_known c.args.next xs c.args.key.now c.requires row.0 row.1 found.1 found.0)

pub returns-in-None : goal.returns-in-None
returns-in-None c =
    class_fresh c.args.next c.args.live.now c.args.key.now c.requires
    (place_none (λ n (e : Entry). same_group (key_of e) c.args.key.now) c.args.live.now (ap (λ rows. position (λ (r : ℕ × Entry). same_group (key_of r.1) c.args.key.now) rows) (sym c.entries-entries.ensures) ∙ sym c.place_of_key.ensures ∙ c.in-None.is))
