use Rattle.std.proofs.Common.{◌≡◌, Option, Some, None, sym, subst, rules}
use Rattle.std.specs.Borrow.{Bor}
use Rattle.std.specs.Prelude.{option_copied}
use Rattle.std.specs.Option.{option_map}
use Rattle.ug_types.specs.declared.family.Family.TheVariants.{V6}
use Rattle.ug_types.specs.declared.key.Key.{Key}
use Rattle.ug_check.specs.declared.row.Row.{Row}
use Rattle.ug_check.specs.Stored.{row_lent, IsFirstAfter}
use Rattle.ug_check.proofs.After.{first_by, none_behind}
use Rattle.ug_check.proofs.rows.v4_after.Goals as goal

pub returns-in-None : goal.returns-in-None
returns-in-None c =
    let rows = c.args.rows.now.entries in
    let e = c.first_after.ensures in
    let first : IsFirstAfter rows (None) (option_map (λ (a : Bor Key × Bor Row). (a.0.now, a.1.now)) c.first_after.result) =
    first_by rows (None) (λ (a : Bor Key × Bor Row). a.0.now) (λ (a : Bor Key × Bor Row). a.1.now) c.first_after.result e.row e.above e.least e.none in
    subst (λ (k : Option (Bor Key)). IsFirstAfter rows (option_copied k) (option_map row_lent c.lend_v4.result)) (sym c.in-None.is) (subst (λ (o : Option (Key × Row)). IsFirstAfter rows (None) o) (sym c.lend_v4.ensures) first)

pub returns-in-V4 : goal.returns-in-V4
returns-in-V4 c =
    let rows = c.args.rows.now.entries in
    let e = c.first_after-in-V4.ensures in
    let first : IsFirstAfter rows (Some c.narrow.result) (option_map (λ (a : Bor Key × Bor Row). (a.0.now, a.1.now)) c.first_after-in-V4.result) =
    first_by rows (Some c.narrow.result) (λ (a : Bor Key × Bor Row). a.0.now) (λ (a : Bor Key × Bor Row). a.1.now) c.first_after-in-V4.result e.row e.above e.least e.none in
    subst (λ (k : Option (Bor Key)). IsFirstAfter rows (option_copied k) (option_map row_lent c.lend_v4-in-V4.result)) (sym c.in-Some.is) (subst (λ (k : Key). IsFirstAfter rows (Some k) (option_map row_lent c.lend_v4-in-V4.result)) c.narrow.ensures (subst (λ (o : Option (Key × Row)). IsFirstAfter rows (Some c.narrow.result) o) (sym c.lend_v4-in-V4.ensures) first))

pub returns-in-V6 : goal.returns-in-V6
returns-in-V6 c =
    let rows = c.args.rows.now.entries in
    let six : c.in-Some.key.now.prefix.family ≡ V6 = search rules in
    subst (λ (k : Option (Bor Key)). IsFirstAfter rows (option_copied k) None) (sym c.in-Some.is) (none_behind c.requires.0 rows c.in-Some.key.now c.requires.1 six)
