use Rattle.std.proofs.Common.{◌≡◌, ◌++◌, List, ℕ, OnOk, subst, sym}
use Rattle.std.specs.String.{string_bytes}
use Rattle.ug_text.proofs.Groups.{three_are_eight}
use Rattle.ug_text.proofs.address.write_grouped.Goals as goal

pub returns : goal.returns
returns c =
    subst (λ (text : List ℕ). OnOk c.write_three_groups.result (string_bytes c.write_three_groups.new.out ≡ string_bytes c.args.out.now ++ text))
    (sym (three_are_eight c.args.bits c.if-bits-ne0.false)) c.write_three_groups.ensures
