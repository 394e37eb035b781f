use Rattle.std.proofs.Common.{◌≡◌, false, List, [], ◌∷◌, ◌++◌, Some, ap, ◌∙◌, rules}
use Rattle.std.specs.Prelude.{if◌then◌else◌}
use Rattle.ug_types.specs.declared.key.Key.{Key}
use Rattle.ug_types.specs.Keys.{same_key}
use Rattle.ug_message.specs.Tables.{among}
use Rattle.ug_check.specs.declared.row.Announced.{Announced}
use Rattle.ug_check.specs.declared.waiting.Change.{Change}
use Rattle.ug_check.specs.Rows.{row_at}
use Rattle.ug_check.specs.Waiting.{with_waiting}
use Rattle.ug_check.proofs.WithWaiting.{row_pushed, stale_pushed}
use Rattle.ug_check.proofs.waiting.add.Goals as goal

pub returns-clause-row : goal.returns-clause-row
returns-clause-row c = λ t q.
    let before = c.args.waiting.now.items in
    let change : Change = record { key = c.narrow-key.result; row = record { shared = c.in_ok-clone.field-0 } } in
    let pushed : c.push.new.self.items ≡ before ++ change ∷ [] = search rules in
    let same : c.in_ok-clone.field-0.value ≡ c.args.shared.now.value = search rules in
    ap (λ (l : List Change). row_at (with_waiting t l).rows q) pushed ∙ row_pushed t before change q
    ∙ ap (λ (k : Key). if same_key q k then Some change.row.shared.value.attrs else row_at (with_waiting t before).rows q) c.narrow-key.ensures
    ∙ ap (λ (a : Announced). if same_key q c.args.key.now then Some a.attrs else row_at (with_waiting t before).rows q) same

pub returns-clause-stale : goal.returns-clause-stale
returns-clause-stale c = λ t q.
    let before = c.args.waiting.now.items in
    let change : Change = record { key = c.narrow-key.result; row = record { shared = c.in_ok-clone.field-0 } } in
    let pushed : c.push.new.self.items ≡ before ++ change ∷ [] = search rules in
    ap (λ (l : List Change). among (with_waiting t l).stale q) pushed ∙ stale_pushed t before change q
    ∙ ap (λ (k : Key). if same_key q k then false else among (with_waiting t before).stale q) c.narrow-key.ensures
