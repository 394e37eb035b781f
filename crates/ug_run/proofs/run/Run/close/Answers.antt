use Rattle.std.proofs.Common.{◌≡◌, true, false, ◌+◌, ◌<◌, [], ◌∷◌, ◌++◌, length, map, All, Any, sym, ◌∙◌, ap, subst, arith}
use Rattle.std.specs.List.{list_any}
use Rattle.std.proofs.lemmas.List.Elements.{All-push}
use Rattle.ug_board.specs.History.{MayGoOn}
use Rattle.ug_turnstile.specs.Passes.{Agrees}
use Rattle.ug_run.specs.Lanes.{AreAtPosts, AreKept}
use Rattle.ug_run.specs.Boards.{IsHistoryOf}
use Rattle.ug_run.proofs.Histories.{passes_here, passes_free, passes_whole, last_of_all, history_of, some_is, told_by}
use Rattle.ug_run.proofs.Running.{finished-at}
use Rattle.ug_run.proofs.run.Run.close.Goals as goal

pub part-unnoted-requires-clause-no_wires : goal.part-unnoted-requires-clause-no_wires
part-unnoted-requires-clause-no_wires g c κs within = c.self.invariant.no_wires

pub part-unnoted-requires-clause-no_passes : goal.part-unnoted-requires-clause-no_passes
part-unnoted-requires-clause-no_passes g c κs within = c.self.invariant.no_passes

pub part-unnoted-requires-clause-wires_room : goal.part-unnoted-requires-clause-wires_room
part-unnoted-requires-clause-wires_room g c κs within = c.self.invariant.wires_room

pub part-unnoted-requires-clause-passes_room : goal.part-unnoted-requires-clause-passes_room
part-unnoted-requires-clause-passes_room g c κs within = c.self.invariant.passes_room

pub close-board-requires-clause-here : goal.close-board-requires-clause-here
close-board-requires-clause-here g c =
    let at = subst (λ p. AreAtPosts c.self.inside.turnstile.id p.root 0 c.self.inside.lanes.items) (sym c.into_parts-pass.ensures.pass) c.self.invariant.posts in
    let whole = c.put.ensures.items ∙ ap (λ ps. ps ++ c.into_parts-pass.result.0 ∷ []) c.part-unnoted.ensures.passes in
    let i = c.self.inside in
    let pass = c.into_parts-pass.result.0 in
    subst (λ ps. All (λ q. q.turnstile ≡ i.turnstile.id) ps) (sym whole)
    (All-push (λ q. q.turnstile ≡ i.turnstile.id) (map (λ lane. lane.pass) i.lanes.items) pass
    (passes_here i.turnstile.id pass.root 0 i.lanes.items at) (ap (λ p. p.turnstile) c.into_parts-pass.ensures.pass ∙ c.self.invariant.here))

pub close-board-requires-clause-free : goal.close-board-requires-clause-free
close-board-requires-clause-free g c =
    let whole = c.put.ensures.items ∙ ap (λ ps. ps ++ c.into_parts-pass.result.0 ∷ []) c.part-unnoted.ensures.passes in
    let lanes = c.self.inside.lanes.items in
    let pass = c.into_parts-pass.result.0 in
    subst (λ ps. All (λ q. q.holds ≡ false) ps) (sym whole)
    (All-push (λ q. q.holds ≡ false) (map (λ lane. lane.pass) lanes) pass
    (passes_free g.S.Machine.rules g.W.Wire.sessions g.W.Wire.begun g.W.Wire.faults lanes c.part-unnoted.ensures.kept) (ap (λ p. p.holds) c.into_parts-pass.ensures.pass ∙ c.into_parts-pass.ensures.free))

pub close-board-requires-clause-whole : goal.close-board-requires-clause-whole
close-board-requires-clause-whole g c number lt =
    let at = subst (λ p. AreAtPosts c.self.inside.turnstile.id p.root 0 c.self.inside.lanes.items) (sym c.into_parts-pass.ensures.pass) c.self.invariant.posts in
    let first = ap (λ p. p.number) c.into_parts-pass.ensures.pass ∙ c.into_parts-pass.ensures.number in
    let whole = c.put.ensures.items ∙ ap (λ ps. ps ++ c.into_parts-pass.result.0 ∷ []) c.part-unnoted.ensures.passes in
    let i = c.self.inside in
    let pass = c.into_parts-pass.result.0 in
    let all : i.turnstile.count ≡ length i.lanes.items + 1 = c.self.invariant.count in
    let below : number < i.turnstile.count = lt in
    subst (λ ps. Any (λ q. q.number ≡ number) ps) (sym whole)
    (passes_whole i.turnstile.id pass.root i.lanes.items pass at first number (omega arith))

pub returns-clause-history : goal.returns-clause-history
returns-clause-history g c =
    let at = subst (λ p. AreAtPosts c.self.inside.turnstile.id p.root 0 c.self.inside.lanes.items) (sym c.into_parts-pass.ensures.pass) c.self.invariant.posts in
    let first = ap (λ p. p.number) c.into_parts-pass.ensures.pass ∙ c.into_parts-pass.ensures.number in
    let whole = c.put.ensures.items ∙ ap (λ ps. ps ++ c.into_parts-pass.result.0 ∷ []) c.part-unnoted.ensures.passes in
    let i = c.self.inside in
    let pass = c.into_parts-pass.result.0 in
    let history = c.into_parts-machine.result.1.items in
    subst (λ run. IsHistoryOf g.S.Machine.rules run.builder.pass run.lanes history) c.self.view_is
    (subst (λ p. IsHistoryOf g.S.Machine.rules p i.lanes.items history) c.into_parts-pass.ensures.pass
    (history_of g.S.Machine.rules i.turnstile.id pass i.lanes.items c.close-board.result.opening c.close-board.result.history history c.put.new.list.items
    at first whole c.into_parts-machine.ensures.history c.into_parts-machine.ensures.legal c.close-board.ensures.agrees c.close-board.ensures.owned))

pub returns-clause-only : goal.returns-clause-only
returns-clause-only g c other hist =
    let at = subst (λ p. AreAtPosts c.self.inside.turnstile.id p.root 0 c.self.inside.lanes.items) (sym c.into_parts-pass.ensures.pass) c.self.invariant.posts in
    let first = ap (λ p. p.number) c.into_parts-pass.ensures.pass ∙ c.into_parts-pass.ensures.number in
    let whole = c.put.ensures.items ∙ ap (λ ps. ps ++ c.into_parts-pass.result.0 ∷ []) c.part-unnoted.ensures.passes in
    let i = c.self.inside in
    let pass = c.into_parts-pass.result.0 in
    let agrees = subst (λ ps. All (Agrees (λ entry. entry.pass) c.close-board.result.opening c.close-board.result.history) ps) whole c.close-board.ensures.agrees in
    let root = (last_of_all (Agrees (λ entry. entry.pass) c.close-board.result.opening c.close-board.result.history) (map (λ lane. lane.pass) i.lanes.items) pass agrees).0 in
    let here =
    subst (λ p. IsHistoryOf g.S.Machine.rules p i.lanes.items other) (sym c.into_parts-pass.ensures.pass)
    (subst (λ run. IsHistoryOf g.S.Machine.rules run.builder.pass run.lanes other) (sym c.self.view_is) hist) in
    c.close-board.ensures.only other
    (told_by g.S.Machine.rules i.turnstile.id pass i.lanes.items c.close-board.result.opening other c.put.new.list.items at first whole root here)
    ∙ sym c.into_parts-machine.ensures.history

pub returns-clause-spent : goal.returns-clause-spent
returns-clause-spent g c is =
    let whole = c.put.ensures.items ∙ ap (λ ps. ps ++ c.into_parts-pass.result.0 ∷ []) c.part-unnoted.ensures.passes in
    let pass = c.into_parts-pass.result.0 in
    let all = subst (λ ps. All (λ p. p.spent ≡ true → c.close-board.result.spent ≡ true) ps) whole c.close-board.ensures.spent in
    let was = ap (λ p. p.spent) c.into_parts-pass.ensures.pass ∙ (ap (λ run. run.builder.pass.spent) c.self.view_is ∙ is) in
    c.is_spent-spent.ensures.spent ∙ last_of_all (λ p. p.spent ≡ true → c.close-board.result.spent ≡ true) (map (λ lane. lane.pass) c.self.inside.lanes.items) pass all was

pub returns-clause-open : goal.returns-clause-open
returns-clause-open g c is root known =
    let whole = c.put.ensures.items ∙ ap (λ ps. ps ++ c.into_parts-pass.result.0 ∷ []) c.part-unnoted.ensures.passes in
    let pass = c.into_parts-pass.result.0 in
    let agrees = subst (λ ps. All (Agrees (λ entry. entry.pass) c.close-board.result.opening c.close-board.result.history) ps) whole c.close-board.ensures.agrees in
    let here = (last_of_all (Agrees (λ entry. entry.pass) c.close-board.result.opening c.close-board.result.history) (map (λ lane. lane.pass) c.self.inside.lanes.items) pass agrees).0 in
    let was = ap (λ p. p.root) c.into_parts-pass.ensures.pass ∙ (ap (λ run. run.builder.pass.root) c.self.view_is ∙ known) in
    let same = some_is c.close-board.result.opening root (sym here ∙ was) in
    subst (λ h. MayGoOn g.S.Machine.rules root h) (sym c.into_parts-machine.ensures.history)
    (subst (λ r. MayGoOn g.S.Machine.rules r c.close-board.result.history) same (c.is_spent-spent.ensures.open is))

pub returns-clause-wires : goal.returns-clause-wires
returns-clause-wires g c = c.part-unnoted.ensures.wires ∙ ap (λ run. map (λ lane. lane.wire) run.lanes) c.self.view_is

pub returns-clause-made_for : goal.returns-clause-made_for
returns-clause-made_for g c = c.part-unnoted.ensures.made_for ∙ ap (λ run. map (λ lane. lane.made_for) run.lanes) c.self.view_is

pub returns-clause-kept : goal.returns-clause-kept
returns-clause-kept g c = subst (λ run. AreKept g.S.Machine.rules g.W.Wire.sessions g.W.Wire.begun g.W.Wire.faults run.lanes) c.self.view_is c.part-unnoted.ensures.kept

pub returns-clause-finished : goal.returns-clause-finished
returns-clause-finished g c =
    finished-at c.args.self c.as_slice.result.now c.self.inside.peers c.tally-tally.result c.part-unnoted.result c.into_parts-machine.result.1.items _ _ _ c.args.end c.finish-status.result
    (c.as_slice.ensures ∙ (c.into_parts-pass.ensures.names ∙ ap (λ run. run.builder.names) c.self.view_is))
    (c.self.invariant.all ∙ ap (λ run. length run.lanes) c.self.view_is)
    (c.tally-tally.ensures ∙ ap (λ run. run.builder.tally) c.self.view_is)
    (c.part-unnoted.ensures.unnoted ∙ ap (λ run. list_any (λ lane. lane.unnoted) run.lanes) c.self.view_is)
    c.finish-status.ensures.finished
