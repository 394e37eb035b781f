use Rattle.std.proofs.Common.{◌≡◌, List, ◌∙◌, ap}
use Rattle.std.specs.Prelude.{◌&&◌}
use Rattle.ug_types.specs.declared.key.Key.{Key}
use Rattle.ug_message.specs.Tables.{among}
use Rattle.ug_hearing.specs.Heard.{is_stale_in}
use Rattle.ug_hearing.proofs.Held.{if-ok-map}
use Rattle.ug_hearing.proofs.Listed.{stale-all}
use Rattle.ug_hearing.proofs.standings.Standings.stale_keys.Goals as goal

pub returns : goal.returns
returns c =
    let refreshes = c.args.self.now.refreshes in
    let entries = c.args.course.now.changes in
    let rows = c.args.self.now.rows in
    let keys = c.deref.ensures.value ∙ ap (λ ks. ks.items) c.get.ensures in
    if-ok-map c.stale_among.result (λ stale. (q : Key) → among stale.items q ≡ (among c.deref.result.now q && is_stale_in refreshes entries rows q)) (λ stale. (q : Key) → among stale.items q ≡ is_stale_in refreshes entries rows q)
    (λ stale same q. same q ∙ stale-all refreshes entries rows c.deref.result.now q (λ some. ap (λ (ks : List Key). among ks q) keys ∙ c.in_ok-all.ensures.named q some))
    c.stale_among.ensures
