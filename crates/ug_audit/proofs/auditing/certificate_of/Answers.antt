use Rattle.std.proofs.Common.{Err, rules, arith, ◌≡◌, ◌≤◌, ◌++◌, ◌∷◌, [], ℕ, List, Ok, ap, subst, sym, refl, ◌∙◌}
use Rattle.ug_edge.specs.Told.{Rose, file_told, AppendsAll}
use Rattle.std.specs.Global.{Vec}
use Rattle.ug_types.specs.declared.sequence.Sequence.{Sequence}
use Rattle.ug_audit_rules.specs.Histories.{IsHistory}
use Rattle.ug_audit_rules.specs.Told.{TellsAsMuch}
use Rattle.ug_audit_rules.specs.declared.entry.Entry.{Entry}
use Rattle.ug_audit.specs.Auditing.{HasReport, worlds_of, last_of, told_by}
use Rattle.ug_audit.specs.declared.stop.Stop.TheVariants as stops
use Rattle.ug_audit.specs.Stopping.{said}
use Rattle.ug_audit.proofs.FilesTold.{err_is}
use Rattle.ug_audit.proofs.Opened.{is-first, few_lines}
use Rattle.ug_audit.proofs.Placed.{stopped_then, stands_now, both_named, has_later, begins, starves_behind_report, ends_right, ends_stopped}
use Rattle.ug_audit.proofs.Steps.{starves_after_events}
use Rattle.ug_audit.proofs.auditing.certificate_of.Goals as goal

pub returns-in-Err-read_events-clause-stopped : goal.returns-in-Err-read_events-clause-stopped
returns-in-Err-read_events-clause-stopped g c =
    let command = said c.args.words.now in
    let told = g.E.Source.files c.args.site.now in
    let told' = g.E.Source.files c.read_first.new.site in
    stopped_then command told told' c.read_first.ensures.files (AppendsAll (g.E.Source.picks c.args.site.now).names (g.E.Source.picks c.read_events.new.site).names) c.in-Err-read_events.stop
    (c.in-Err-read_events.ensures.stopped c.in-Ok.first (g.E.Source.picks c.args.site.now).names (stands_now command told told' c.read_first.ensures.files (Ok c.in-Ok.first) c.in-Ok.ensures.ok) c.in-Ok.ensures.named)

pub history_of-requires-clause-first : goal.history_of-requires-clause-first
history_of-requires-clause-first g c = is-first c.in-Ok.first (c.configurations_open.ensures c.in-Ok.ensures.ok.bytes c.in-Ok.first c.in-Ok.ensures.ok.stands)

pub history_of-requires-clause-version : goal.history_of-requires-clause-version
history_of-requires-clause-version g c = let few = few_lines c.in-Ok-read_events.events.items c.as_slice.result.now c.as_slice.ensures c.in-Ok-read_events.ensures.within in omega (arith, few)

pub returns-in-Err-history_of-clause-stopped : goal.returns-in-Err-history_of-clause-stopped
returns-in-Err-history_of-clause-stopped g c =
    starves_after_events (said c.args.words.now) (file_told (g.E.Source.files c.args.site.now)) (g.E.Source.picks c.args.site.now).names (g.E.Source.picks c.read_first.new.site).names (g.E.Source.picks c.read_events.new.site).names c.in-Ok.first
    c.in-Ok.ensures.ok c.in-Ok.ensures.named c.in-Ok-read_events.ensures.named

pub returns-in-Err-read_told-clause-stopped : goal.returns-in-Err-read_told-clause-stopped
returns-in-Err-read_told-clause-stopped g c =
    let command = said c.args.words.now in
    let told = g.E.Source.files c.args.site.now in
    let told1 = g.E.Source.files c.read_first.new.site in
    let told2 = g.E.Source.files c.read_events.new.site in
    let names = (g.E.Source.picks c.args.site.now).names in
    let names1 = (g.E.Source.picks c.read_first.new.site).names in
    let names2 = (g.E.Source.picks c.read_events.new.site).names in
    let names3 = (g.E.Source.picks c.read_told.new.site).names in
    let first = c.in-Ok.first in
    let events = c.in-Ok-read_events.events.items in
    let last = c.in-Ok-history_of.found.1 in
    let last_is : last ≡ last_of first events = c.in-Ok-history_of.ensures.last ∙ ap (last_of first) c.as_slice.ensures in
    let later = has_later command told told1 told2 c.read_first.ensures.files c.read_events.ensures.files names names1 names2 first last events c.in-Ok.ensures.ok c.in-Ok.ensures.named c.in-Ok-read_events.ensures.named c.in-Ok-read_events.ensures.ok last_is in
    stopped_then command told told2 (c.read_events.ensures.files ∙ c.read_first.ensures.files) (AppendsAll names names3) c.in-Err-read_told.stop
    (c.in-Err-read_told.ensures.stopped first events names last_is later (both_named command told told1 told2 c.read_first.ensures.files c.read_events.ensures.files names names1 names2 first last events c.in-Ok.ensures.ok c.in-Ok.ensures.named c.in-Ok-read_events.ensures.named c.in-Ok-read_events.ensures.ok last_is))

pub returns-in-Err-read_told-clause-unread : goal.returns-in-Err-read_told-clause-unread
returns-in-Err-read_told-clause-unread g c =
    let same : g.E.Source.faults c.read_events.new.site ≡ g.E.Source.faults c.args.site.now = search rules in
    λ e. subst (λ (n : ℕ). Rose n (g.E.Source.faults c.read_told.new.site)) same (c.in-Err-read_told.ensures.unread (ap (λ x. Err x) (err_is c.in-Err-read_told.stop stops.Read _ _ refl refl e)))

pub of-requires-clause-opening : goal.of-requires-clause-opening
of-requires-clause-opening g c = is-first c.in-Ok.first (c.configurations_open.ensures c.in-Ok.ensures.ok.bytes c.in-Ok.first c.in-Ok.ensures.ok.stands)

pub of-requires-clause-few : goal.of-requires-clause-few
of-requires-clause-few g c = few_lines c.in-Ok-read_events.events.items c.in-Ok-read_events.events.items refl c.in-Ok-read_events.ensures.within

pub of-requires-clause-led : goal.of-requires-clause-led
of-requires-clause-led g c = c.read_told.ensures.same ∙ c.in-Ok-history_of.ensures.last ∙ ap (last_of c.in-Ok.first) c.as_slice.ensures

pub of-requires-clause-history : goal.of-requires-clause-history
of-requires-clause-history g c = subst (λ (events : List ℕ). IsHistory (worlds_of c.in-Ok.first events) (last_of c.in-Ok.first events) c.in-Ok-history_of.found.0) c.as_slice.ensures c.in-Ok-history_of.ensures.history

pub returns-in-Err-of-clause-stopped : goal.returns-in-Err-of-clause-stopped
returns-in-Err-of-clause-stopped g c =
    let command = said c.args.words.now in
    let told = g.E.Source.files c.args.site.now in
    let told1 = g.E.Source.files c.read_first.new.site in
    let told2 = g.E.Source.files c.read_events.new.site in
    let names = (g.E.Source.picks c.args.site.now).names in
    let names1 = (g.E.Source.picks c.read_first.new.site).names in
    let names2 = (g.E.Source.picks c.read_events.new.site).names in
    let first = c.in-Ok.first in
    let events = c.in-Ok-read_events.events.items in
    let last = c.in-Ok-history_of.found.1 in
    let last_is : last ≡ last_of first events = c.in-Ok-history_of.ensures.last ∙ ap (last_of first) c.as_slice.ensures in
    starves_behind_report command told told1 told2 c.read_first.ensures.files c.read_events.ensures.files names names1 names2 first last events c.in-Ok.ensures.ok c.in-Ok.ensures.named c.in-Ok-read_events.ensures.named c.in-Ok-read_events.ensures.ok last_is
    (g.E.Source.picks c.read_told.new.site).names c.in-Ok-read_told.ensures.named

pub certificate-requires-after_bounds : goal.certificate-requires-after_bounds
certificate-requires-after_bounds g c = λ lifetimes bounds. c.in-Ok-of.ensures.run

pub returns-in-Ok-certificate-clause-right : goal.returns-in-Ok-certificate-clause-right
returns-in-Ok-certificate-clause-right g c =
    let command = said c.args.words.now in
    let told = g.E.Source.files c.args.site.now in
    let told1 = g.E.Source.files c.read_first.new.site in
    let told2 = g.E.Source.files c.read_events.new.site in
    let names = (g.E.Source.picks c.args.site.now).names in
    let names1 = (g.E.Source.picks c.read_first.new.site).names in
    let names2 = (g.E.Source.picks c.read_events.new.site).names in
    let names3 = (g.E.Source.picks c.read_told.new.site).names in
    let first = c.in-Ok.first in
    let events = c.in-Ok-read_events.events.items in
    let last = c.in-Ok-history_of.found.1 in
    let last_is : last ≡ last_of first events = c.in-Ok-history_of.ensures.last ∙ ap (last_of first) c.as_slice.ensures in
    let run = c.in-Ok-of.run' in
    let right = c.in-Ok-of.ensures.run in
    let later = has_later command told told1 told2 c.read_first.ensures.files c.read_events.ensures.files names names1 names2 first last events c.in-Ok.ensures.ok c.in-Ok.ensures.named c.in-Ok-read_events.ensures.named c.in-Ok-read_events.ensures.ok last_is in
    let told_so = c.in-Ok-read_told.ensures.ok first events last_is later in
    let found : (report : List ℕ) × HasReport command (file_told told2) first events report × TellsAsMuch run.entries.items (told_by first events report) = (told_so.0, told_so.1, subst (λ (es : Vec Entry). TellsAsMuch es.items (told_by first events told_so.0)) (sym c.in-Ok-of.ensures.entries) told_so.2) in
    let start = begins command told told1 told2 c.read_first.ensures.files c.read_events.ensures.files names names1 names2 first last events c.in-Ok.ensures.ok c.in-Ok.ensures.named c.in-Ok-read_events.ensures.named c.in-Ok-read_events.ensures.ok last_is run right c.in-Ok-of.ensures.first (ap (λ (bytes : Sequence ℕ). bytes.items) c.in-Ok-of.ensures.events) (g.E.Source.files c.read_told.new.site) c.read_told.ensures.files names3 c.in-Ok-read_told.ensures.named found in
    ends_right command told told1 told2 c.read_first.ensures.files c.read_events.ensures.files names names1 names2 first last events c.in-Ok.ensures.ok c.in-Ok.ensures.named c.in-Ok-read_events.ensures.named c.in-Ok-read_events.ensures.ok last_is run right c.in-Ok-of.ensures.first (ap (λ (bytes : Sequence ℕ). bytes.items) c.in-Ok-of.ensures.events) (g.E.Source.files c.read_told.new.site) c.read_told.ensures.files names3 c.in-Ok-read_told.ensures.named found (g.E.Source.picks c.certificate.new.site).names c.in-Ok-certificate.text
    (c.in-Ok-certificate.ensures.went command names refl start)

pub returns-clause-stopped : goal.returns-clause-stopped
returns-clause-stopped g c =
    let command = said c.args.words.now in
    let told = g.E.Source.files c.args.site.now in
    let told1 = g.E.Source.files c.read_first.new.site in
    let told2 = g.E.Source.files c.read_events.new.site in
    let names = (g.E.Source.picks c.args.site.now).names in
    let names1 = (g.E.Source.picks c.read_first.new.site).names in
    let names2 = (g.E.Source.picks c.read_events.new.site).names in
    let names3 = (g.E.Source.picks c.read_told.new.site).names in
    let first = c.in-Ok.first in
    let events = c.in-Ok-read_events.events.items in
    let last = c.in-Ok-history_of.found.1 in
    let last_is : last ≡ last_of first events = c.in-Ok-history_of.ensures.last ∙ ap (last_of first) c.as_slice.ensures in
    let run = c.in-Ok-of.run' in
    let right = c.in-Ok-of.ensures.run in
    let later = has_later command told told1 told2 c.read_first.ensures.files c.read_events.ensures.files names names1 names2 first last events c.in-Ok.ensures.ok c.in-Ok.ensures.named c.in-Ok-read_events.ensures.named c.in-Ok-read_events.ensures.ok last_is in
    let told_so = c.in-Ok-read_told.ensures.ok first events last_is later in
    let found : (report : List ℕ) × HasReport command (file_told told2) first events report × TellsAsMuch run.entries.items (told_by first events report) = (told_so.0, told_so.1, subst (λ (es : Vec Entry). TellsAsMuch es.items (told_by first events told_so.0)) (sym c.in-Ok-of.ensures.entries) told_so.2) in
    let start = begins command told told1 told2 c.read_first.ensures.files c.read_events.ensures.files names names1 names2 first last events c.in-Ok.ensures.ok c.in-Ok.ensures.named c.in-Ok-read_events.ensures.named c.in-Ok-read_events.ensures.ok last_is run right c.in-Ok-of.ensures.first (ap (λ (bytes : Sequence ℕ). bytes.items) c.in-Ok-of.ensures.events) (g.E.Source.files c.read_told.new.site) c.read_told.ensures.files names3 c.in-Ok-read_told.ensures.named found in
    ends_stopped command told told1 told2 c.read_first.ensures.files c.read_events.ensures.files names names1 names2 first last events c.in-Ok.ensures.ok c.in-Ok.ensures.named c.in-Ok-read_events.ensures.named c.in-Ok-read_events.ensures.ok last_is run right c.in-Ok-of.ensures.first (ap (λ (bytes : Sequence ℕ). bytes.items) c.in-Ok-of.ensures.events) (g.E.Source.files c.read_told.new.site) c.read_told.ensures.files names3 c.in-Ok-read_told.ensures.named found (g.E.Source.picks c.certificate.new.site).names c.in-Err-certificate.stop
    (c.in-Err-certificate.ensures.stopped command names refl start)

pub returns-clause-unread : goal.returns-clause-unread
returns-clause-unread g c =
    let same : g.E.Source.faults c.read_told.new.site ≡ g.E.Source.faults c.args.site.now = search rules in
    λ e. subst (λ (n : ℕ). Rose n (g.E.Source.faults c.certificate.new.site)) same (c.in-Err-certificate.ensures.unread (ap (λ x. Err x) (err_is c.in-Err-certificate.stop stops.Read _ _ refl refl e)))
