use Rattle.std.proofs.Common.{◌≡◌, ◌∷◌, [], List, length, slice_get, length-append, ap, subst, sym, ◌∙◌, arith, ℕ, Bool}
use Rattle.std.specs.Map.{keys_of}
use Rattle.ug_types.specs.declared.key.Key.{Key}
use Rattle.ug_types.specs.declared.route.PeerEnds.{PeerEnds}
use Rattle.ug_hearing.specs.declared.change.Change.{Change}
use Rattle.ug_hearing.specs.Keyed.{pairs_of}
use Rattle.ug_hearing.specs.Courses.{changes_of}
use Rattle.ug_audit_rules.specs.declared.since.Since.{Since}
use Rattle.ug_audit_rules.specs.GroupLogs.{changes_in}
use Rattle.ug_audit_rules.specs.Merges.{IsTold}
use Rattle.ug_audit_rules.proofs.MergedKeys.{AreTold, told-on, told-all}
use Rattle.ug_audit_rules.proofs.seat.Seat.changes_of.Goals as goal

pub loop-place-preserved : goal.loop-place-preserved
loop-place-preserved c =
    let h = c.loop-place.invariant in
    let ends = c.args.self.now.ends in
    let ups = c.args.self.now.ups.items in
    let outs = c.args.outs.now in
    let before = c.loop-place.lists in
    let changes = c.merge.new.changes.items in
    let added = c.in_ok-add.ensures.added in
    let size = ap (λ (xs : List (List Change)). length xs) added ∙ length-append before (changes ∷ []) in
    let many = h.many in
    let told =
    subst (λ (x : PeerEnds). IsTold x ups c.at.result.1.now changes) h.ends
    (subst (λ (us : List (Since Bool)). IsTold c.loop-place.teller.ends us c.at.result.1.now changes) c.as_slice-ups.ensures.value c.in_ok-merge.ensures.merged)
    in
    record {
      many = omega (arith, size, many);
      ends = c.merge.ensures.ends ∙ h.ends;
      told = subst (λ (xs : List (List Change)). AreTold ends ups outs xs) (sym added)
          (told-on ends ups outs before (c.at.result.0.now, c.at.result.1.now) changes h.told (ap (λ (k : ℕ). slice_get outs k) many ∙ c.at.ensures) told);
    }

pub returns : goal.returns
returns c = λ q.
    let h = c.loop-place.invariant in
    let ends = c.args.self.now.ends in
    let ups = c.args.self.now.ups.items in
    let outs = c.args.outs.now in
    let lists = c.loop-place.lists in
    let keys : c.in_ok-keys.keys.items ≡ keys_of outs = ap (λ v. v.items) c.in_ok-keys.ensures ∙ c.keys.ensures.keys in
    let many = h.many in
    let done = c.loop-place-test.false in
    let within = c.loop-place.auto.place-end in
    let count = c.len-count.ensures.len in
    subst (λ (ps : List (Key × List Change)). IsTold ends ups (changes_in outs q) (changes_of ps q)) (sym (c.over.ensures ∙ ap (λ (ks : List Key). pairs_of ks lists) keys)) (told-all ends ups outs lists (omega (arith, many, done, within, count)) h.told q)
