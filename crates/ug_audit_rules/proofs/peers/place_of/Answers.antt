use Rattle.std.proofs.Common.{◌+◌, List, ℕ, drop, sym, ◌∙◌, ap}
use Rattle.ug_types.specs.Bytes.{same_bytes}
use Rattle.ug_audit_rules.specs.Reports.{peer_names_in}
use Rattle.ug_audit_rules.proofs.Places.{names_at, found_at, not_at}
use Rattle.ug_audit_rules.proofs.peers.place_of.Goals as goal

pub returns-then-eq-clause-place : goal.returns-then-eq-clause-place
returns-then-eq-clause-place c =
    let names = peer_names_in c.args.world.now in
    let same = ap (λ (own : List ℕ). same_bytes own c.args.name.now) (sym (c.as_bytes.ensures.value ∙ c.text.ensures.value)) ∙ (sym c.eq.ensures ∙ c.if-eq.true) in
    sym (found_at c.loop-id.id (drop c.loop-id.id names) c.peer.result.now.name c.args.name.now (drop (c.loop-id.id + 1) names) (names_at c.args.world.now.peers c.loop-id.id c.peer.result.now c.peer.ensures) same) ∙ c.loop-id.invariant

pub loop-id-preserved : goal.loop-id-preserved
loop-id-preserved c =
    let names = peer_names_in c.args.world.now in
    let other = ap (λ (own : List ℕ). same_bytes own c.args.name.now) (sym (c.as_bytes.ensures.value ∙ c.text.ensures.value)) ∙ (sym c.eq.ensures ∙ c.if-eq.false) in
    sym (not_at c.loop-id.id (drop c.loop-id.id names) c.peer.result.now.name c.args.name.now (drop (c.loop-id.id + 1) names) (names_at c.args.world.now.peers c.loop-id.id c.peer.result.now c.peer.ensures) other) ∙ c.loop-id.invariant
