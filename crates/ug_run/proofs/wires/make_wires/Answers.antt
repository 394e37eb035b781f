use Rattle.std.proofs.Common.{◌≡◌, ℕ, ◌+◌, List, [], ◌∷◌, ◌++◌, length, take, arith, sym, ◌∙◌, ap, subst}
use Rattle.std.proofs.lemmas.List.{length-append, take_more}
use Rattle.ug_run.specs.Wires.{AreNewWires}
use Rattle.ug_run.proofs.Wired.{new_wires_more, made_more, for_more}
use Rattle.ug_run.proofs.wires.make_wires.Goals as goal

pub loop-name-preserved : goal.loop-name-preserved
loop-name-preserved g c =
    let inv = c.loop-name.invariant in
    let names = c.args.names.now in
    let index = c.loop-name.name-index in
    let grown = c.in-Ok-push.ensures.ok in
    let longer : length c.push.new.self.items ≡ length c.loop-name.wires.items + 1 = ap length grown ∙ length-append c.loop-name.wires.items (c.in-Ok.wire ∷ []) in
    let count : length c.loop-name.wires.items ≡ index = inv.0 in
    let room = inv.1 in
    let spare = c.push.ensures.spare in
    let left = c.wire.ensures.left in
    let picked = c.wire.ensures.picks in
    let faults = c.wire.ensures.faults in
    let files = c.wire.ensures.files in
    let raised = c.wire.ensures.wire_faults in
    let was = inv.4 in
    let taken : take (index + 1) names ≡ take index names ++ c.text.result.now ∷ [] =
    take_more names index c.name-item.result c.loop-name-test.true ∙ ap (λ (n : List ℕ). take index names ++ n ∷ []) (sym c.name-item.is ∙ sym c.text.ensures.value) in (
      omega arith,
      omega arith,
      subst (AreNewWires g.E.Wire.Wire.sessions g.E.Wire.Wire.begun g.E.Wire.Wire.faults) (sym grown)
          (new_wires_more g.E.Wire.Wire.sessions g.E.Wire.Wire.begun g.E.Wire.Wire.faults c.loop-name.wires.items c.in-Ok.wire inv.2 c.in-Ok.ensures.sessions c.in-Ok.ensures.begun c.in-Ok.ensures.no_faults),
      made_more _ _ _ c.args.dir.now (take index names) c.text.result.now _ inv.3 c.in-Ok.ensures.made taken,
      omega arith,
      left ∙ inv.5,
      picked ∙ inv.6,
      faults ∙ inv.7,
      files ∙ inv.8,
      for_more g.E.Wire.Wire.made_for c.args.dir.now c.loop-name.wires.items c.push.new.self.items c.in-Ok.wire (take index names) c.text.result.now _ inv.9 grown c.in-Ok.ensures.made_for taken,
      c.in-Ok.ensures.unharmed ∙ inv.10,
    )
