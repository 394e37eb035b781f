use Rattle.std.proofs.Common.{◌≡◌, ◌≤◌, length, ap, arith, rules}
use Rattle.std.proofs.lemmas.Fmt.{length-decimal-le, IsAscii-decimal}
use Rattle.std.proofs.lemmas.Str.{IsAscii-append}
use Rattle.ug_text.specs.Fronted.{Fronted}
use Rattle.ug_text.proofs.from_end.FromEnd.put_number.Goals as goal

pub write_digits-self-inside-requires : goal.write_digits-self-inside-requires
write_digits-self-inside-requires c =
    let room = ap (λ (v : Fronted). v.room) c.self.view_is in
    (omega (arith, room, length-decimal-le 10 c.args.number (omega arith) (omega arith) (omega arith), c.requires), omega (arith, c.self.told, c.self.invariant.0))

pub invariant_of-self : goal.invariant_of-self
invariant_of-self c =
    let w = c.write_digits-self-inside in
    (omega (arith, c.self.invariant.0), rw w.ensures.written (IsAscii-append _ _ (IsAscii-decimal c.args.number (omega arith)) c.self.invariant.1))

pub returns-clause-room : goal.returns-clause-room
returns-clause-room c =
    let room = ap (λ (v : Fronted). v.room) c.self.view_is in
    omega (arith, room, length-decimal-le 10 c.args.number (omega arith) (omega arith) (omega arith))
