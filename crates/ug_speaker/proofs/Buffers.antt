-- The text of a message that fits its session fits a buffer.
use Rattle.std.proofs.Common.{◌≡◌, ◌≤◌, Bool, true, false, take, arith}
use Rattle.std.specs.Prelude.{if◌then◌else◌}
use Rattle.std.proofs.lemmas.List.{take_all}
use Rattle.ug_types.specs.declared.capabilities.Capabilities.{Capabilities}
use Rattle.ug_types.specs.Messages.{Message}
use Rattle.ug_board.specs.Rules.{buffer_size}
use Rattle.ug_message.specs.Fitting.{fits, text_of}
use Rattle.ug_message.proofs.Fitting.{has-text}
use Rattle.ug_message.proofs.OneText.{text_within}

limit_small : (b : Bool) → (if b then 65535 else 4096) ≤ buffer_size
limit_small true = omega arith
limit_small false = omega arith

pub text-short : (c : Capabilities) (m : Message) → fits c m ≡ true → take buffer_size (text_of c m) ≡ text_of c m
text-short c m e =
    let within = text_within c m (text_of c m) (has-text c m e) in
    let small = limit_small c.extended in
    take_all buffer_size (text_of c m) (omega arith)
