use Rattle.std.proofs.Common.{◌-◌, drop, arith, take_all, length-drop}
use Rattle.std.proofs.lemmas.Str.{IsUtf8-from_ascii}
use Rattle.ug_text.proofs.from_end.FromEnd.as_str.Goals as goal

pub from_utf8_unchecked-requires : goal.from_utf8_unchecked-requires
from_utf8_unchecked-requires c =
    let t = c.self.inside in
    IsUtf8-from_ascii _ (rw (take_all (80 - t.start) (drop t.start t.bytes) (omega (arith, length-drop t.start t.bytes, c.self.told))) c.self.invariant.1)
