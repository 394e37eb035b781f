use Rattle.std.proofs.Common.{◌≡◌, drop}
use Rattle.ug_text.specs.Addresses.{family_of}
use Rattle.ug_text.proofs.address_reader.family_of.Given as goal

-- the bytes that are left decide
abbrev pub invariant-loop-b : goal.invariant-loop-b
invariant-loop-b l = family_of (drop l.b-index l.text) ≡ family_of l.text
