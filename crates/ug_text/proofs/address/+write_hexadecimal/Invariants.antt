use Rattle.ug_text.proofs.address.+write_hexadecimal.Given as goal

-- the number that is left
abbrev pub decreases-write_hexadecimal : goal.decreases-write_hexadecimal
decreases-write_hexadecimal l = l.number
