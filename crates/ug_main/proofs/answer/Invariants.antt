use Rattle.ug_main.proofs.answer.Given as goal

abbrev pub ghosts-begin : goal.ghosts-begin
ghosts-begin g a = record { name = a.blank.name; parts = a.blank.parts }
