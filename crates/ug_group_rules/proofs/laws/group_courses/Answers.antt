use Rattle.ug_group_rules.proofs.Courses.{world-led, told-right, begun-at_most, begun-all, all-told, text-told, losses-told}
use Rattle.ug_group_rules.proofs.Marks.{marks-told}
use Rattle.ug_group_rules.proofs.Speaks.{told-again}
use Rattle.ug_group_rules.proofs.laws.group_courses.Goals as goal

pub returns-clause-world : goal.returns-clause-world
returns-clause-world c = λ opening h course. world-led opening h

pub returns-clause-right : goal.returns-clause-right
returns-clause-right c = λ opening h p n s course is. told-right opening h course p n s is

pub returns-clause-begun_at_most : goal.returns-clause-begun_at_most
returns-clause-begun_at_most c = λ opening h p s course is. begun-at_most opening h course p s is

pub returns-clause-begun_all : goal.returns-clause-begun_all
returns-clause-begun_all c = λ opening h p s course is drained. begun-all opening h course p s is drained

pub returns-clause-all_told : goal.returns-clause-all_told
returns-clause-all_told c = λ opening h p s course is drained live. all-told opening h course p s is drained live

pub returns-clause-text : goal.returns-clause-text
returns-clause-text c = λ opening h p session made len s course is said. text-told opening h course p s is session made len said

pub returns-clause-losses : goal.returns-clause-losses
returns-clause-losses c = λ opening h p n course. losses-told opening h course p n

pub returns-clause-marks : goal.returns-clause-marks
returns-clause-marks c = λ opening h pass job course legal. marks-told opening h pass job course legal

pub returns-clause-told_again : goal.returns-clause-told_again
returns-clause-told_again c = λ opening before whole p asker s since. told-again opening before whole p asker s since
