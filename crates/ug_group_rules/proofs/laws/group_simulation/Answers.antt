use Rattle.std.proofs.Common.{◌≡◌, ◌≤◌, Some, ◌++◌, ◌∷◌, length, sym, subst, ◌∙◌, arith}
use Rattle.ug_board.specs.History.{replay, job_entry}
use Rattle.ug_speaker.specs.Told.{told}
use Rattle.ug_group_rules.specs.Machine.{Seat, Take, seat_at}
use Rattle.ug_group_rules.specs.Rules.{group_rules, group_speech}
use Rattle.ug_group_rules.specs.Simulates.{rest_to}
use Rattle.ug_group_rules.proofs.AskedHistories.{asked-whole, answered-since}
use Rattle.ug_group_rules.proofs.Simulating.{seated-live, stood-for}
use Rattle.ug_group_rules.proofs.laws.group_simulation.Goals as goal

pub returns-clause-live : goal.returns-clause-live
returns-clause-live c = λ opening h p s course is. seated-live opening h p s course is

pub returns-clause-simulates : goal.returns-clause-simulates
returns-clause-simulates c = λ opening h p s t course is seat. stood-for opening h p s course is t seat

pub returns-clause-answered : goal.returns-clause-answered
returns-clause-answered c = λ opening before later pass e p asker s first t asks is about seat course is' same seat'.
    let count = length (told group_rules group_speech p asker.sessions opening before ++ rest_to asker first.rest) in
    let few : (u : Seat) → seat_at p (replay group_rules opening before) ≡ Some u → count ≤ length (told group_rules group_speech p asker.sessions opening before ++ rest_to asker u.rest) =
    (λ u sits. (let both_are : Some first ≡ Some u = sym seat ∙ sits in let one : first ≡ u = cc in
    subst (λ (v : Seat). count ≤ length (told group_rules group_speech p asker.sessions opening before ++ rest_to asker v.rest)) one (omega arith))) in
    answered-since (before ++ job_entry group_rules pass (Take e) (replay group_rules opening before) ∷ later) opening p count s t is' seat' asker.sessions same
    (asked-whole opening before later pass e p asker course is asks about count few)
