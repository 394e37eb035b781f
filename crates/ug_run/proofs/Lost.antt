-- The losses of a history, peer by peer.
use Rattle.std.proofs.Common.{◌≡◌, ℕ, zero, suc, ◌+◌, Bool, true, false, List, [], ◌∷◌, ◌++◌, map, refl, sym, ◌∙◌, ap, append_assoc, arith, drop, slice_get, Some}
use Rattle.std.specs.Prelude.{◌==◌, if◌then◌else◌}
use Rattle.std.specs.List.{flat_map}
use Rattle.std.proofs.lemmas.Bool.{eqb-true}
use Rattle.std.proofs.lemmas.List.{append-nil}
use Rattle.ug_board.specs.declared.steps.BoardStep.{BoardStep}
use Rattle.ug_board.specs.declared.steps.BoardStep.TheVariants.{Job as DoJob, Lane as LaneTakes}
use Rattle.ug_board.specs.declared.steps.LaneStep.TheVariants.{Next, Lost}
use Rattle.ug_board.specs.Entry.{Entry}
use Rattle.ug_board.specs.Deeds.{when}
use Rattle.ug_report.specs.declared.endings.Loss.{Loss}
use Rattle.ug_report.specs.Report.{losses_from}
use Rattle.ug_event_loop.specs.Crew.{step_losses, losses_in, all_losses}
use Rattle.ug_run.specs.Losses.{loss_in, losses_told, loss_to, losses_to}

-- the losses of so many peers, from this one on
abbrev pub by_peers : List Loss → ℕ → ℕ → List Loss
by_peers told p zero = []
by_peers told p (suc count) = losses_to p told ++ by_peers told (p + 1) count

-- and of one peer more
one_more : (told : List Loss) (p count : ℕ) → by_peers told p (suc count) ≡ by_peers told p count ++ losses_to (p + count) told
one_more told p zero =
    let here : p ≡ p + 0 = omega arith in
    append-nil (losses_to p told) ∙ ap (λ q. losses_to q told) here
one_more told p (suc count) =
    let there : p + 1 + count ≡ p + suc count = omega arith in
    ap (λ (ls : List Loss). losses_to p told ++ ls) (one_more told (p + 1) count ∙ ap (λ q. by_peers told (p + 1) count ++ losses_to q told) there)
    ∙ sym (append_assoc (losses_to p told) (by_peers told (p + 1) count) (losses_to (p + suc count) told))

pub next_peer : (told : List Loss) (p : ℕ) → by_peers told 0 (p + 1) ≡ by_peers told 0 p ++ losses_to p told
next_peer told p =
    let next : p + 1 ≡ suc p = omega arith in
    let here : 0 + p ≡ p = omega arith in
    ap (λ n. by_peers told 0 n) next ∙ (one_more told 0 p ∙ ap (λ q. by_peers told 0 p ++ losses_to q told) here)

abbrev of_peer : ℕ → ℕ → Loss
of_peer p n = record { peer = p; session = n }

flat_append : (f : Loss → List Loss) (xs ys : List Loss) → flat_map f (xs ++ ys) ≡ flat_map f xs ++ flat_map f ys
flat_append f [] ys = refl
flat_append f (x ∷ xs) ys = ap (λ (ls : List Loss). f x ++ ls) (flat_append f xs ys) ∙ sym (append_assoc (f x) (flat_map f xs) (flat_map f ys))

map_append : (p : ℕ) (xs ys : List ℕ) → map (of_peer p) (xs ++ ys) ≡ map (of_peer p) xs ++ map (of_peer p) ys
map_append p [] ys = refl
map_append p (x ∷ xs) ys = ap (λ (ls : List Loss). of_peer p x ∷ ls) (map_append p xs ys)

step_by : (p peer session : ℕ) (b : Bool) → (peer == p) ≡ b → when b (of_peer peer session ∷ []) ++ [] ≡ map (of_peer p) (if b then session ∷ [] else [])
step_by p peer session true is = let same : peer ≡ p = eqb-true peer p is in ap (λ q. of_peer q session ∷ []) same
step_by p peer session false is = refl

step_told : {J : Type 0} (p : ℕ) (step : BoardStep J) → losses_to p (loss_in step) ≡ map (of_peer p) (step_losses p step)
step_told p (DoJob job) = refl
step_told p (LaneTakes (Next peer)) = refl
step_told p (LaneTakes (Lost peer session)) = step_by p peer session (peer == p) refl

-- those of a peer in a history
told_to : {J R : Type 0} (p : ℕ) (history : List (Entry J R)) → losses_to p (losses_told history) ≡ map (of_peer p) (losses_in p history)
told_to p [] = refl
told_to p (entry ∷ history) =
    flat_append (loss_to p) (loss_in entry.step) (losses_told history)
    ∙ (ap (λ (ls : List Loss). ls ++ losses_to p (losses_told history)) (step_told p entry.step)
    ∙ (ap (λ (ls : List Loss). map (of_peer p) (step_losses p entry.step) ++ ls) (told_to p history)
    ∙ sym (map_append p (step_losses p entry.step) (losses_in p history))))

from_told : {J R : Type 0} (history : List (Entry J R)) (p count : ℕ) → by_peers (losses_told history) p count ≡ losses_from p (all_losses p count history)
from_told history p zero = refl
from_told history p (suc count) =
    ap (λ (ls : List Loss). ls ++ by_peers (losses_told history) (p + 1) count) (told_to p history)
    ∙ ap (λ (ls : List Loss). map (of_peer p) (losses_in p history) ++ ls) (from_told history (p + 1) count)

pub all_told : {J R : Type 0} (history : List (Entry J R)) (count : ℕ) → by_peers (losses_told history) 0 count ≡ losses_from 0 (all_losses 0 count history)
all_told history count = from_told history 0 count

-- the loss of the entry in a place, and those of the entries behind it
pub next_told : {J R : Type 0} (history : List (Entry J R)) (i : ℕ) (entry : Entry J R) → slice_get history i ≡ Some entry → losses_told (drop i history) ≡ loss_in entry.step ++ losses_told (drop (i + 1) history)
next_told [] i entry there = absurd cc
next_told {J} {R} (first ∷ history) zero entry there = let same : first ≡ entry = cc in ap (λ (e : Entry J R). loss_in e.step ++ losses_told history) same
next_told {J} {R} (first ∷ history) (suc i) entry there =
    let further : suc (i + 1) ≡ suc i + 1 = omega arith in
    next_told history i entry there ∙ ap (λ n. loss_in entry.step ++ losses_told (drop n (first ∷ history))) further
