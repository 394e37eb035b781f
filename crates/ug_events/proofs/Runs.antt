-- Runs of words between bars, and the paths that they are.
use Rattle.std.proofs.Common.{◌≡◌, ℕ, Bool, true, false, List, [], ◌∷◌, ◌++◌, Ok, Err, refl, ap, sym, ◌∙◌}
use Rattle.std.specs.Prelude.{if◌then◌else◌}
use Rattle.ug_types.specs.declared.family.Family.{Family}
use Rattle.ug_events.specs.declared.refusal.LineRefusal.{LineRefusal}
use Rattle.ug_events.specs.Events.{GivenPath, IsGiven, AreGiven, is_some_path}
use Rattle.ug_events.specs.Reads.{Reads, each_read, behind_read}
use Rattle.ug_events.specs.Words.{words}
use Rattle.ug_events.specs.Paths.{is_bar, runs, first_of, others_of, path_of, paths_of}
use Rattle.ug_events.specs.Views.{IsRefusedBy}
use Rattle.ug_events.proofs.Each.{read_more, refused_on}

-- there is a first run
pub runs_are : (ws : List (List ℕ)) → runs ws ≡ first_of (runs ws) ∷ others_of (runs ws)
unfolding runs
runs_are [] = refl
runs_are (word ∷ ws) = one (is_bar word)
  where
    one : (b : Bool) → (if b then [] ∷ runs ws else (word ∷ first_of (runs ws)) ∷ others_of (runs ws))
        ≡ first_of (if b then [] ∷ runs ws else (word ∷ first_of (runs ws)) ∷ others_of (runs ws)) ∷ others_of (if b then [] ∷ runs ws else (word ∷ first_of (runs ws)) ∷ others_of (runs ws))
    one true = refl
    one false = refl

pub one_path : (family : Family) (given : List GivenPath) (g : GivenPath) (text : List ℕ) → path_of family (first_of (runs (words text))) ≡ Ok g
    → behind_read (given ++ g ∷ []) (each_read (path_of family) (others_of (runs (words text)))) ≡ behind_read given (paths_of family (words text))
one_path family given g text e =
    read_more (path_of family) given (first_of (runs (words text))) g (others_of (runs (words text))) e
    ∙ ap (λ rs. behind_read given (each_read (path_of family) rs)) (sym (runs_are (words text)))

pub path_refused : (family : Family) (given : List GivenPath) (e : LineRefusal) (text : List ℕ) (whole : Reads (List GivenPath)) → behind_read given (paths_of family (words text)) ≡ whole
    → IsRefusedBy e (path_of family (first_of (runs (words text)))) → IsRefusedBy e whole
path_refused family given e text whole same h =
    refused_on (path_of family) given (first_of (runs (words text))) (others_of (runs (words text))) e whole
    (ap (λ rs. behind_read given (each_read (path_of family) rs)) (sym (runs_are (words text))) ∙ same)
    h

pub given_push : (given : List GivenPath) (g : GivenPath) → AreGiven given → IsGiven g → AreGiven (given ++ g ∷ [])
given_push [] g all one = (one, tt)
given_push (h ∷ given) g all one = (all.0, given_push given g all.1 one)

pub some_push : (given : List GivenPath) (g : GivenPath) → is_some_path (given ++ g ∷ []) ≡ true
some_push [] g = refl
some_push (h ∷ given) g = refl
