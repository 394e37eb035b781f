-- The lines of climbs, one behind the other.
use Rattle.std.proofs.Common.{◌≡◌, ℕ, Bool, true, false, List, [], ◌∷◌, ◌++◌, sym, ap, subst, ◌∙◌, append_assoc}
use Rattle.std.specs.Prelude.{codes}
use Rattle.std.specs.Fmt.{decimal}
use Rattle.std.specs.List.{flat_map}
use Rattle.std.proofs.lemmas.Grind.{flat_map-append}
use Rattle.std.proofs.lemmas.List.{append-nil}
use Rattle.ug_hearing.specs.Certificates.{KeyClimb}
use Rattle.ug_hearing.specs.declared.judge.Judge.{Judge}
use Rattle.ug_hearing.specs.declared.climbs.Climbs.{Climbs}
use Rattle.ug_hearing.specs.Climbed.{HandedOut}
use Rattle.ug_audit.specs.Texts.{climb_text, session_text}
use Rattle.ug_audit.specs.Certified.{AddsClimbs, AddsSession, HasAdded, IsNext}

pub none-added : (j : Judge) (c : Climbs) (text : List ℕ) → HandedOut j c [] → HasAdded j c text text
none-added j c text h = record { done = []; handed = h; added = sym (append-nil text) }

module _ (j : Judge) (old new : Climbs) (start out lines lines' : List ℕ) (more : Bool) (h : HasAdded j old start (out ++ lines)) (next : (done : List KeyClimb) → HandedOut j old done → IsNext j new done lines lines' more) where
  pub one-added : (out' lines'' : List ℕ) → more ≡ true → out' ++ lines'' ≡ out ++ lines' → HasAdded j new start (out' ++ lines'')
  one-added out' lines'' is same =
      let n = subst (λ (b : Bool). IsNext j new h.done lines lines' b) is (next h.done h.handed) in
      let line = climb_text n.0 in
      record {
        done = h.done ++ n.0 ∷ [];
        handed = n.1;
        added =
            same
            ∙ (ap (λ (xs : List ℕ). out ++ xs) n.2
            ∙ (sym (append_assoc out lines line)
            ∙ (ap (λ (xs : List ℕ). xs ++ line) h.added
            ∙ (append_assoc start (flat_map climb_text h.done) line
            ∙ ap (λ (xs : List ℕ). start ++ xs) (sym (flat_map-append climb_text h.done (n.0 ∷ []) ∙ ap (λ (xs : List ℕ). flat_map climb_text h.done ++ xs) (append-nil line)))))));
      }

  pub all-added : more ≡ false → AddsClimbs j start (out ++ lines')
  all-added is =
      let n = subst (λ (b : Bool). IsNext j new h.done lines lines' b) is (next h.done h.handed) in
      record { climbs = h.done; all = n.1; added = ap (λ (xs : List ℕ). out ++ xs) n.0 ∙ h.added }

-- the line that names a session, before those of its climbs
abbrev title : List ℕ → ℕ → ℕ → List ℕ
title peer number messages = codes "session " ++ peer ++ codes " " ++ decimal number ++ codes " messages " ++ decimal messages ++ codes "\n"

pub behind-title : (j : Judge) (peer : List ℕ) (number : ℕ) (old text new : List ℕ) → text ≡ old ++ session_text peer number j.messages [] → AddsClimbs j text new → AddsSession peer number j old new
unfolding session_text
behind-title j peer number old text new is h =
    let lines = flat_map climb_text h.climbs in
    record {
      climbs = h.climbs;
      all = h.all;
      added =
          h.added
          ∙ (ap (λ (xs : List ℕ). xs ++ lines) is
          ∙ (append_assoc old (session_text peer number j.messages []) lines ∙ ap (λ (xs : List ℕ). old ++ (xs ++ lines)) (append-nil (title peer number j.messages))));
    }
