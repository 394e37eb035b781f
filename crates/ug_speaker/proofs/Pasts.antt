-- The worlds that a history leads through, and the past of a session among them.
use Rattle.std.proofs.Common.{◌≡◌, ℕ, inl, inr, Bool, true, List, [], ◌∷◌, ◌++◌, map, Option, refl, sym, ◌∙◌, ap, subst}
use Rattle.std.specs.Prelude.{filter}
use Rattle.std.proofs.lemmas.List.{map-append}
use Rattle.std.proofs.lemmas.List.Elements.{filter-append}
use Rattle.ug_types.specs.declared.key.Key.{Key}
use Rattle.ug_types.specs.Attributes.{Attributes}
use Rattle.ug_message.specs.Tables.{Table, no_routes}
use Rattle.ug_message.specs.Climbing.{values_at}
use Rattle.ug_events.specs.Events.{Happening}
use Rattle.ug_world.specs.World.{World}
use Rattle.ug_world.specs.Private.{private_table}
use Rattle.ug_world.specs.Worlds.{in_session, past}
use Rattle.ug_world.specs.After.{after}
use Rattle.ug_speaker.specs.Told.{worlds_through, world_after}
use Rattle.ug_speaker.specs.Right.{IsAmong}

-- The past ends with this value.
abbrev pub IsLast : {V : Type 0} → V → List V → Type 0
IsLast a [] = ⊥
IsLast a (x ∷ []) = x ≡ a
IsLast a (x ∷ y ∷ xs) = IsLast a (y ∷ xs)

pub last-push : {V : Type 0} (a : V) (xs : List V) → IsLast a (xs ++ a ∷ [])
last-push a [] = refl
last-push a (x ∷ []) = refl
last-push a (x ∷ y ∷ xs) = last-push a (y ∷ xs)

pub among-more : {T : Type 0} (x : T) (xs ys : List T) → IsAmong x xs → IsAmong x (xs ++ ys)
among-more x [] ys is = absurd is
among-more x (y ∷ xs) ys is = elim is [ inl here ↦ inl here | inr there ↦ inr (among-more x xs ys there) ]

pub past-append : (p n : ℕ) (ws more : List World) → past p n (ws ++ more) ≡ past p n ws ++ map (private_table p) (filter (in_session p n) more)
past-append p n ws more =
    ap (λ (found : List World). no_routes ∷ map (private_table p) found) (filter-append (in_session p n) ws more)
    ∙ ap (λ (tables : List Table). no_routes ∷ tables) (map-append (private_table p) (filter (in_session p n) ws) (filter (in_session p n) more))

pub filter_one : (test : World → Bool) (w : World) → test w ≡ true → filter test (w ∷ []) ≡ w ∷ []
filter_one test w is = rw is refl

pub past-push : (p n : ℕ) (ws : List World) (w : World) → in_session p n w ≡ true → past p n (ws ++ w ∷ []) ≡ past p n ws ++ private_table p w ∷ []
past-push p n ws w is = past-append p n ws (w ∷ []) ∙ ap (λ (found : List World). past p n ws ++ map (private_table p) found) (filter_one (in_session p n) w is)

-- the last world of a session has the last table of its past
pub last-table : (p n : ℕ) (front : List World) (w : World) → in_session p n w ≡ true → (key : Key) → IsLast (private_table p w key) (values_at key (past p n (front ++ w ∷ [])))
last-table p n front w is key =
    subst (λ (vs : List (Option Attributes)). IsLast (private_table p w key) vs)
    (sym (ap (values_at key) (past-push p n front w is) ∙ map-append (λ (table : Table). table key) (past p n front) (private_table p w ∷ [])))
    (last-push (private_table p w key) (values_at key (past p n front)))

-- the worlds end with the last
pub through-last : (w : World) (es : List Happening) → (front : List World) × (worlds_through w es ≡ front ++ world_after w es ∷ [])
through-last w [] = ([], refl)
through-last w (e ∷ es) = let rest = through-last (after w e) es in (w ∷ rest.0, ap (λ (ws : List World). w ∷ ws) rest.1)
