-- The worlds that lines lead through.
use Rattle.std.proofs.Common.{◌≡◌, ℕ, ◌+◌, List, [], ◌∷◌, ◌++◌, length, map, slice_get, Option, Some, None, Ok, Err, refl, ap, ◌∙◌, arith}
use Rattle.std.specs.Option.{option_map}
use Rattle.std.proofs.lemmas.Option.{slice_get-map}
use Rattle.ug_events.specs.Events.{Happening, Saying, SaysNothing, SaysSync, Says}
use Rattle.ug_events.specs.Reads.{Reads}
use Rattle.ug_world.specs.World.{World}
use Rattle.ug_world.specs.Verdicts.{verdict}
use Rattle.ug_world.specs.After.{after}
use Rattle.ug_world.specs.Private.{private_table}
use Rattle.ug_world.specs.Worlds.{judged, world_after, where_accepted, accepted_worlds, worlds, last_world}
use Rattle.ug_audit.specs.Asked.{EndsWith}

version-after : (e : Happening) (w : World) → (after w e).version ≡ w.version + 1
unfolding after
version-after e w = refl

-- the same behind a world of any version
record Ends (from : ℕ) (ws : List World) (last : World) : Type 0 where
  front : List World
  parts : ws ≡ front ++ last ∷ []
  version : last.version ≡ from + length front

one_more : (w next last : World) (ws : List World) → next.version ≡ w.version + 1 → Ends next.version ws last → Ends w.version (w ∷ ws) last
one_more w next last ws is h = record { front = w ∷ h.front; parts = ap (λ (xs : List World). w ∷ xs) h.parts; version = omega (arith, h.version, is) }

mutual_by : (w : World) (e : Happening) (lines : List (Reads Saying)) (v : Option ℕ) → ((u : World) → Ends u.version (worlds u lines) (last_world u lines))
    → Ends w.version (w ∷ where_accepted (judged w e v) (accepted_worlds (world_after w (judged w e v)) lines)) (last_world (world_after w (judged w e v)) lines)
mutual_by w e lines None rest = one_more w (after w e) (last_world (after w e) lines) (worlds (after w e) lines) (version-after e w) (rest (after w e))
mutual_by w e lines (Some number) rest = rest w

ends : (w : World) (lines : List (Reads Saying)) → Ends w.version (worlds w lines) (last_world w lines)
ends w [] = record { front = []; parts = refl; version = omega arith }
ends w (Ok SaysNothing ∷ lines) = ends w lines
ends w (Ok SaysSync ∷ lines) = ends w lines
ends w (Ok (Says e) ∷ lines) = mutual_by w e lines (verdict w e) (λ u. ends u lines)
ends w (Err refusal ∷ lines) = ends w lines

pub ends_with : (w : World) (lines : List (Reads Saying)) → w.version ≡ 0 → EndsWith (worlds w lines) (last_world w lines)
ends_with w lines zero_is = let h = ends w lines in record { front = h.front; parts = h.parts; version = omega (arith, h.version, zero_is) }

at_end : (front : List World) (last : World) → slice_get (front ++ last ∷ []) (length front) ≡ Some last
at_end [] last = refl
at_end (x ∷ front) last = at_end front last

pub last_private : (p : ℕ) (ws : List World) (last : World) → EndsWith ws last → slice_get (map (private_table p) ws) last.version ≡ Some (private_table p last)
last_private p ws last h =
    slice_get-map (private_table p) ws last.version
    ∙ ap (option_map (private_table p)) (ap (λ (k : ℕ). slice_get ws k) h.version ∙ ap (λ (xs : List World). slice_get xs (length h.front)) h.parts ∙ at_end h.front last)
