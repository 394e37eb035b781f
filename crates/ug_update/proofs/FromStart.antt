-- A stream that is read from its first byte on.
use Rattle.std.proofs.Common.{◌≡◌, ℕ, ◌+◌, ◌≤◌, List, [], ◌∷◌, ◌++◌, length, take, drop, map, sym, ap, subst, ◌∙◌}
use Rattle.std.proofs.Math.Seq.{take-append-add}
use Rattle.std.proofs.lemmas.List.{take-append-drop, length-take-le, map_push}
use Rattle.ug_types.specs.declared.message.Item.{Item}
use Rattle.ug_types.specs.declared.capabilities.Capabilities.{Capabilities}
use Rattle.ug_types.specs.Messages.{Message, message_of}
use Rattle.ug_message.specs.Reading.{message_size}
use Rattle.ug_message.specs.Received.{AreSpelled, IsStream, Says, Awaited, front_of}
use Rattle.ug_message.proofs.Fronts.{says_first, awaited_unfinished, spelled_more}

pub take_on : (at n : ℕ) (xs : List ℕ) → at ≤ length xs → take (at + n) xs ≡ take at xs ++ take n (drop at xs)
take_on at n xs le =
    ap (λ (k : ℕ). take (k + n) xs) (sym (length-take-le at xs le)) ∙ ap (λ (ys : List ℕ). take (length (take at xs) + n) ys) (sym (take-append-drop at xs))
    ∙ take-append-add (take at xs) (drop at xs) n

pub spelled_on : (c : Capabilities) (stream rest : List ℕ) (at n : ℕ) (items done : List Item) (item : Item) → at ≤ length stream → rest ≡ drop at stream → n ≡ message_size rest
    → AreSpelled c (map message_of items) (take at stream) → Says (message_of item) ≡ front_of c rest → done ≡ items ++ item ∷ []
    → AreSpelled c (map message_of done) (take (at + n) stream)
spelled_on c stream rest at n items done item le left size are says put =
    let first = says_first c rest (message_of item) (sym says) in
    let on : take at stream ++ take (message_size rest) rest ≡ take (at + n) stream =
    ap (λ (k : ℕ). take at stream ++ take k rest) (sym size) ∙ ap (λ (r : List ℕ). take at stream ++ take n r) left ∙ sym (take_on at n stream le) in
    let given : map message_of done ≡ map message_of items ++ message_of item ∷ [] = ap (λ (xs : List Item). map message_of xs) put ∙ map_push message_of items item in
    subst (λ (ms : List Message). AreSpelled c ms (take (at + n) stream)) (sym given)
    (subst (λ (w : List ℕ). AreSpelled c (map message_of items ++ message_of item ∷ []) w) on
    (spelled_more c (map message_of items) (take at stream) (message_of item) (take (message_size rest) rest) are first.spells))

pub spelled_to : (c : Capabilities) (stream rest : List ℕ) (at : ℕ) (messages : List Message) → rest ≡ drop at stream → AreSpelled c messages (take at stream)
    → Awaited ≡ front_of c rest → IsStream c stream messages rest
spelled_to c stream rest at messages left are waits = record {
  whole = take at stream;
  are_spelled = are;
  parts = sym (take-append-drop at stream) ∙ ap (λ (r : List ℕ). take at stream ++ r) (sym left);
  is_unfinished = awaited_unfinished c rest (sym waits);
}
