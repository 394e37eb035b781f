-- The worlds of a session, with one more world.
use Rattle.std.proofs.Common.{◌≡◌, ℕ, zero, suc, ◌+◌, ◌<◌, ◌≤◌, Bool, true, false, List, [], ◌∷◌, ◌++◌, length, filter, slice_get, Option, Some, None, refl, sym, ◌∙◌, ap, arith, append_assoc, length-append}
use Rattle.std.specs.Prelude.{◌==◌, ◌&&◌, unwrap_or, if◌then◌else◌}
use Rattle.std.proofs.lemmas.List.{append-nil}
use Rattle.std.proofs.lemmas.List.Elements.{filter-append}
use Rattle.std.proofs.lemmas.Bool.{eqb-true}
use Rattle.std.proofs.lemmas.Bool.Decides.{nat_tests}
use Rattle.ug_types.specs.declared.key.Key.{Key}
use Rattle.ug_world.specs.declared.peer_state.PeerState.{PeerState}
use Rattle.ug_world.specs.World.{World}
use Rattle.ug_world.specs.Private.{private_table}
use Rattle.ug_world.specs.Worlds.{is_up_in, in_session}
use Rattle.ug_audit_rules.specs.Timelines.{IsSpan, end_of}

-- ---- places

pub get_before : (xs : List ℕ) (x i : ℕ) → i < length xs → slice_get (xs ++ x ∷ []) i ≡ slice_get xs i
get_before [] x i less = absurd (omega arith)
get_before (y ∷ xs) x zero less = refl
get_before (y ∷ xs) x (suc i) less = get_before xs x i (omega arith)

pub get_at : (xs : List ℕ) (x i : ℕ) → i ≡ length xs → slice_get (xs ++ x ∷ []) i ≡ Some x
get_at [] x zero e = refl
get_at [] x (suc i) e = absurd (omega (arith, e))
get_at (y ∷ xs) x zero e = absurd (omega (arith, e))
get_at (y ∷ xs) x (suc i) e = get_at xs x i (omega (arith, e))

pub get_past : (xs : List ℕ) (i : ℕ) → length xs ≤ i → slice_get xs i ≡ None
get_past [] i far = refl
get_past (y ∷ xs) zero far = absurd (omega arith)
get_past (y ∷ xs) (suc i) far = get_past xs i (omega arith)

pub get_inside : (xs : List ℕ) (i x : ℕ) → slice_get xs i ≡ Some x → i < length xs
get_inside [] i x e = absurd cc
get_inside (y ∷ xs) zero x e = omega arith
get_inside (y ∷ xs) (suc i) x e = let less = get_inside xs i x e in omega arith

get_some : (xs : List ℕ) (i : ℕ) → i < length xs → (x : ℕ) × (slice_get xs i ≡ Some x)
get_some [] i less = absurd (omega arith)
get_some (y ∷ xs) zero less = (y, refl)
get_some (y ∷ xs) (suc i) less = get_some xs i (omega arith)

pub same_item : (x y : ℕ) → Some x ≡ Some y → x ≡ y
same_item x y e = cc

-- the end of a session that is over
pub end_is_over : (ended : List ℕ) (i n m : ℕ) → i < length ended → end_of ended i n ≡ end_of ended i m
end_is_over ended i n m less = let there = get_some ended i less in ap (λ (o : Option ℕ). unwrap_or o n) there.1 ∙ sym (ap (λ (o : Option ℕ). unwrap_or o m) there.1)

-- that of one that isn't
pub end_is_open : (ended : List ℕ) (i n : ℕ) → length ended ≤ i → end_of ended i n ≡ n
end_is_open ended i n far = ap (λ (o : Option ℕ). unwrap_or o n) (get_past ended i far)

pub end_before : (ended : List ℕ) (x i n : ℕ) → i < length ended → end_of (ended ++ x ∷ []) i n ≡ end_of ended i n
end_before ended x i n less = ap (λ (o : Option ℕ). unwrap_or o n) (get_before ended x i less)

pub end_at : (ended : List ℕ) (x i n : ℕ) → i ≡ length ended → end_of (ended ++ x ∷ []) i n ≡ x
end_at ended x i n e = ap (λ (o : Option ℕ). unwrap_or o n) (get_at ended x i e)

-- ---- one more world

one_more : (p n : ℕ) (ws : List World) (w : World) (b : Bool) → in_session p n w ≡ b → filter (in_session p n) (ws ++ w ∷ []) ≡ filter (in_session p n) ws ++ (if b then w ∷ [] else [])
one_more p n ws w b is = filter-append (in_session p n) ws (w ∷ []) ∙ ap (λ (t : Bool). filter (in_session p n) ws ++ (if t then w ∷ [] else [])) is

pub none_more : (p n : ℕ) (ws : List World) (w : World) → in_session p n w ≡ false → filter (in_session p n) ws ≡ [] → filter (in_session p n) (ws ++ w ∷ []) ≡ []
none_more p n ws w is none = one_more p n ws w false is ∙ append-nil (filter (in_session p n) ws) ∙ none

-- a world that isn't of the session
pub span_stays : (p n : ℕ) (ws : List World) (w : World) (from to : ℕ) → in_session p n w ≡ false → IsSpan p n ws from to → IsSpan p n (ws ++ w ∷ []) from to
span_stays p n ws w from to is s = record {
  before = s.before;
  first = s.first;
  inside = s.inside;
  behind = s.behind ++ w ∷ [];
  parts = ap (λ (xs : List World). xs ++ w ∷ []) s.parts ∙ append_assoc s.before (s.first ∷ (s.inside ++ s.behind)) (w ∷ []) ∙ ap (λ (xs : List World). s.before ++ s.first ∷ xs) (append_assoc s.inside s.behind (w ∷ []));
  from_is = s.from_is;
  to_is = s.to_is;
  kept = one_more p n ws w false is ∙ append-nil (filter (in_session p n) ws) ∙ s.kept;
  empty = s.empty;
}

nothing_behind : (xs : List World) → length xs ≡ 0 → xs ≡ []
nothing_behind [] e = refl
nothing_behind (x ∷ xs) e = absurd (omega (arith, e))

lengths : (before inside behind : List World) (first : World) → length (before ++ first ∷ (inside ++ behind)) ≡ length before + 1 + length inside + length behind
lengths before inside behind first = let outer = length-append before (first ∷ (inside ++ behind)) in let inner = length-append inside behind in omega (arith, outer, inner)

-- a world that is of the session, which was there to the end
pub span_grows : (p n : ℕ) (ws : List World) (w : World) (from to : ℕ) → in_session p n w ≡ true → to ≡ length ws → IsSpan p n ws from to → IsSpan p n (ws ++ w ∷ []) from (to + 1)
span_grows p n ws w from to is end s =
    let all = ap (λ (xs : List World). length xs) s.parts ∙ lengths s.before s.inside s.behind s.first in
    let none = nothing_behind s.behind (omega (arith, all, end, s.to_is)) in
    let size = length-append s.inside (w ∷ []) in
    record {
      before = s.before;
      first = s.first;
      inside = s.inside ++ w ∷ [];
      behind = [];
      parts = ap (λ (xs : List World). xs ++ w ∷ []) (s.parts ∙ ap (λ (xs : List World). s.before ++ s.first ∷ (s.inside ++ xs)) none ∙ ap (λ (xs : List World). s.before ++ s.first ∷ xs) (append-nil s.inside))
          ∙ append_assoc s.before (s.first ∷ s.inside) (w ∷ []) ∙ ap (λ (xs : List World). s.before ++ s.first ∷ xs) (sym (append-nil (s.inside ++ w ∷ [])));
      from_is = s.from_is;
      to_is = omega (arith, s.to_is, size);
      kept = one_more p n ws w true is ∙ ap (λ (xs : List World). xs ++ w ∷ []) s.kept;
      empty = s.empty;
    }

-- the first world of a session, behind one in which the peer isn't up
pub span_begins : (p n : ℕ) (front : List World) (w w' : World) (ws : List World) → ws ≡ front ++ w ∷ [] → in_session p n w' ≡ true → filter (in_session p n) ws ≡ [] → ((key : Key) → private_table p w key ≡ None)
    → IsSpan p n (ws ++ w' ∷ []) (length front) (length ws + 1)
span_begins p n front w w' ws parts is none empty =
    let size = ap (λ (xs : List World). length xs) parts ∙ length-append front (w ∷ []) in
    record {
      before = front;
      first = w;
      inside = w' ∷ [];
      behind = [];
      parts = ap (λ (xs : List World). xs ++ w' ∷ []) parts ∙ append_assoc front (w ∷ []) (w' ∷ []);
      from_is = refl;
      to_is = omega (arith, size);
      kept = one_more p n ws w' true is ∙ ap (λ (xs : List World). xs ++ w' ∷ []) none;
      empty = empty;
    }

-- ---- whether a world is of a session

pub is_in : (p n : ℕ) (w : World) (s : PeerState) → slice_get w.peers p ≡ Some s → s.up ≡ true → s.sessions ≡ n → in_session p n w ≡ true
is_in p n w s there up same =
    ap (λ (o : Option PeerState). is_up_in n o) there ∙ ap (λ (b : Bool). b && (s.sessions == n)) up ∙ (let yes : (s.sessions == n) ≡ true = grind (arith, nat_tests, same) in yes)

pub is_down : (p n : ℕ) (w : World) (s : PeerState) → slice_get w.peers p ≡ Some s → s.up ≡ false → in_session p n w ≡ false
is_down p n w s there up = ap (λ (o : Option PeerState). is_up_in n o) there ∙ ap (λ (b : Bool). b && (s.sessions == n)) up

pub is_other : (p n : ℕ) (w : World) (s : PeerState) → slice_get w.peers p ≡ Some s → (s.sessions ≡ n → ⊥) → in_session p n w ≡ false
is_other p n w s there other = ap (λ (o : Option PeerState). is_up_in n o) there ∙ by (s.sessions == n) refl
  where
    by : (b : Bool) → (s.sessions == n) ≡ b → (s.up && b) ≡ false
    by true is = absurd (other (eqb-true s.sessions n is))
    by false is = and_false s.up
      where
        and_false : (u : Bool) → (u && false) ≡ false
        and_false true = refl
        and_false false = refl
