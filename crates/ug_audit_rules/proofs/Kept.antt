-- What the lines of a report told so far.
use Rattle.std.proofs.Common.{◌≡◌, ℕ, zero, suc, ◌+◌, ◌-◌, ◌<◌, ◌≤◌, Bool, true, false, List, [], ◌∷◌, ◌++◌, length, take, length-append, refl, sym, ap, subst, ◌∙◌, arith, append_assoc}
use Rattle.std.specs.Prelude.{◌||◌}
use Rattle.std.proofs.lemmas.List.{append-nil, take-append-le}
use Rattle.std.proofs.lemmas.List.Folds.{list_any-append}
use Rattle.ug_types.specs.declared.mark.Mark.{Mark}
use Rattle.ug_audit_rules.specs.declared.entry.Entry.{Entry}
use Rattle.ug_audit_rules.specs.declared.entry.Entry.TheVariants.{Passes, Sync, Lost, Unclear}
use Rattle.ug_audit_rules.specs.Audited.{is_loss_of, is_lost_in, mark_in, marks_in}
use Rattle.ug_audit_rules.specs.Reports.{IsClear, AreClear}
use Rattle.ug_audit_rules.specs.declared.lines.Told.{Told}
use Rattle.ug_audit_rules.specs.declared.stop.Stop.{Stop}
use Rattle.ug_audit_rules.specs.declared.stop.Stop.TheVariants as stops
use Rattle.ug_audit_rules.specs.Told.{TellsAsMuch, Keeps, IsFirstUnclear, IsStop, most_lines}
use Rattle.ug_audit_rules.specs.Reading.{HasTold}

clear_push : (front : List Entry) (e : Entry) → AreClear front → IsClear e → AreClear (front ++ e ∷ [])
clear_push [] e are is = (is, tt)
clear_push (x ∷ front) e are is = (are.0, clear_push front e are.1 is)

marks_push : (front : List Entry) (e : Entry) → marks_in (front ++ e ∷ []) ≡ marks_in front ++ mark_in e
marks_push [] e = append-nil (mark_in e)
marks_push (x ∷ front) e = ap (λ (ms : List Mark). mark_in x ++ ms) (marks_push front e) ∙ sym (append_assoc (mark_in x) (marks_in front) (mark_in e))

lost_push : (front : List Entry) (e : Entry) (p n : ℕ) → is_lost_in (front ++ e ∷ []) p n ≡ (is_lost_in front p n || is_loss_of p n e)
lost_push front e p n = list_any-append (is_loss_of p n) front (e ∷ []) ∙ ap (λ (b : Bool). is_lost_in front p n || b) (or_false (is_loss_of p n e))
  where
    or_false : (b : Bool) → (b || false) ≡ b
    or_false true = refl
    or_false false = refl

tells_more : (kept front : List Entry) (e : Entry) → TellsAsMuch kept front → TellsAsMuch (kept ++ e ∷ []) (front ++ e ∷ [])
tells_more kept front e t = record {
  marks = marks_push kept e ∙ ap (λ (ms : List Mark). ms ++ mark_in e) t.marks ∙ sym (marks_push front e);
  losses = λ p n. lost_push kept e p n ∙ ap (λ (b : Bool). b || is_loss_of p n e) (t.losses p n) ∙ sym (lost_push front e p n);
}

tells_passing : (kept front : List Entry) → TellsAsMuch kept front → TellsAsMuch kept (front ++ Passes ∷ [])
tells_passing kept front t = record {
  marks = t.marks ∙ sym (marks_push front Passes ∙ append-nil (marks_in front));
  losses = λ p n. t.losses p n ∙ sym (lost_push front Passes p n ∙ or_false (is_lost_in front p n));
}
  where
    or_false : (b : Bool) → (b || false) ≡ b
    or_false true = refl
    or_false false = refl

tells_by : (e : Entry) (kept new front : List Entry) → IsClear e → Keeps kept new e → TellsAsMuch kept front → TellsAsMuch new (front ++ e ∷ [])
tells_by Passes kept new front clear is t = subst (λ (k : List Entry). TellsAsMuch k (front ++ Passes ∷ [])) (sym is) (tells_passing kept front t)
tells_by (Sync m) kept new front clear is t = subst (λ (k : List Entry). TellsAsMuch k (front ++ Sync m ∷ [])) (sym is) (tells_more kept front (Sync m) t)
tells_by (Lost peer session) kept new front clear is t = subst (λ (k : List Entry). TellsAsMuch k (front ++ Lost peer session ∷ [])) (sym is) (tells_more kept front (Lost peer session) t)
tells_by Unclear kept new front clear is t = absurd clear

-- ---- fronts

take_front : (n : ℕ) (front left : List Entry) → length front ≤ n → take n (front ++ left) ≡ front ++ take (n - length front) left
take_front n [] left le = let z : n ≡ n - 0 = omega arith in ap (λ (k : ℕ). take k left) z
take_front zero (x ∷ front) left le = absurd (omega arith)
take_front (suc n) (x ∷ front) left le =
    let k : n - length front ≡ suc n - length (x ∷ front) = omega arith in
    ap (λ (z : List Entry). x ∷ z) (take_front n front left (omega arith) ∙ ap (λ (m : ℕ). front ++ take m left) k)

take_none : (m : ℕ) → take {A = Entry} m [] ≡ []
take_none zero = refl
take_none (suc m) = refl

take_one : (n : ℕ) (x : Entry) → 0 < n → take n (x ∷ []) ≡ x ∷ []
take_one zero x some = absurd (omega arith)
take_one (suc n) x some = ap (λ (z : List Entry). x ∷ z) (take_none n)

take_some : (n : ℕ) (xs ys : List Entry) → (tail : List Entry) × (take n (xs ++ ys) ≡ take n xs ++ tail)
take_some zero xs ys = ([], refl)
take_some (suc n) [] ys = (take (suc n) ys, refl)
take_some (suc n) (x ∷ xs) ys = (let t = take_some n xs ys in (t.0, ap (λ (z : List Entry). x ∷ z) t.1))

-- ---- one line more

pub told_none : (t : Told) → t.lines ≡ 0 → t.entries.items ≡ [] → HasTold t []
told_none t none empty = record { clear = tt; count = none; few = omega arith; tells = record { marks = ap marks_in empty; losses = λ p n. ap (λ (es : List Entry). is_lost_in es p n) empty } }

pub told_more : (old new : Told) (all : List Entry) (e : Entry) → new.lines ≡ old.lines + 1 → old.lines < 2000000 → IsClear e → Keeps old.entries.items new.entries.items e → HasTold old all → HasTold new (all ++ e ∷ [])
unfolding most_lines
told_more old new all e more few clear keeps h =
    let size = length-append all (e ∷ []) in
    let count = h.count in
    record {
      clear = clear_push all e h.clear clear;
      count = omega (arith, more, size, count);
      few = omega (arith, few, size, count);
      tells = tells_by e old.entries.items new.entries.items all clear keeps h.tells;
    }

pub stops_unclear : (t : Told) (all : List Entry) (e : Entry) → t.lines < 2000000 → e ≡ Unclear → HasTold t all → IsFirstUnclear (t.lines + 1) (take most_lines (all ++ e ∷ []))
unfolding most_lines
stops_unclear t all e few is h =
    let count = h.count in
    let room : 0 < 2000000 - length all = omega (arith, count, few) in
    record {
      front = all;
      more = [];
      parts = take_front 2000000 all (e ∷ []) (omega (arith, count, few)) ∙ ap (λ (l : List Entry). all ++ l) (take_one (2000000 - length all) e room) ∙ ap (λ (x : Entry). all ++ x ∷ []) is;
      clear = h.clear;
      line_is = omega (arith, count);
    }

pub stops_past : (t : Told) (all : List Entry) (e : Entry) → 2000000 ≤ t.lines → HasTold t all → (most_lines < length (all ++ e ∷ [])) × AreClear (take most_lines (all ++ e ∷ []))
unfolding most_lines
stops_past t all e full h =
    let count = h.count in
    let few = h.few in
    let size = length-append all (e ∷ []) in
    let none : take (2000000 - length all) (e ∷ []) ≡ [] = (let z : 2000000 - length all ≡ 0 = omega (arith, count, full) in ap (λ (k : ℕ). take k (e ∷ [])) z) in
    let seen : take 2000000 (all ++ e ∷ []) ≡ all = take_front 2000000 all (e ∷ []) few ∙ ap (λ (l : List Entry). all ++ l) none ∙ append-nil all in
    (omega (arith, count, full, size), subst AreClear (sym seen) h.clear)

-- ---- more lines behind a stop

pub stop_more : (stop : Stop) (es more : List Entry) → IsStop stop es → IsStop stop (es ++ more)
stop_more stops.NoMemory es more h = tt
stop_more stops.TooMany es more h =
    let size = length-append es more in
    let many = h.0 in
    (omega (arith, many, size), subst AreClear (sym (take-append-le most_lines es more (omega (arith, many)))) h.1)
stop_more (stops.Unclear line) es more h =
    let t = take_some most_lines es more in
    record {
      front = h.front;
      more = h.more ++ t.0;
      parts = t.1 ∙ ap (λ (l : List Entry). l ++ t.0) h.parts ∙ append_assoc h.front (Unclear ∷ h.more) t.0;
      clear = h.clear;
      line_is = h.line_is;
    }
