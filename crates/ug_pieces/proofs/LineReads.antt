-- A source that is read line by line, and what its lines come to.
use Rattle.std.proofs.Common.{◌≡◌, ℕ, ◌+◌, ◌-◌, ◌<◌, ◌≤◌, List, [], ◌∷◌, ◌++◌, length, take, inl, inr, Option, refl, sym, ap, subst, ◌∙◌, arith}
use Rattle.std.specs.Global.{Vec}
use Rattle.std.specs.Vec.{vec_len}
use Rattle.std.proofs.lemmas.List.{append-nil, length-append, length-map, map-append}
use Rattle.ug_edge.specs.Told.{IsEnded}
use Rattle.ug_pieces.specs.ReadingLaws.{take_past}
use Rattle.ug_pieces.specs.Pieces.{HasRead, IsHalt}
use Rattle.ug_pieces.specs.declared.halt.Halt.{Halt}
use Rattle.ug_pieces.specs.declared.halt.Halt.TheVariants as piece_halts
use Rattle.ug_pieces.specs.Lines.{ended_from, rest_from, where_some, lines_of, kept_of, TakesSome, IsLineHalt}
use Rattle.ug_pieces.specs.LineSteps.{HasTakenLines, HasStoppedWithin, HasStoppedAt, lines_from, halt_of_stop, halt_of_pieces}
use Rattle.ug_pieces.specs.LineLaws.{kept_some}
use Rattle.ug_pieces.specs.declared.lines.LineStop.{LineStop}
use Rattle.ug_pieces.specs.declared.lines.LineStop.TheVariants as stops
use Rattle.ug_pieces.specs.declared.line_halt.LineHalt.TheVariants as halts

lines_kept : (k : ℕ) (bytes : List ℕ) → kept_of k (lines_of bytes) ≡ kept_of k (ended_from [] bytes) ++ kept_of k (where_some (rest_from [] bytes))
lines_kept k bytes = map-append (take k) (ended_from [] bytes) (where_some (rest_from [] bytes))

-- a front of the lines that are ended, where none was begun before
some_ended : (P : List (List ℕ) → Type 0) (k m n : ℕ) (r bytes : List ℕ) → r ≡ [] → n ≡ 0 → TakesSome m n P (kept_of k (ended_from r bytes)) → TakesSome m 0 P (kept_of k (ended_from [] bytes))
some_ended P k m n r bytes none zero some = subst (λ (f : List ℕ). TakesSome m 0 P (kept_of k (ended_from f bytes))) none (subst (λ (j : ℕ). TakesSome m j P (kept_of k (ended_from r bytes))) zero some)

module _ {S : Type 0} (P : List (List ℕ) → Type 0) (Qs : List (List ℕ) → S → Type 0) (k m limit : ℕ) (r : List ℕ) (none : r ≡ []) (left now : Option (List ℕ)) where
  no_line : (read : List ℕ) → read ≡ [] → 0 + length (kept_of k (ended_from r read)) ≤ m
  unfolding ended_from
  no_line [] is = omega arith
  no_line (b ∷ read) is = absurd cc

  -- memory ran out before anything was read
  unread :
      (r' : List ℕ) (n n' k' m' : ℕ)
      → HasRead left now (λ read. (read ≡ []) × HasTakenLines P k m r r' n n' k' m' read)
      → HasRead left now (IsLineHalt {S = S} halts.NoMemory limit m k P Qs now)
  unread r' n n' k' m' h =
      let none_read : take limit h.read ≡ h.read = take_past limit h.read (let e = ap length h.so.0 in omega arith) in
      record {
        read = h.read;
        taken = h.taken;
        so = subst (λ (bytes : List ℕ). TakesSome m 0 P (kept_of k (ended_from [] bytes))) (sym none_read)
            (some_ended P k m 0 r h.read none refl (kept_of k (ended_from r h.read), [], sym (append-nil (kept_of k (ended_from r h.read))), no_line h.read h.so.0, h.so.1.took));
      }

  starved : (n : ℕ) → n ≡ 0 → HasRead left now (λ read. HasStoppedWithin {S = S} stops.NoMemory P Qs k m r n (take limit read)) → HasRead left now (IsLineHalt {S = S} halts.NoMemory limit m k P Qs now)
  starved n zero h = record { read = h.read; taken = h.taken; so = some_ended P k m n r (take limit h.read) none zero h.so }

  stopped : (stop : S) (n : ℕ) → n ≡ 0 → HasRead left now (λ read. HasStoppedWithin (stops.Stopped stop) P Qs k m r n (take limit read)) → HasRead left now (IsLineHalt (halts.Stopped stop) limit m k P Qs now)
  stopped stop n zero h = record { read = h.read; taken = h.taken; so = inl (some_ended (λ (ls : List (List ℕ)). Qs ls stop) k m n r (take limit h.read) none zero h.so) }

  too_many : (n : ℕ) → n ≡ 0 → HasRead left now (λ read. HasStoppedWithin {S = S} stops.TooMany P Qs k m r n (take limit read)) → HasRead left now (IsLineHalt {S = S} halts.TooMany limit m k P Qs now)
  too_many n zero h =
      let at = λ (f : List ℕ) (j : ℕ). (m < j + length (lines_from f (take limit h.read))) × P (take (m - j) (kept_of k (lines_from f (take limit h.read)))) in
      let so : (m < 0 + length (lines_of (take limit h.read))) × P (take (m - 0) (kept_of k (lines_of (take limit h.read)))) = subst (λ (j : ℕ). at [] j) zero (subst (λ (f : List ℕ). at f n) none h.so) in
      let same : m - 0 ≡ m = omega arith in
      record {
        read = h.read;
        taken = h.taken;
        so = (omega (arith, so.0), subst (λ (j : ℕ). P (take j (kept_of k (lines_of (take limit h.read))))) same so.1);
      }

-- there is room for the line that is begun
pub room_for : (n m : ℕ) (v : Vec ℕ) → n ≤ m → (0 < vec_len v → n < m) → n + length (where_some v.items) ≤ m
room_for n m v counted begun = by_items v.items refl
  where
    by_items : (items : List ℕ) → v.items ≡ items → n + length (where_some items) ≤ m
    by_items [] is = omega (arith, counted)
    by_items (b ∷ items) is = let some : 0 < vec_len v = (let l = ap length is in omega (arith, v.ok.0)) in omega (arith, begun some)

-- the last line, behind the last newline
module _ (P : List (List ℕ) → Type 0) (k m limit : ℕ) (r r' : List ℕ) (n n' k' m' : ℕ) (none : r ≡ []) (zero : n ≡ 0) (some : 0 < k) (left now : Option (List ℕ)) where
  last_kept : (read : List ℕ) → HasTakenLines P k m r r' n n' k' m' read → kept_of k (ended_from r read) ++ where_some r' ≡ kept_of k (lines_of read)
  last_kept read h =
      let last : where_some r' ≡ kept_of k (where_some (rest_from [] read)) =
      ap where_some (h.rest_is ∙ ap (λ (f : List ℕ). take k (rest_from f read)) none) ∙ sym (kept_some k (rest_from [] read) some) in
      ap (λ (f : List ℕ). kept_of k (ended_from f read) ++ where_some r') none
      ∙ ap (λ (ls : List (List ℕ)). kept_of k (ended_from [] read) ++ ls) last
      ∙ sym (lines_kept k read)

  last_size : (read : List ℕ) → HasTakenLines P k m r r' n n' k' m' read → length (lines_of read) ≡ length (ended_from r read) + length (where_some r')
  last_size read h =
      sym (length-map (lines_of read) (take k)) ∙ sym (ap length (last_kept read h)) ∙ length-append (kept_of k (ended_from r read)) (where_some r')
      ∙ ap (λ (j : ℕ). j + length (where_some r')) (length-map (ended_from r read) (take k))

  pub all_taken :
      (R : List (List ℕ) → Type 0) → n' + length (where_some r') ≤ m' → ((front : List (List ℕ)) → P front → R (front ++ where_some r'))
      → HasRead left now (λ read. IsEnded now × (length read ≤ limit) × HasTakenLines P k m r r' n n' k' m' read)
      → HasRead left now (λ read. IsEnded now × (length read ≤ limit) × (length (lines_of read) ≤ m) × R (kept_of k (lines_of read)))
  all_taken R room join h =
      let is = last_kept h.read h.so.2 in
      let size = last_size h.read h.so.2 in
      record {
        read = h.read;
        taken = h.taken;
        so = (h.so.0, h.so.1, omega (arith, size, room, h.so.2.counted, h.so.2.most_is, zero), subst R is (join (kept_of k (ended_from r h.read)) h.so.2.took));
      }

  at_last :
      {S : Type 0} (R : List (List ℕ) → Type 0) (Rs : List (List ℕ) → S → Type 0) (stop : S) → n' + length (where_some r') ≤ m' → ((front : List (List ℕ)) → P front → Rs (front ++ where_some r') stop)
      → HasRead left now (λ read. IsEnded now × (length read ≤ limit) × HasTakenLines P k m r r' n n' k' m' read)
      → HasRead left now (IsLineHalt (halts.Stopped stop) limit m k R Rs now)
  at_last R Rs stop room join h =
      let is = last_kept h.read h.so.2 in
      let size = last_size h.read h.so.2 in
      record {
        read = h.read;
        taken = h.taken;
        so = inr (h.so.0, h.so.1, omega (arith, size, room, h.so.2.counted, h.so.2.most_is, zero), subst (λ (ls : List (List ℕ)). Rs ls stop) is (join (kept_of k (ended_from r h.read)) h.so.2.took));
      }

  pub last_stopped :
      {S : Type 0} (R : List (List ℕ) → Type 0) (Qs : List (List ℕ) → S → Type 0) (Rs : List (List ℕ) → S → Type 0) (stop : LineStop S)
      → ((front : List (List ℕ)) (s : S) → P front → Qs (where_some r') s → Rs (front ++ where_some r') s)
      → n' + length (where_some r') ≤ m' → HasStoppedAt stop ⊥ ⊥ (Qs (where_some r'))
      → HasRead left now (λ read. IsEnded now × (length read ≤ limit) × HasTakenLines P k m r r' n n' k' m' read)
      → HasRead left now (IsLineHalt (halt_of_stop stop) limit m k R Rs now)
  last_stopped R Qs Rs stops.NoMemory join room at h = absurd at
  last_stopped R Qs Rs stops.TooMany join room at h = absurd at.0
  last_stopped R Qs Rs (stops.Stopped s) join room at h = at_last R Rs s room (λ front took. join front s took at) h

-- reading that ended early
module _ {S : Type 0} (P : List (List ℕ) → Type 0) (Qs : List (List ℕ) → S → Type 0) (k m limit : ℕ) (r r' : List ℕ) (n n' k' m' : ℕ) (none : r ≡ []) (zero : n ≡ 0) (some : 0 < k) (room : n' + length (where_some r') ≤ m') (left now : Option (List ℕ)) where
  pub read_halted :
      (halt : Halt (LineStop S))
      → HasRead left now (IsHalt halt limit (HasTakenLines P k m r r' n n' k' m') (λ bytes stop. HasStoppedWithin stop P Qs k m r n bytes))
      → HasRead left now (IsLineHalt (halt_of_pieces halt) limit m k P Qs now)
  read_halted piece_halts.Read h =
      let none_ended : ended_from r h.read ≡ ended_from [] h.read = ap (λ (f : List ℕ). ended_from f h.read) none in
      let size = last_size P k m limit r r' n n' k' m' none zero some left now h.read h.so.1 in
      record {
        read = h.read;
        taken = h.taken;
        so = (h.so.0, omega (arith, size, room, h.so.1.counted, h.so.1.most_is, zero), subst (λ (ls : List (List ℕ)). P (kept_of k ls)) none_ended h.so.1.took);
      }
  read_halted piece_halts.NoMemory h = unread P Qs k m limit r none left now r' n n' k' m' h
  read_halted piece_halts.TooLong h =
      let within = take limit h.read in
      let size = last_size P k m limit r r' n n' k' m' none zero some left now within h.so.1 in
      record {
        read = h.read;
        taken = h.taken;
        so = (h.so.0, omega (arith, size, room, h.so.1.counted, h.so.1.most_is, zero), subst (λ (f : List ℕ). P (kept_of k (ended_from f within))) none h.so.1.took);
      }
  read_halted (piece_halts.Stopped stops.NoMemory) h = starved P Qs k m limit r none left now n zero h
  read_halted (piece_halts.Stopped stops.TooMany) h = too_many P Qs k m limit r none left now n zero h
  read_halted (piece_halts.Stopped (stops.Stopped s)) h = stopped P Qs k m limit r none left now s n zero h

-- A read that failed is told as such, and nothing else is.
pub read_alone : {S : Type 0} (halt : Halt (LineStop S)) → halt_of_pieces halt ≡ halts.Read → halt ≡ piece_halts.Read
read_alone piece_halts.Read e = refl
read_alone piece_halts.NoMemory e = absurd cc
read_alone piece_halts.TooLong e = absurd cc
read_alone (piece_halts.Stopped stops.NoMemory) e = absurd cc
read_alone (piece_halts.Stopped stops.TooMany) e = absurd cc
read_alone (piece_halts.Stopped (stops.Stopped s)) e = absurd cc

pub never_read : {S : Type 0} (stop : LineStop S) → halt_of_stop stop ≡ halts.Read → ⊥
never_read stops.NoMemory e = cc
never_read stops.TooMany e = cc
never_read (stops.Stopped s) e = cc
