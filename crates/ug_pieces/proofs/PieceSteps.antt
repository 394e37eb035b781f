-- A source that is read piece by piece, and what its pieces come to.
use Rattle.std.proofs.Common.{◌≡◌, ℕ, ◌+◌, ◌-◌, ◌<◌, ◌≤◌, List, [], ◌++◌, length, take, Option, refl, sym, ap, subst, ◌∙◌, arith, length-append}
use Rattle.std.proofs.lemmas.List.{append-nil, length-take}
use Rattle.ug_edge.specs.Told.{TakesFront, IsEnded}
use Rattle.ug_pieces.specs.ReadingLaws.{TakesFront-none, TakesFront-more, ended_after, take_past, take_front}
use Rattle.ug_pieces.specs.Pieces.{HasRead}

-- nothing was read yet
pub begins : (left : Option (List ℕ)) (taken : List ℕ → Type 0) → taken [] → HasRead left left (λ read. (length read ≡ 0) × taken read)
begins left taken none = record { read = []; taken = TakesFront-none left; so = (refl, none) }

pub nothing : (left : Option (List ℕ)) (taken : List ℕ → Type 0) → taken [] → HasRead left left (λ read. (read ≡ []) × taken read)
nothing left taken none = record { read = []; taken = TakesFront-none left; so = (refl, none) }

-- what was read, up to the limit
within_limit : (limit total n : ℕ) (buffer piece read : List ℕ) → total ≤ limit → length read ≡ total → piece ≡ take (limit - total) (take n buffer) → take limit (read ++ take n buffer) ≡ read ++ piece
within_limit limit total n buffer piece read within size is =
    take_front limit read (take n buffer) (omega (arith, within, size)) ∙ ap (λ (k : ℕ). read ++ take (limit - k) (take n buffer)) size ∙ ap (λ (p : List ℕ). read ++ p) (sym is)

-- a piece that was taken whole
pub goes_on :
    (limit total n : ℕ) (buffer piece : List ℕ) (left now next : Option (List ℕ)) (before after : List ℕ → Type 0)
    → n ≤ length buffer → n ≤ limit - total → piece ≡ take (limit - total) (take n buffer) → TakesFront now next (take n buffer)
    → ((front : List ℕ) → before front → after (front ++ piece))
    → HasRead left now (λ read. (length read ≡ total) × before read) → HasRead left next (λ read. (length read ≡ total + n) × after read)
goes_on limit total n buffer piece left now next before after fits within is takes more h =
    let long = length-take n buffer in
    let all : piece ≡ take n buffer = is ∙ take_past (limit - total) (take n buffer) (omega (arith, long, within)) in
    record {
      read = h.read ++ take n buffer;
      taken = TakesFront-more left now next h.read (take n buffer) h.taken takes;
      so = (omega (arith, length-append h.read (take n buffer), long, h.so.0, fits), subst (λ (p : List ℕ). after (h.read ++ p)) all (more h.read h.so.1));
    }

-- a piece within which what takes them stopped
pub stops_at :
    (limit total n : ℕ) (buffer piece : List ℕ) (left now next : Option (List ℕ)) (before stopped : List ℕ → Type 0)
    → total ≤ limit → piece ≡ take (limit - total) (take n buffer) → TakesFront now next (take n buffer)
    → ((front : List ℕ) → before front → stopped (front ++ piece))
    → HasRead left now (λ read. (length read ≡ total) × before read) → HasRead left next (λ read. stopped (take limit read))
stops_at limit total n buffer piece left now next before stopped within is takes stops h =
    record {
      read = h.read ++ take n buffer;
      taken = TakesFront-more left now next h.read (take n buffer) h.taken takes;
      so = subst stopped (sym (within_limit limit total n buffer piece h.read within h.so.0 is)) (stops h.read h.so.1);
    }

-- a piece with a byte past the limit
pub passes_limit :
    (limit total n : ℕ) (buffer piece : List ℕ) (left now next : Option (List ℕ)) (before after : List ℕ → Type 0)
    → total ≤ limit → n ≤ length buffer → limit - total < n → piece ≡ take (limit - total) (take n buffer) → TakesFront now next (take n buffer)
    → ((front : List ℕ) → before front → after (front ++ piece))
    → HasRead left now (λ read. (length read ≡ total) × before read) → HasRead left next (λ read. (limit < length read) × after (take limit read))
passes_limit limit total n buffer piece left now next before after within fits past is takes more h =
    record {
      read = h.read ++ take n buffer;
      taken = TakesFront-more left now next h.read (take n buffer) h.taken takes;
      so = (
        omega (arith, length-append h.read (take n buffer), length-take n buffer, h.so.0, fits, past, within),
        subst after (sym (within_limit limit total n buffer piece h.read within h.so.0 is)) (more h.read h.so.1),
      );
    }

pub not_read :
    (limit total : ℕ) (left now next : Option (List ℕ)) (taken : List ℕ → Type 0) → total ≤ limit → next ≡ now
    → HasRead left now (λ read. (length read ≡ total) × taken read) → HasRead left next (λ read. (length read ≤ limit) × taken read)
not_read limit total left now next taken within same h =
    record { read = h.read; taken = subst (λ (n : Option (List ℕ)). TakesFront left n h.read) (sym same) h.taken; so = (omega (arith, h.so.0, within), h.so.1) }

pub reads_all :
    (limit total : ℕ) (left now next : Option (List ℕ)) (taken : List ℕ → Type 0) → total ≤ limit → IsEnded now → TakesFront now next []
    → HasRead left now (λ read. (length read ≡ total) × taken read) → HasRead left next (λ read. IsEnded next × (length read ≤ limit) × taken read)
reads_all limit total left now next taken within ended takes h = record {
  read = h.read;
  taken = subst (λ (s : List ℕ). TakesFront left next s) (append-nil h.read) (TakesFront-more left now next h.read [] h.taken takes);
  so = (ended_after now next ended takes, omega (arith, h.so.0, within), h.so.1);
}
