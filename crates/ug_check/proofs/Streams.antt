-- A stream, piece by piece.
use Rattle.std.proofs.Common.{◌≡◌, ℕ, ◌+◌, ◌-◌, ◌<◌, ◌≤◌, List, [], ◌++◌, length, take, Option, refl, sym, ap, subst, ◌∙◌, arith, inl, length-append}
use Rattle.std.proofs.lemmas.List.{append-nil, length-take}
use Rattle.ug_edge.specs.Told.{TakesFront, IsEnded}
use Rattle.ug_pieces.specs.ReadingLaws.{TakesFront-none, TakesFront-more, ended_after, take_past, take_front}
use Rattle.ug_types.specs.declared.capabilities.Capabilities.{Capabilities}
use Rattle.ug_message.specs.Received.{IsStream, IsFaultyAt}
use Rattle.ug_update.specs.Readers.{ReaderState, new_reader}
use Rattle.ug_check.specs.Rows.{Rows, no_rows}
use Rattle.ug_check.specs.Checks.{most_bytes, IsCause, HasStopped}
use Rattle.ug_check.specs.Checkers.{HasChecked, IsSettled, IsBehind, HasReadAll, IsPieceCause}
use Rattle.ug_check.specs.declared.stop.Stop.{Stop}
use Rattle.ug_check.specs.declared.stop.Stop.TheVariants as stops

-- a checker before any byte
pub fresh_checked : (session : Capabilities) (r : ReaderState) (t : Rows) (messages eors : ℕ) → r ≡ new_reader session → t ≡ no_rows → messages ≡ 0 → eors ≡ 0 → HasChecked r t messages eors []
fresh_checked session r t messages eors reader table none zero =
    subst (λ (x : ReaderState). HasChecked x t messages eors []) (sym reader) (subst (λ (x : Rows). HasChecked (new_reader session) x messages eors []) (sym table) (record {
      given = [];
      texts = [];
      read = record { whole = []; are_spelled = refl; parts = refl; taken = refl };
      spelled = tt;
      parts = refl;
      rows = λ key. refl;
      stale = λ key. refl;
      messages_are = none;
      eors_are = zero;
    }))

pub begins : (left : Option (List ℕ)) (session : Capabilities) (r : ReaderState) (t : Rows) (messages eors : ℕ) → r ≡ new_reader session → t ≡ no_rows → messages ≡ 0 → eors ≡ 0 → IsBehind 0 left left r t messages eors
begins left session r t messages eors reader table none zero =
    subst (λ (x : ReaderState). IsBehind 0 left left x t messages eors) (sym reader) (subst (λ (x : Rows). IsBehind 0 left left (new_reader session) x messages eors) (sym table) (record {
      stream = [];
      taken = TakesFront-none left;
      size = refl;
      settled = record {
        checked = record {
          given = [];
          texts = [];
          read = record { whole = []; are_spelled = refl; parts = refl; taken = refl };
          spelled = tt;
          parts = refl;
          rows = λ key. refl;
          stale = λ key. refl;
          messages_are = none;
          eors_are = zero;
        };
        unfinished = inl (omega arith);
      };
    }))

pub settled_stream : (r : ReaderState) (t : Rows) (messages eors : ℕ) (stream : List ℕ) (h : IsSettled r t messages eors stream) → IsStream r.session stream h.checked.given r.left
settled_stream r t messages eors stream h = record {
  whole = h.checked.read.whole;
  are_spelled = h.checked.read.are_spelled;
  parts = h.checked.read.parts;
  is_unfinished = h.unfinished;
}

-- a piece that was read whole
pub goes_on : (total n : ℕ) (buffer piece : List ℕ) (left now next : Option (List ℕ)) (r s : ReaderState) (t u : Rows) (messages eors more marks : ℕ)
    → n ≤ length buffer → n ≤ most_bytes - total → piece ≡ take (most_bytes - total) (take n buffer) → TakesFront now next (take n buffer)
    → ((stream : List ℕ) → HasChecked r t messages eors stream → IsSettled s u more marks (stream ++ piece))
    → IsBehind total left now r t messages eors → IsBehind (total + n) left next s u more marks
goes_on total n buffer piece left now next r s t u messages eors more marks fits within is takes feeds h =
    let all : piece ≡ take n buffer = is ∙ take_past (most_bytes - total) (take n buffer) (let l = length-take n buffer in omega arith) in
    record {
      stream = h.stream ++ take n buffer;
      taken = TakesFront-more left now next h.stream (take n buffer) h.taken takes;
      size = omega (arith, length-append h.stream (take n buffer), length-take n buffer, h.size);
      settled = subst (λ (p : List ℕ). IsSettled s u more marks (h.stream ++ p)) all (feeds h.stream h.settled.checked);
    }

-- what was read, up to the limit
within_limit : (total n : ℕ) (buffer piece stream : List ℕ) → total ≤ most_bytes → length stream ≡ total → piece ≡ take (most_bytes - total) (take n buffer) → take most_bytes (stream ++ take n buffer) ≡ stream ++ piece
within_limit total n buffer piece stream within size is =
    take_front most_bytes stream (take n buffer) (omega arith) ∙ ap (λ (k : ℕ). stream ++ take (most_bytes - k) (take n buffer)) size ∙ ap (λ (p : List ℕ). stream ++ p) (sym is)

-- a piece in which there is a fault, or for which memory ran out
pub stops_at : (stop : Stop) (total n : ℕ) (buffer piece : List ℕ) (left now next : Option (List ℕ)) (session : Capabilities) (r : ReaderState) (t : Rows) (messages eors : ℕ)
    → total ≤ most_bytes → piece ≡ take (most_bytes - total) (take n buffer) → TakesFront now next (take n buffer) → r.session ≡ session
    → ((stream : List ℕ) → HasChecked r t messages eors stream → IsPieceCause stop r.session (stream ++ piece))
    → IsBehind total left now r t messages eors → HasStopped stop session left next
stops_at stop total n buffer piece left now next session r t messages eors within is takes same feeds h =
    let limit = within_limit total n buffer piece h.stream within h.size is in
    let cause = subst (λ (z : Capabilities). IsPieceCause stop z (h.stream ++ piece)) same (feeds h.stream h.settled.checked) in
    record {
      read = h.stream ++ take n buffer;
      taken = TakesFront-more left now next h.stream (take n buffer) h.taken takes;
      cause = by_stop stop cause limit;
    }
  where
    by_stop : (s : Stop) → IsPieceCause s session (h.stream ++ piece) → take most_bytes (h.stream ++ take n buffer) ≡ h.stream ++ piece → IsCause s session (h.stream ++ take n buffer)
    by_stop (stops.Malformed cause offset) c limit = (c.0, subst (λ (s : List ℕ). IsFaultyAt session s c.0 cause offset) (sym limit) c.1)
    by_stop stops.NoMemory c limit = tt
    by_stop stops.TooLong c limit = absurd c
    by_stop stops.Read c limit = absurd c
    by_stop stops.Report c limit = absurd c

-- a piece with a byte past the limit
pub passes_limit : (total n : ℕ) (buffer piece : List ℕ) (left now next : Option (List ℕ)) (session : Capabilities) (r s : ReaderState) (t u : Rows) (messages eors more marks : ℕ)
    → total ≤ most_bytes → n ≤ length buffer → most_bytes - total < n → piece ≡ take (most_bytes - total) (take n buffer) → TakesFront now next (take n buffer) → s.session ≡ session
    → ((stream : List ℕ) → HasChecked r t messages eors stream → IsSettled s u more marks (stream ++ piece))
    → IsBehind total left now r t messages eors → HasStopped stops.TooLong session left next
passes_limit total n buffer piece left now next session r s t u messages eors more marks within fits past is takes same feeds h =
    let limit = within_limit total n buffer piece h.stream within h.size is in
    let settled = feeds h.stream h.settled.checked in
    let stream = settled_stream s u more marks (h.stream ++ piece) settled in
    record {
      read = h.stream ++ take n buffer;
      taken = TakesFront-more left now next h.stream (take n buffer) h.taken takes;
      cause = (
        omega (arith, length-append h.stream (take n buffer), length-take n buffer, h.size),
        settled.checked.given,
        s.left,
        subst (λ (p : List ℕ). IsStream session p settled.checked.given s.left) (sym limit) (subst (λ (z : Capabilities). IsStream z (h.stream ++ piece) settled.checked.given s.left) same stream),
      );
    }

pub not_read : (total : ℕ) (left now next : Option (List ℕ)) (session : Capabilities) (r : ReaderState) (t : Rows) (messages eors : ℕ) → total ≤ most_bytes → r.session ≡ session → next ≡ now
    → IsBehind total left now r t messages eors → HasStopped stops.Read session left next
not_read total left now next session r t messages eors within is same h = record {
  read = h.stream;
  taken = subst (λ (n : Option (List ℕ)). TakesFront left n h.stream) (sym same) h.taken;
  cause = (
    subst (λ (k : ℕ). k ≤ most_bytes) (sym h.size) within,
    h.settled.checked.given,
    r.left,
    subst (λ (z : Capabilities). IsStream z h.stream h.settled.checked.given r.left) is (settled_stream r t messages eors h.stream h.settled),
  );
}

pub reads_all : (total : ℕ) (left now next : Option (List ℕ)) (r : ReaderState) (t : Rows) (messages eors : ℕ) → total ≤ most_bytes → IsEnded now → TakesFront now next [] → IsBehind total left now r t messages eors → HasReadAll left next r t messages eors
reads_all total left now next r t messages eors within ended takes h = record {
  stream = h.stream;
  taken = subst (λ (s : List ℕ). TakesFront left next s) (append-nil h.stream) (TakesFront-more left now next h.stream [] h.taken takes);
  ended = ended_after now next ended takes;
  within = omega (arith, h.size);
  settled = h.settled;
}

-- the same where the table was brought up to date then
pub brought_up : (left next : Option (List ℕ)) (r s : ReaderState) (t u : Rows) (messages eors more marks : ℕ) → ((stream : List ℕ) → IsSettled r t messages eors stream → IsSettled s u more marks stream)
    → HasReadAll left next r t messages eors → HasReadAll left next s u more marks
brought_up left next r s t u messages eors more marks goes h = record { stream = h.stream; taken = h.taken; ended = h.ended; within = h.within; settled = goes h.stream h.settled }

pub ends_without : (total : ℕ) (left now next : Option (List ℕ)) (session : Capabilities) (r : ReaderState) (t : Rows) (messages eors : ℕ) → TakesFront now next [] → IsBehind total left now r t messages eors
    → HasStopped stops.NoMemory session left next
ends_without total left now next session r t messages eors takes h = record {
  read = h.stream;
  taken = subst (λ (s : List ℕ). TakesFront left next s) (append-nil h.stream) (TakesFront-more left now next h.stream [] h.taken takes);
  cause = tt;
}

pub begins_without : (left : Option (List ℕ)) (session : Capabilities) → HasStopped stops.NoMemory session left left
begins_without left session = record { read = []; taken = TakesFront-none left; cause = tt }

pub reads_no : (stop : Stop) (session : Capabilities) (stream : List ℕ) → IsPieceCause stop session stream → stop ≡ stops.Read → ⊥
reads_no stop session stream h e = subst (λ (s : Stop). IsPieceCause s session stream) e h

pub reports_no : (stop : Stop) (session : Capabilities) (stream : List ℕ) → IsPieceCause stop session stream → stop ≡ stops.Report → ⊥
reports_no stop session stream h e = subst (λ (s : Stop). IsPieceCause s session stream) e h
