-- The lines of a file of events within its limits.
use Rattle.std.proofs.Common.{◌≡◌, ℕ, ◌<◌, ◌≤◌, Bool, true, false, leb, inl, inr, List, [], ◌++◌, map, length, take, refl, ◌∙◌, ap, arith}
use Rattle.std.proofs.lemmas.Bool.{leb-true, leb-false, le-leb}
use Rattle.std.proofs.lemmas.List.{length-append, take_all}
use Rattle.ug_pieces.specs.Lines.{ended_from, rest_from, where_some, lines_of}
use Rattle.ug_events.specs.Grammar.{line_of}
use Rattle.ug_event_loop.specs.declared.grammar.Grammar.TheVariants.{Every}
use Rattle.ug_event_loop.specs.Standing.{said_by}
use Rattle.ug_event_loop.specs.Files.{lines_within, lines_read, IsPastLimits, most_bytes, most_lines}
use Rattle.ug_audit_rules.specs.Lines.{said_in}

-- where there are not more there are at most so many
at_most : (a b : ℕ) → (b < a → ⊥) → a ≤ b
at_most a b never = by (leb a b) refl
  where
    by : (t : Bool) → leb a b ≡ t → a ≤ b
    by true is = leb-true a b is
    by false is = absurd (never (leb-false a b is))

module _ (read : List ℕ) (kept : IsPastLimits read → ⊥) where
  pub few-bytes : length read ≤ most_bytes
  few-bytes = at_most (length read) most_bytes (λ past. kept (inl past))

  pub few-lines : length (lines_of read) ≤ most_lines
  few-lines =
      let size = length-append (ended_from [] read) (where_some (rest_from [] read)) in
      at_most (length (lines_of read)) most_lines (λ past. kept (inr (omega arith)))

  -- all of them are read
  all_read : lines_read true read ≡ lines_of read
  all_read =
      let whole : take most_bytes read ≡ read = take_all most_bytes read few-bytes in
      let same : lines_within most_bytes true read ≡ lines_of read =
      rw (le-leb (length read) most_bytes few-bytes) (ap (λ (bytes : List ℕ). ended_from [] bytes ++ where_some (rest_from [] read)) whole)
      in
      ap (take most_lines) same ∙ take_all most_lines (lines_of read) few-lines

  pub lines-are : map (said_by Every) (lines_read true read) ≡ said_in read
  lines-are = ap (map line_of) all_read
