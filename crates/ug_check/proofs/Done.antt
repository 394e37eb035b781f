-- A stream that was read whole, decoded.
use Rattle.std.proofs.Common.{◌≡◌, ℕ, List, [], ◌∷◌, ◌++◌, length, Option, refl, sym, ap, subst, ◌∙◌}
use Rattle.std.specs.List.{AllByRecursion}
use Rattle.std.specs.List.Sorted.{IsStrictlySortedBy}
use Rattle.std.specs.Map.{keys_of}
use Rattle.std.specs.declared.cmp.Ordering.TheVariants.{Less}
use Rattle.ug_types.specs.declared.key.Key.{Key}
use Rattle.ug_types.specs.declared.family.Family.{Family}
use Rattle.ug_types.specs.declared.family.Family.TheVariants.{V4, V6}
use Rattle.ug_types.specs.contracts.key.KeyOrd.TheImpl as key_ord
use Rattle.ug_types.specs.declared.capabilities.Capabilities.{Capabilities}
use Rattle.ug_update.specs.Readers.{ReaderState}
use Rattle.ug_check.specs.Rows.{Rows}
use Rattle.ug_types.specs.Orders.{key_cmp}
use Rattle.ug_check.specs.Decoded.{row_texts, totals_text, LeavesRows}
use Rattle.ug_check.specs.Checks.{IsDone}
use Rattle.ug_check.specs.Checkers.{HasReadAll, IsSettled}
use Rattle.ug_check.proofs.Streams.{settled_stream}

-- the derived order of keys is theirs
ordered : (f g : Family) (a b c d i j : ℕ) → key_ord.ghosts.cmp (record { prefix = record { family = f; bits = a; len = c }; id = i }) (record { prefix = record { family = g; bits = b; len = d }; id = j })
    ≡ key_cmp (record { prefix = record { family = f; bits = a; len = c }; id = i }) (record { prefix = record { family = g; bits = b; len = d }; id = j })
ordered V4 V4 a b c d i j = refl
ordered V6 V6 a b c d i j = refl
ordered V4 V6 a b c d i j = refl
ordered V6 V4 a b c d i j = refl

key_order : (k q : Key) → key_ord.ghosts.cmp k q ≡ key_cmp k q
key_order k q = ordered k.prefix.family q.prefix.family k.prefix.bits q.prefix.bits k.prefix.len q.prefix.len k.id q.id

all_above : (k : Key) (ks : List Key) → AllByRecursion (λ (q : Key). key_ord.ghosts.cmp k q ≡ Less) ks → AllByRecursion (λ (q : Key). key_cmp k q ≡ Less) ks
all_above k [] h = tt
all_above k (q ∷ ks) h = (sym (key_order k q) ∙ h.0, all_above k ks h.1)

in_order : (ks : List Key) → IsStrictlySortedBy key_ord.ghosts.cmp ks → IsStrictlySortedBy key_cmp ks
unfolding IsStrictlySortedBy
in_order [] h = tt
in_order (k ∷ ks) h = (all_above k ks h.0, in_order ks h.1)

done_in : (left now : Option (List ℕ)) (r : ReaderState) (t : Rows) (messages eors : ℕ) (reported : List (List ℕ) → Type 0)
    → IsStrictlySortedBy key_ord.ghosts.cmp (keys_of t.rows) → HasReadAll left now r t messages eors
    → reported (row_texts t.rows ++ totals_text messages eors (length t.rows) (length r.left) ∷ []) → IsDone r.session left now reported
done_in left now r t messages eors reported ascending h report =
    let k = h.settled.checked in
    record {
      read = h.stream;
      taken = h.taken;
      ended = h.ended;
      within = h.within;
      texts = k.texts;
      messages = k.given;
      rest = r.left;
      rows = t.rows;
      decoded = record {
        read = settled_stream r t messages eors h.stream h.settled;
        spelled = k.spelled;
        parts = k.parts;
        table = record { ascending = in_order (keys_of t.rows) ascending; each = k.rows };
      };
      report = subst reported
          (ap (λ (n : ℕ). row_texts t.rows ++ totals_text n eors (length t.rows) (length r.left) ∷ []) k.messages_are
          ∙ ap (λ (n : ℕ). row_texts t.rows ++ totals_text (length k.given) n (length t.rows) (length r.left) ∷ []) k.eors_are) report;
    }

pub done : (left now : Option (List ℕ)) (session : Capabilities) (r : ReaderState) (t : Rows) (messages eors : ℕ) (reported : List (List ℕ) → Type 0)
    → r.session ≡ session → IsStrictlySortedBy key_ord.ghosts.cmp (keys_of t.rows) → HasReadAll left now r t messages eors
    → reported (row_texts t.rows ++ totals_text messages eors (length t.rows) (length r.left) ∷ []) → IsDone session left now reported
done left now session r t messages eors reported same ascending h report = subst (λ (c : Capabilities). IsDone c left now reported) same (done_in left now r t messages eors reported ascending h report)

-- a stream that is there whole
pub rows_left : (session : Capabilities) (stream : List ℕ) (r : ReaderState) (t : Rows) (messages eors : ℕ) → r.session ≡ session → IsStrictlySortedBy key_ord.ghosts.cmp (keys_of t.rows)
    → IsSettled r t messages eors stream → LeavesRows session stream (length t.rows)
rows_left session stream r t messages eors same ascending h =
    let k = h.checked in
    subst (λ (c : Capabilities). LeavesRows c stream (length t.rows)) same (record {
      texts = k.texts;
      messages = k.given;
      rest = r.left;
      rows = t.rows;
      decoded = record { read = settled_stream r t messages eors stream h; spelled = k.spelled; parts = k.parts; table = record { ascending = in_order (keys_of t.rows) ascending; each = k.rows } };
      many = refl;
    })
