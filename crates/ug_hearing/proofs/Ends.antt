-- What the end of a session shows.
use Rattle.std.proofs.Common.{◌≡◌, ◌≢◌, ◌⊎◌, inl, inr, ℕ, zero, suc, ◌<◌, ◌≤◌, ◌==◌, Bool, true, false, List, [], ◌∷◌, ◌++◌, length, slice_get, Option, Some, None, refl, sym, ◌∙◌, ap, subst, arith}
use Rattle.std.specs.Prelude.{nat_lt, ◌&&◌, ◌||◌, not, if◌then◌else◌}
use Rattle.std.specs.declared.cmp.Ordering.TheVariants.{Equal, Greater}
use Rattle.std.specs.Option.{option_cmp}
use Rattle.std.specs.Ordering.{nat_cmp, ordering_then}
use Rattle.std.specs.Cmp.{nat_cmp_is}
use Rattle.std.proofs.lemmas.Bool.{cases_lt}
use Rattle.std.proofs.lemmas.Bool.Decides.{nat_tests}
use Rattle.std.proofs.lemmas.List.{append-nil}
use Rattle.ug_types.specs.declared.key.Key.{Key}
use Rattle.ug_types.specs.declared.mark.Mark.{Mark}
use Rattle.ug_types.specs.Messages.{Message}
use Rattle.ug_types.specs.Orders.{key_cmp}
use Rattle.ug_message.specs.Tables.{Table, table_of}
use Rattle.ug_hearing.specs.declared.breach.Ending.{Ending}
use Rattle.ug_hearing.specs.declared.breach.Ending.TheVariants.{Whole, Cut, Malformed}
use Rattle.ug_hearing.specs.declared.breach.Breach.{Breach}
use Rattle.ug_hearing.specs.declared.breach.BreachKind.{BreachKind}
use Rattle.ug_hearing.specs.declared.breach.BreachKind.TheVariants as kinds
use Rattle.ug_hearing.specs.Breaches.{AreAlike, IsOneOf, IsUnread, IsStuck, IsAmiss, IsShort, IsBreach, Unread, Stuck, Amiss, Short, Off, IsFirstBreach, IsHeardRight, breach_cmp, breach_of, kind_number}
use Rattle.ug_hearing.specs.declared.session.Session.{Session}
use Rattle.ug_hearing.specs.declared.judge.Judge.{Judge}
use Rattle.ug_hearing.specs.Judged.{table_in, last_table, IsSession, IsUpToMark, IsClear, IsMarked, IsFound}
use Rattle.ug_hearing.specs.Ended.{IsAnswer, is_short_of, is_amiss, is_unread, breach_at, found_in_end, IsOffBy, NoneOff, EndsShort, EndsOff, EndsUnread, IsEndOf}
use Rattle.ug_hearing.proofs.Places.{place-of, one-at}
use Rattle.ug_hearing.proofs.Judging.{by_message, by_kind, by_key, by_later, get_there, goes-up, not-stuck, not-amiss, same-there, differs-there, differs-as}

both : (a b : Bool) → (a && b) ≡ true → (a ≡ true) × (b ≡ true)
both true b e = (refl, e)
both false b e = absurd cc

is_false : (b : Bool) → not b ≡ true → b ≡ false
is_false true e = absurd cc
is_false false e = refl

less_is : (a b : ℕ) → nat_lt a b ≡ true → a < b
less_is a b e = grind (arith, nat_tests, e)

less_not : (a b : ℕ) → nat_lt a b ≡ false → b ≤ a
less_not a b e = grind (arith, nat_tests, e)

never : true ≡ false → ⊥
never e = cc

same_number : (a b : ℕ) → (a == b) ≡ true → a ≡ b
same_number a b e = grind (arith, nat_tests, e)

amiss_is : (k : BreachKind) → is_amiss k ≡ true → k ≡ kinds.Amiss
amiss_is kinds.Unread e = absurd cc
amiss_is kinds.Stuck e = absurd cc
amiss_is kinds.Amiss e = refl
amiss_is kinds.Off e = absurd cc

greater_message : (a b : Breach) → b.message < a.message → breach_cmp a b ≡ Greater
greater_message a b more =
    ap (λ o. ordering_then o (ordering_then (nat_cmp (kind_number a.kind) (kind_number b.kind)) (option_cmp key_cmp a.key b.key))) (sym (nat_cmp_is a.message b.message Greater more))

greater_kind : (a b : Breach) → a.message ≡ b.message → kind_number b.kind < kind_number a.kind → breach_cmp a b ≡ Greater
greater_kind a b same more =
    ap (λ o. ordering_then o (ordering_then (nat_cmp (kind_number a.kind) (kind_number b.kind)) (option_cmp key_cmp a.key b.key))) (sym (nat_cmp_is a.message b.message Equal same))
    ∙ ap (λ o. ordering_then o (option_cmp key_cmp a.key b.key)) (sym (nat_cmp_is (kind_number a.kind) (kind_number b.kind) Greater more))

unread_is : (ending : Ending) (lost : Bool) → is_unread ending lost ≡ true → IsUnread ending lost
unread_is Whole lost e = absurd cc
unread_is Cut lost e = is_false lost e
unread_is Malformed lost e = tt

read_is : (ending : Ending) (lost : Bool) → is_unread ending lost ≡ false → IsUnread ending lost → ⊥
read_is Whole lost e u = u
read_is Cut lost e u = never (sym (ap not u) ∙ e)
read_is Malformed lost e u = never e

module _ (session : Session) (past tables : List Table) (is : IsSession session past tables) (j : Judge) (ms : List Message) (ending : Ending) (count : j.messages ≡ length ms) where
  abbrev syncs : List Mark
  syncs = session.syncs.items

  abbrev Breached : Breach → Type 0
  Breached b = IsBreach past (table_in tables) syncs session.lost (last_table session tables) ms ending b

  abbrev Shorter : Type 0
  Shorter = IsShort past (table_in tables) syncs session.lost (last_table session tables) ms ending

  -- whether it ends before a mark, by the marks that were passed
  short_is : IsUpToMark syncs j.next (length ms) → is_short_of session j ≡ true → Shorter
  short_is marks e =
      let two = both (nat_lt j.next (length syncs)) (not session.lost) e in
      let at = get_there syncs j.next (less_is j.next (length syncs) two.0) in
      record { mark = at.0; among = one-at at.0 syncs j.next at.1; short = marks.ahead j.next at.0 at.1 (omega arith); whole = is_false session.lost two.1 }

  get_less : {X : Type 0} (xs : List X) (i : ℕ) (x : X) → slice_get xs i ≡ Some x → i < length xs
  get_less [] i x is = absurd cc
  get_less (y ∷ xs) zero x is = omega arith
  get_less (y ∷ xs) (suc i) x is = let rest = get_less xs i x is in omega arith

  not_short : IsUpToMark syncs j.next (length ms) → is_short_of session j ≡ false → Shorter → ⊥
  not_short marks e h = by (nat_lt j.next (length syncs)) session.lost refl refl
    where
      by : (a b : Bool) → nat_lt j.next (length syncs) ≡ a → session.lost ≡ b → ⊥
      by true true ea eb = never (sym eb ∙ h.whole)
      by true false ea eb = never (sym (ap (λ (x : Bool). x && not session.lost) ea ∙ ap (λ (x : Bool). true && not x) eb) ∙ e)
      by false b ea eb =
          let at = place-of h.mark syncs h.among in
          let far = less_not j.next (length syncs) ea in
          let less = get_less syncs at.0 h.mark at.1 in
          let few = marks.behind at.0 h.mark at.1 (omega arith) in
          let short = h.short in omega arith

  as_all : (b : Breach) → Breached b → IsBreach past (table_in tables) syncs session.lost (last_table session tables) (ms ++ []) ending b
  as_all b h = subst (λ (xs : List Message). IsBreach past (table_in tables) syncs session.lost (last_table session tables) xs ending b) (sym (append-nil ms)) h

  from_all : (b : Breach) → IsBreach past (table_in tables) syncs session.lost (last_table session tables) (ms ++ []) ending b → Breached b
  from_all b h = subst (λ (xs : List Message). IsBreach past (table_in tables) syncs session.lost (last_table session tables) xs ending b) (append-nil ms) h

  abbrev short_here : Breach
  short_here = breach_at j kinds.Amiss None

  -- ---- where a breach was found

  module _ (b : Breach) (found : IsFound session past tables b j.next ms) where
    -- it stays the first, but before one that the session is short
    first_or : (other : Breach) → Breached other → (Shorter → breach_cmp b (breach_of kinds.Amiss (length ms) None) ≢ Greater) → breach_cmp b other ≢ Greater
    first_or _ (Short s) h = h s
    first_or _ (Unread u) h = found.first [] ending _ (as_all _ (Unread u)) refl
    first_or _ (Stuck q n s) h = found.first [] ending _ (as_all _ (Stuck q n s)) refl
    first_or _ (Amiss q n s) h = found.first [] ending _ (as_all _ (Amiss q n s)) refl
    first_or _ (Off q s) h = found.first [] ending _ (as_all _ (Off q s)) refl

    -- a breach that isn't at the last message, or is of a key that is stuck, comes before it
    before_short : (k : BreachKind) → b.kind ≡ k → is_short_of session j && (is_amiss b.kind && (b.message == j.messages)) ≡ false → Shorter → breach_cmp b (breach_of kinds.Amiss (length ms) None) ≢ Greater
    before_short kinds.Unread e isnt s = absurd (subst (λ (x : BreachKind). IsMarked x syncs j.next b.message) e found.marks)
    before_short kinds.Off e isnt s = absurd (subst (λ (x : BreachKind). IsMarked x syncs j.next b.message) e found.marks)
    before_short kinds.Stuck e isnt s = by_later b (breach_of kinds.Amiss (length ms) None) found.early (let k : kind_number b.kind ≡ 2 = ap kind_number e in omega arith)
    before_short kinds.Amiss e isnt s =
        elim (cases_lt b.message (length ms)) [
          | inl less ↦ by_message b (breach_of kinds.Amiss (length ms) None) less
          | inr far ↦
              (let early = found.early in
              let last : b.message ≡ length ms = omega arith in
              let marks : IsUpToMark syncs j.next (length ms) = subst (λ k. IsUpToMark syncs j.next k) last (subst (λ (x : BreachKind). IsMarked x syncs j.next b.message) e found.marks) in
              let here : (b.message == j.messages) ≡ true = (let same : b.message ≡ j.messages = last ∙ sym count in grind (arith, nat_tests, same)) in
              let short : is_short_of session j ≡ false = last_of (is_short_of session j) (is_amiss b.kind) (b.message == j.messages) (ap is_amiss e) here isnt in
              absurd (not_short marks short s))
        ]
      where
        last_of : (a b c : Bool) → b ≡ true → c ≡ true → (a && (b && c)) ≡ false → a ≡ false
        last_of true true true eb ec e = absurd cc
        last_of true true false eb ec e = absurd cc
        last_of true false c eb ec e = absurd cc
        last_of false b c eb ec e = refl

    short_before : b.kind ≡ kinds.Amiss → b.message ≡ length ms → (other : Breach) → Breached other → breach_cmp (breach_of kinds.Amiss (length ms) None) other ≢ Greater
    short_before kind message _ (Unread u) = by_message (breach_of kinds.Amiss (length ms) None) (breach_of kinds.Unread (suc (length ms)) None) (omega arith)
    short_before kind message _ (Stuck q n h) = absurd (by (cases_lt (suc n) (length ms)))
      where
        after : breach_cmp b (breach_of kinds.Stuck (suc n) (Some q)) ≢ Greater
        after = found.first [] ending _ (as_all _ (Stuck q n h)) refl

        by : (suc n < length ms) ⊎ (length ms ≤ suc n) → ⊥
        by (inl less) = after (greater_message b (breach_of kinds.Stuck (suc n) (Some q)) (omega arith))
        by (inr far) = let there = h.there in after (greater_kind b (breach_of kinds.Stuck (suc n) (Some q)) (omega arith) (let k : kind_number b.kind ≡ 3 = ap kind_number kind in omega arith))
    short_before kind message _ (Amiss q n h) = by (cases_lt n (length ms))
      where
        by : (n < length ms) ⊎ (length ms ≤ n) → breach_cmp (breach_of kinds.Amiss (length ms) None) (breach_of kinds.Amiss n (Some q)) ≢ Greater
        by (inl less) = absurd (found.first [] ending _ (as_all _ (Amiss q n h)) refl (greater_message b (breach_of kinds.Amiss n (Some q)) (omega arith)))
        by (inr far) = let within = h.within in by_key (breach_of kinds.Amiss (length ms) None) (breach_of kinds.Amiss n (Some q)) (omega arith) refl (λ e. absurd cc)
    short_before kind message _ (Short h) = by_key (breach_of kinds.Amiss (length ms) None) (breach_of kinds.Amiss (length ms) None) refl refl (λ e. absurd cc)
    short_before kind message _ (Off q h) = by_kind (breach_of kinds.Amiss (length ms) None) (breach_of kinds.Off (length ms) (Some q)) refl (omega arith)

    pub found-ends : (r : Breach) → r ≡ found_in_end session j b → IsFirstBreach past (table_in tables) syncs session.lost (last_table session tables) ms ending r
    found-ends r e = by (is_short_of session j && (is_amiss b.kind && (b.message == j.messages))) refl
      where
        by : (x : Bool) → is_short_of session j && (is_amiss b.kind && (b.message == j.messages)) ≡ x → IsFirstBreach past (table_in tables) syncs session.lost (last_table session tables) ms ending r
        by true is =
            let two = both (is_short_of session j) (is_amiss b.kind && (b.message == j.messages)) is in
            let three = both (is_amiss b.kind) (b.message == j.messages) two.1 in
            let kind = amiss_is b.kind three.0 in
            let message : b.message ≡ length ms = same_number b.message j.messages three.1 ∙ count in
            let marks : IsUpToMark syncs j.next (length ms) = subst (λ k. IsUpToMark syncs j.next k) message (subst (λ (x : BreachKind). IsMarked x syncs j.next b.message) kind found.marks) in
            subst (λ (y : Breach). IsFirstBreach past (table_in tables) syncs session.lost (last_table session tables) ms ending y) (sym (e ∙ (ap (λ (x : Bool). if x then short_here else b) is ∙ ap (λ k. breach_of kinds.Amiss k None) count)))
            (record { is = Short (short_is marks two.0); first = short_before kind message })
        by false is =
            subst (λ (y : Breach). IsFirstBreach past (table_in tables) syncs session.lost (last_table session tables) ms ending y) (sym (e ∙ ap (λ (x : Bool). if x then short_here else b) is))
            (record { is = from_all b (found.is [] ending); first = λ other breach. first_or other breach (before_short b.kind refl is) })

  -- ---- where none was

  module _ (clear : IsClear session past tables j ms) where
    no_stuck : (q : Key) (n : ℕ) → IsStuck past (table_in tables) syncs session.lost (last_table session tables) ms ending q n → ⊥
    no_stuck q n h = let there = h.there in
        not-stuck session past tables is ms (goes-up session past tables is j.hearing.standings j.hearing.refreshing ms clear.heard) [] ending q n
        (subst (λ (xs : List Message). IsStuck past (table_in tables) syncs session.lost (last_table session tables) xs ending q n) (sym (append-nil ms)) h) (omega arith)

    no_amiss : (q : Key) (n : ℕ) → IsAmiss past (table_in tables) syncs session.lost (last_table session tables) ms ending q n → ⊥
    no_amiss q n h =
        not-amiss session past tables is ms clear.whole [] ending q n (subst (λ (xs : List Message). IsAmiss past (table_in tables) syncs session.lost (last_table session tables) xs ending q n) (sym (append-nil ms)) h) h.within

    last_by : (o : Bool) (table : Table) → session.is_open ≡ o → last_table session tables ≡ Some table → (o ≡ true) × (slice_get tables session.last ≡ Some table)
    last_by true table e h = (refl, sym (ap (λ (x : Bool). if x then slice_get tables session.last else None) e) ∙ h)
    last_by false table e h = absurd (let f : None ≡ Some table = sym (ap (λ (x : Bool). if x then slice_get tables session.last else None) e) ∙ h in cc)

    asked : (table : Table) → last_table session tables ≡ Some table → session.lost ≡ false → (session.lost || not session.is_open) ≡ false
    asked table h whole = ap (λ (x : Bool). x || not session.is_open) whole ∙ ap not (last_by session.is_open table refl h).0

    no_off : NoneOff session j → (table : Table) → last_table session tables ≡ Some table → session.lost ≡ false → AreAlike (table_of ms) table
    no_off none table h whole key =
        same-there session past tables is j.hearing.standings j.hearing.refreshing ms clear.heard session.last table (last_by session.is_open table refl h).1 key (none (asked table h whole) key)

    off_table : (session.lost || not session.is_open) ≡ false → (table : Table) × (last_table session tables ≡ Some table) × (session.lost ≡ false) × (slice_get tables session.last ≡ Some table)
    off_table e = by session.lost session.is_open refl refl
      where
        by : (l o : Bool) → session.lost ≡ l → session.is_open ≡ o → (table : Table) × (last_table session tables ≡ Some table) × (session.lost ≡ false) × (slice_get tables session.last ≡ Some table)
        by true o el eo = absurd (never (sym (ap (λ (x : Bool). x || not session.is_open) el) ∙ e))
        by false false el eo = absurd (never (sym (ap (λ (x : Bool). x || not session.is_open) el ∙ ap not eo) ∙ e))
        by false true el eo =
            let there = get_there tables session.last is.last in
            (there.0, ap (λ (x : Bool). if x then slice_get tables session.last else None) eo ∙ there.1, el, there.1)

    right : is_short_of session j ≡ false → NoneOff session j → is_unread ending session.lost ≡ false → IsHeardRight past (table_in tables) syncs session.lost (last_table session tables) ms ending
    right short none read = record {
      read = read_is ending session.lost read;
      never_back = goes-up session past tables is j.hearing.standings j.hearing.refreshing ms clear.heard;
      synced = λ m among. elim (cases_lt (length ms) m.handed) [
        | inl more ↦ inr (more, lost_by m among more session.lost refl)
        | inr few ↦
            (let at = place-of m syncs among in
            let there = get_there tables m.version (is.versions at.0 m at.1) in
            inl (record { within = few; table = there.0; of_version = there.1; whole = clear.whole at.0 m there.0 at.1 few there.1 }))
      ];
      end = no_off none;
    }
      where
        lost_by : (m : Mark) → IsOneOf m syncs → length ms < m.handed → (l : Bool) → session.lost ≡ l → session.lost ≡ true
        lost_by m among more true e = e
        lost_by m among more false e = absurd (not_short clear.marks short (record { mark = m; among = among; short = more; whole = e }))

    short_first : (other : Breach) → Breached other → breach_cmp (breach_of kinds.Amiss (length ms) None) other ≢ Greater
    short_first _ (Unread u) = by_message (breach_of kinds.Amiss (length ms) None) (breach_of kinds.Unread (suc (length ms)) None) (omega arith)
    short_first _ (Stuck q n h) = absurd (no_stuck q n h)
    short_first _ (Amiss q n h) = absurd (no_amiss q n h)
    short_first _ (Short h) = by_key (breach_of kinds.Amiss (length ms) None) (breach_of kinds.Amiss (length ms) None) refl refl (λ e. absurd cc)
    short_first _ (Off q h) = by_kind (breach_of kinds.Amiss (length ms) None) (breach_of kinds.Off (length ms) (Some q)) refl (omega arith)

    off_first : (key : Key) → is_short_of session j ≡ false → IsOffBy session j (Some key) → (other : Breach) → Breached other → breach_cmp (breach_of kinds.Off (length ms) (Some key)) other ≢ Greater
    off_first key short off _ (Unread u) = by_message (breach_of kinds.Off (length ms) (Some key)) (breach_of kinds.Unread (suc (length ms)) None) (omega arith)
    off_first key short off _ (Stuck q n h) = absurd (no_stuck q n h)
    off_first key short off _ (Amiss q n h) = absurd (no_amiss q n h)
    off_first key short off _ (Short h) = absurd (not_short clear.marks short h)
    off_first key short off _ (Off q h) =
        by_key (breach_of kinds.Off (length ms) (Some key)) (breach_of kinds.Off (length ms) (Some q)) refl refl
        (off.2 q (differs-there session past tables is j.hearing.standings j.hearing.refreshing ms clear.heard session.last h.table (last_by session.is_open h.table refl h.is_open).1 q h.differs))

    unread_first : is_short_of session j ≡ false → NoneOff session j → (other : Breach) → Breached other → breach_cmp (breach_of kinds.Unread (suc (length ms)) None) other ≢ Greater
    unread_first short none _ (Unread u) = by_key (breach_of kinds.Unread (suc (length ms)) None) (breach_of kinds.Unread (suc (length ms)) None) refl refl (λ e. absurd cc)
    unread_first short none _ (Stuck q n h) = absurd (no_stuck q n h)
    unread_first short none _ (Amiss q n h) = absurd (no_amiss q n h)
    unread_first short none _ (Short h) = absurd (not_short clear.marks short h)
    unread_first short none _ (Off q h) = absurd (h.differs (no_off none h.table h.is_open h.whole q))

    abbrev First : Breach → Type 0
    First b = IsFirstBreach past (table_in tables) syncs session.lost (last_table session tables) ms ending b

    pub clear-ends : j.messages < 18446744073709551615 → (o : Option Breach) → IsEndOf session j ending o → IsAnswer session past tables ms ending o
    clear-ends room None h = right h.0 h.1 h.2
    clear-ends room (Some _) (EndsShort e) =
        subst (λ k. First (breach_of kinds.Amiss k None)) (sym count) (record { is = Short (short_is clear.marks e); first = short_first })
    clear-ends room (Some _) (EndsOff key short off) =
        let there = off_table off.0 in
        subst (λ k. First (breach_of kinds.Off k (Some key))) (sym count)
        (record {
          is = Off key (record { table = there.0; is_open = there.1; whole = there.2; differs = differs-as session past tables is j.hearing.standings j.hearing.refreshing ms clear.heard session.last there.0 there.3 key off.1 });
          first = off_first key short off;
        })
    clear-ends room (Some _) (EndsUnread message short none unread next) =
        let number : suc (length ms) ≡ message = (let n = next room in omega arith) in
        subst (λ k. First (breach_of kinds.Unread k None)) number (record { is = Unread (unread_is ending session.lost unread); first = unread_first short none })
