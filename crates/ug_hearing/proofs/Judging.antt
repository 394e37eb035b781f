-- What is known of a session after one message more.
use Rattle.std.proofs.Common.{◌≡◌, ◌≢◌, inl, inr, ℕ, zero, suc, ◌<◌, ◌≤◌, Bool, true, false, List, [], ◌∷◌, ◌++◌, length, take, slice_get, Option, Some, None, refl, sym, ◌∙◌, ap, subst, arith, length-append, append_assoc}
use Rattle.std.specs.Prelude.{nat_lt, if◌then◌else◌}
use Rattle.std.specs.Option.{option_map, option_cmp}
use Rattle.std.specs.declared.cmp.Ordering.TheVariants.{Less, Equal, Greater}
use Rattle.std.specs.Ordering.{nat_cmp, ordering_then}
use Rattle.std.specs.Cmp.{nat_cmp_is}
use Rattle.std.proofs.lemmas.Bool.{cases_lt, cases_order}
use Rattle.std.proofs.lemmas.Bool.Decides.{nat_tests}
use Rattle.std.proofs.lemmas.Option.{slice_get-map}
use Rattle.std.proofs.lemmas.List.{take-append-le, map-append, length-map}
use Rattle.ug_types.specs.declared.key.Key.{Key}
use Rattle.ug_types.specs.declared.mark.Mark.{Mark}
use Rattle.ug_types.specs.Messages.{Message}
use Rattle.ug_types.specs.Orders.{key_cmp}
use Rattle.ug_message.specs.Tables.{Table, Reading, nothing_read, applied, reading_from, tables_from, tables_after, table_of, among}
use Rattle.ug_message.specs.Climbing.{ClimbsFrom, values_at}
use Rattle.ug_message.specs.ClimbingLaws.{ClimbsFrom-places}
use Rattle.ug_hearing.specs.declared.change.Change.{Change}
use Rattle.ug_hearing.specs.Pasts.{Value, value_of, value_before, IsToldBy}
use Rattle.ug_hearing.specs.declared.breach.Ending.{Ending}
use Rattle.ug_hearing.specs.declared.breach.Breach.{Breach}
use Rattle.ug_hearing.specs.declared.breach.BreachKind.TheVariants as kinds
use Rattle.ug_hearing.specs.Breaches.{AreAlike, IsStuck, IsAmiss, IsBreach, Unread, Stuck, Amiss, Short, Off, breach_cmp, breach_of, kind_number}
use Rattle.ug_hearing.specs.declared.standings.Standings.{Standings}
use Rattle.ug_hearing.specs.Courses.{changes_of, passed, value_in}
use Rattle.ug_hearing.specs.Heard.{IsHeard, IsTaken}
use Rattle.ug_hearing.proofs.Taking.{shown, climbs}
use Rattle.ug_hearing.proofs.Tables.{values-count}
use Rattle.ug_hearing.specs.declared.session.Session.{Session}
use Rattle.ug_hearing.specs.Least.{IsLeastOf}
use Rattle.ug_hearing.specs.Differences.{IsSame, Differs}
use Rattle.ug_hearing.specs.Marked.{IsMarkIn, IsWorst, AreMarksOf}
use Rattle.ug_hearing.specs.Judged.{table_in, last_table, IsSession, IsUpToMark, AreWhole, is_short, IsFound}
use Rattle.ug_hearing.proofs.Places.{place-of, one-at, passed-marks}

-- ---- the value of a version

abbrev after : Value → ℕ → List Change → Value
after v zero cs = v
after v (suc k) cs = value_of (slice_get cs k)

after_next : (v : Value) (c : Change) (cs : List Change) (k : ℕ) → after c.value k cs ≡ after v (suc k) (c ∷ cs)
after_next v c cs zero = refl
after_next v c cs (suc k) = refl

told_at : (xs : List Value) (from : ℕ) (v : Value) (cs : List Change) (n : ℕ) → IsToldBy xs from v cs → from ≤ n → n < length xs → slice_get xs n ≡ Some (after v (passed n cs) cs)
unfolding passed
told_at xs from v [] n h low less = h.1 n low less
told_at xs from v (c ∷ cs) n h low less = by (nat_lt n c.place) refl (λ far. told_at xs c.place c.value cs n h.2 far less)
  where
    by : (b : Bool) → nat_lt n c.place ≡ b → (c.place ≤ n → slice_get xs n ≡ Some (after c.value (passed n cs) cs)) → slice_get xs n ≡ Some (after v (if b then 0 else suc (passed n cs)) (c ∷ cs))
    by true is rest = h.1 n low (grind (arith, nat_tests, is))
    by false is rest = rest (grind (arith, nat_tests, is)) ∙ ap Some (after_next v c cs (passed n cs))

before_is : (n : ℕ) (cs : List Change) → after None n cs ≡ value_before n cs
before_is zero cs = refl
before_is (suc n) cs = refl

some_same : {X : Type 0} (a b : X) → Some a ≡ Some b → a ≡ b
some_same a b e = cc

get_less : {X : Type 0} (xs : List X) (i : ℕ) (x : X) → slice_get xs i ≡ Some x → i < length xs
get_less [] i x is = absurd cc
get_less (y ∷ xs) zero x is = omega arith
get_less (y ∷ xs) (suc i) x is = let rest = get_less xs i x is in omega arith

pub get_there : {X : Type 0} (xs : List X) (i : ℕ) → i < length xs → (x : X) × (slice_get xs i ≡ Some x)
get_there [] i less = absurd (omega arith)
get_there (y ∷ xs) zero less = (y, refl)
get_there (y ∷ xs) (suc i) less = get_there xs i (omega arith)

-- ---- a stream that goes on

tables_more : (r : Reading) (ms more : List Message) → tables_from r (ms ++ more) ≡ tables_from r ms ++ tables_from (reading_from r ms) more
tables_more r [] more = refl
tables_more r (m ∷ ms) more = ap (λ (ts : List Table). (applied r m).table ∷ ts) (tables_more (applied r m) ms more)

vals : Key → List Message → List Value
vals key ms = values_at key (tables_after ms)

take_vals : (key : Key) (ms more : List Message) (k : ℕ) → k ≤ length ms → take k (values_at key (tables_after (ms ++ more))) ≡ take k (values_at key (tables_after ms))
take_vals key ms more k few =
    let size = values-count key ms in
    ap (λ (ts : List Table). take k (values_at key ts)) (tables_more nothing_read ms more)
    ∙ (ap (λ (xs : List Value). take k xs) (map-append (λ (t : Table). t key) (tables_after ms) (tables_from (reading_from nothing_read ms) more))
    ∙ take-append-le k (values_at key (tables_after ms)) (values_at key (tables_from (reading_from nothing_read ms) more)) (omega arith))

take_all : {X : Type 0} (xs : List X) (k : ℕ) → k ≡ length xs → take k xs ≡ xs
take_all [] zero is = refl
take_all [] (suc k) is = absurd (omega arith)
take_all (x ∷ xs) zero is = absurd (omega arith)
take_all {X} (x ∷ xs) (suc k) is = ap (λ (ys : List X). x ∷ ys) (take_all xs k (omega arith))

all_vals : (key : Key) (ms more : List Message) → take (length ms) (values_at key (tables_after (ms ++ more))) ≡ values_at key (tables_after ms)
all_vals key ms more = take_vals key ms more (length ms) (omega arith) ∙ take_all (values_at key (tables_after ms)) (length ms) (sym (values-count key ms))

climbs_front : {V : Type 0} (past vs : List V) (from m : ℕ) → ClimbsFrom past from vs → ClimbsFrom past from (take m vs)
climbs_front past [] from zero h = tt
climbs_front past [] from (suc m) h = tt
climbs_front past (v ∷ vs) from zero h = tt
climbs_front past (v ∷ vs) from (suc m) h = (h.0, h.1, climbs_front past vs h.0 m h.2)

longer : (ms more : List Message) → length ms ≤ length (ms ++ more)
longer ms more = let size = length-append ms more in omega arith

-- ---- the order of breaches

nat_less : (a b : ℕ) → a < b → nat_cmp a b ≡ Less
nat_less a b less = sym (nat_cmp_is a b Less less)

nat_same : (a b : ℕ) → a ≡ b → nat_cmp a b ≡ Equal
nat_same a b same = sym (nat_cmp_is a b Equal same)

less_not : Less ≢ Greater
less_not e = cc

pub by_message : (a b : Breach) → a.message < b.message → breach_cmp a b ≢ Greater
by_message a b less is =
    less_not (sym (ap (λ o. ordering_then o (ordering_then (nat_cmp (kind_number a.kind) (kind_number b.kind)) (option_cmp key_cmp a.key b.key))) (nat_less a.message b.message less)) ∙ is)

pub by_kind : (a b : Breach) → a.message ≡ b.message → kind_number a.kind < kind_number b.kind → breach_cmp a b ≢ Greater
by_kind a b same less is =
    less_not (sym (ap (λ o. ordering_then o (ordering_then (nat_cmp (kind_number a.kind) (kind_number b.kind)) (option_cmp key_cmp a.key b.key))) (nat_same a.message b.message same)
    ∙ ap (λ o. ordering_then o (option_cmp key_cmp a.key b.key)) (nat_less (kind_number a.kind) (kind_number b.kind) less)) ∙ is)

pub by_key : (a b : Breach) → a.message ≡ b.message → kind_number a.kind ≡ kind_number b.kind → option_cmp key_cmp a.key b.key ≢ Greater → breach_cmp a b ≢ Greater
by_key a b same kind least is =
    least (sym (ap (λ o. ordering_then o (ordering_then (nat_cmp (kind_number a.kind) (kind_number b.kind)) (option_cmp key_cmp a.key b.key))) (nat_same a.message b.message same)
    ∙ ap (λ o. ordering_then o (option_cmp key_cmp a.key b.key)) (nat_same (kind_number a.kind) (kind_number b.kind) kind)) ∙ is)

-- from messages that come no sooner, and a kind that doesn't
pub by_later : (a b : Breach) → a.message ≤ b.message → kind_number a.kind < kind_number b.kind → breach_cmp a b ≢ Greater
by_later a b low kind = elim (cases_lt a.message b.message) [ inl less ↦ by_message a b less | inr far ↦ by_kind a b (omega arith) kind ]

module _ (session : Session) (past tables : List Table) (is : IsSession session past tables) where
  abbrev entries : List (Key × List Change)
  entries = session.course.changes

  abbrev from : ℕ
  from = session.course.from

  abbrev to : ℕ
  to = session.course.to

  abbrev syncs : List Mark
  syncs = session.syncs.items

  abbrev Breached : List Message → Ending → Breach → Type 0
  Breached ms ending b = IsBreach past (table_in tables) syncs session.lost (last_table session tables) ms ending b

  -- a table has the values of its version
  pub table-value : (version : ℕ) (table : Table) → slice_get tables version ≡ Some table → (key : Key) → table key ≡ value_in version (changes_of entries key)
  table-value version table there key =
      let less = get_less tables version table there in
      let size = length-map tables (λ (t : Table). t key) in
      let told = told_at (values_at key tables) 0 None (changes_of entries key) version (is.course.told key) (omega arith) (omega arith) in
      let here : slice_get (values_at key tables) version ≡ Some (table key) = slice_get-map (λ (t : Table). t key) tables version ∙ ap (λ (o : Option Table). option_map (λ (t : Table). t key) o) there in
      some_same (table key) (value_in version (changes_of entries key)) (sym here ∙ (told ∙ ap Some (before_is (passed version (changes_of entries key)) (changes_of entries key))))

  -- a row beside the table of a version
  pub same-there : (st : Standings) (refreshing : Bool) (ms : List Message) → IsHeard entries from to past tables st refreshing ms → (version : ℕ) (table : Table) → slice_get tables version ≡ Some table → (key : Key)
      → IsSame st.rows entries from version key → table_of ms key ≡ table key
  same-there st refreshing ms heard version table there key same =
      sym (shown entries from to past tables is.course st key ms (heard.rows key)) ∙ (same ∙ sym (table-value version table there key))

  pub differs-there : (st : Standings) (refreshing : Bool) (ms : List Message) → IsHeard entries from to past tables st refreshing ms → (version : ℕ) (table : Table) → slice_get tables version ≡ Some table → (key : Key)
      → table_of ms key ≢ table key → Differs st.rows entries from version key
  differs-there st refreshing ms heard version table there key differs same = differs (same-there st refreshing ms heard version table there key same)

  pub differs-as : (st : Standings) (refreshing : Bool) (ms : List Message) → IsHeard entries from to past tables st refreshing ms → (version : ℕ) (table : Table) → slice_get tables version ≡ Some table → (key : Key)
      → Differs st.rows entries from version key → table_of ms key ≢ table key
  differs-as st refreshing ms heard version table there key differs same =
      differs (shown entries from to past tables is.course st key ms (heard.rows key) ∙ (same ∙ table-value version table there key))

  pub goes-up : (st : Standings) (refreshing : Bool) (ms : List Message) → IsHeard entries from to past tables st refreshing ms → (key : Key) → ClimbsFrom (values_at key past) 0 (values_at key (tables_after ms))
  goes-up st refreshing ms heard key = let row = heard.rows key in ClimbsFrom-places (values_at key (tables_after ms)) (values_at key past) 0 row.places row.climb

  -- what so many messages have shown: no key is stuck in them, and the marks of fewer than a number are whole
  module _ (ms : List Message) (climb : (key : Key) → ClimbsFrom (values_at key past) 0 (values_at key (tables_after ms))) where
    pub not-stuck : (more : List Message) (ending : Ending) (key : Key) (m : ℕ) → IsStuck past (table_in tables) syncs session.lost (last_table session tables) (ms ++ more) ending key m → suc m ≤ length ms → ⊥
    not-stuck more ending key m h few =
        h.stuck (subst (λ (xs : List Value). ClimbsFrom (values_at key past) 0 xs) (sym (take_vals key ms more (suc m) few))
        (climbs_front (values_at key past) (values_at key (tables_after ms)) 0 (suc m) (climb key)))

  pub not-amiss : (ms : List Message) → AreWhole tables syncs ms → (more : List Message) (ending : Ending) (key : Key) (m : ℕ) → IsAmiss past (table_in tables) syncs session.lost (last_table session tables) (ms ++ more) ending key m → m ≤ length ms
      → ⊥
  not-amiss ms whole more ending key m h few =
      let at = place-of h.mark syncs h.among in
      let handed = h.handed in
      let alike = whole at.0 h.mark h.table at.1 (omega arith) h.of_version key in
      let same : take m (ms ++ more) ≡ take h.mark.handed ms = take-append-le m ms more few ∙ ap (λ k. take k ms) (sym handed) in
      h.differs (ap (λ (xs : List Message). table_of xs key) same ∙ alike)

  -- ---- a key is stuck

  module _ (ms : List Message) (m : Message) (old st : Standings) (was refreshing : Bool) (failed : List Key) (key : Key) (heard : IsHeard entries from to past tables old was ms) (whole : AreWhole tables syncs ms)
      (taken : IsTaken entries from to past tables failed st refreshing (ms ++ m ∷ [])) (least : IsLeastOf failed (Some key)) where
    abbrev stuck_here : Breach
    stuck_here = record { kind = kinds.Stuck; message = suc (length ms); key = Some key }

    size : length (ms ++ m ∷ []) ≡ suc (length ms)
    size = length-append ms (m ∷ []) ∙ omega arith

    stuck_is : (more : List Message) (ending : Ending) → Breached ((ms ++ m ∷ []) ++ more) ending stuck_here
    stuck_is more ending =
        let all = append_assoc ms (m ∷ []) more in
        Stuck key (length ms) (record {
          before =
              subst (λ (xs : List Message). ClimbsFrom (values_at key past) 0 (take (length ms) (values_at key (tables_after xs)))) (sym all)
              (subst (λ (xs : List Value). ClimbsFrom (values_at key past) 0 xs) (sym (all_vals key ms (m ∷ more))) (goes-up old was ms heard key));
          stuck = λ climb.
              taken.fails key least.0
              (subst (λ (xs : List Value). ClimbsFrom (values_at key past) 0 xs) (ap (λ k. take k (values_at key (tables_after ((ms ++ m ∷ []) ++ more)))) (sym size) ∙ all_vals key (ms ++ m ∷ []) more) climb);
          there = let longer' = longer (ms ++ m ∷ []) more in let s = size in omega arith;
        })

    -- a key that is stuck at this message is among those that failed
    fails_too : (more : List Message) (ending : Ending) (q : Key) → IsStuck past (table_in tables) syncs session.lost (last_table session tables) ((ms ++ m ∷ []) ++ more) ending q (length ms) → among failed q ≡ true
    fails_too more ending q h = by (among failed q) refl
      where
        by : (b : Bool) → among failed q ≡ b → among failed q ≡ true
        by true e = e
        by false e =
            absurd (climbs entries from to past tables is.course st q (values_at q (tables_after (ms ++ m ∷ []))) (taken.others q e)
            (λ climb. h.stuck (subst (λ (xs : List Value). ClimbsFrom (values_at q past) 0 xs) (sym (ap (λ k. take k (values_at q (tables_after ((ms ++ m ∷ []) ++ more)))) (sym size) ∙ all_vals q (ms ++ m ∷ []) more)) climb)))

    stuck_first : (more : List Message) (ending : Ending) (other : Breach) → Breached ((ms ++ m ∷ []) ++ more) ending other → is_short other ≡ false → breach_cmp stuck_here other ≢ Greater
    stuck_first more ending _ (Unread u) long = by_message stuck_here (breach_of kinds.Unread (suc (length ((ms ++ m ∷ []) ++ more))) None) (let l = longer (ms ++ m ∷ []) more in let s = size in omega arith)
    stuck_first more ending _ (Stuck q n h) long =
        elim (cases_order n (length ms)) [
          | inl same ↦
              by_key stuck_here (breach_of kinds.Stuck (suc n) (Some q)) (omega (arith, same)) refl
              (least.1 q (fails_too more ending q (subst (λ k. IsStuck past (table_in tables) syncs session.lost (last_table session tables) ((ms ++ m ∷ []) ++ more) ending q k) same h)))
          | inr apart ↦ elim apart [
            | inl sooner ↦
                absurd (not-stuck ms (goes-up old was ms heard) (m ∷ more) ending q n
                (subst (λ (xs : List Message). IsStuck past (table_in tables) syncs session.lost (last_table session tables) xs ending q n) (append_assoc ms (m ∷ []) more) h) (omega arith))
            | inr later ↦ by_message stuck_here (breach_of kinds.Stuck (suc n) (Some q)) (omega arith)
          ]
        ]
    stuck_first more ending _ (Amiss q n h) long =
        elim (cases_lt (length ms) n) [
          | inl later ↦ by_later stuck_here (breach_of kinds.Amiss n (Some q)) (omega arith) (omega arith)
          | inr sooner ↦
              absurd (not-amiss ms whole (m ∷ more) ending q n
              (subst (λ (xs : List Message). IsAmiss past (table_in tables) syncs session.lost (last_table session tables) xs ending q n) (append_assoc ms (m ∷ []) more) h) sooner)
        ]
    stuck_first more ending _ (Short h) long = absurd cc
    stuck_first more ending _ (Off q h) long = by_later stuck_here (breach_of kinds.Off (length ((ms ++ m ∷ []) ++ more)) (Some q)) (let l = longer (ms ++ m ∷ []) more in let s = size in omega arith) (omega arith)

    pub found-stuck : (next : ℕ) → IsFound session past tables stuck_here next (ms ++ m ∷ [])
    found-stuck next = record { early = (let s = size in omega arith); marks = tt; is = stuck_is; first = stuck_first }

  -- ---- the marks of these messages

  module _ (ms : List Message) (st : Standings) (refreshing : Bool) (heard : IsHeard entries from to past tables st refreshing ms) (old next : ℕ)
      (whole : (i : ℕ) (m : Mark) (table : Table) → slice_get syncs i ≡ Some m → m.handed < length ms → slice_get tables m.version ≡ Some table → AreAlike (table_of (take m.handed ms)) table)
      (behind : (i : ℕ) (m : Mark) → slice_get syncs i ≡ Some m → i < old → m.handed < length ms)
      (ahead : (i : ℕ) (m : Mark) → slice_get syncs i ≡ Some m → old ≤ i → length ms ≤ m.handed)
      (marks : AreMarksOf syncs old next (length ms)) where
    pub up_to : IsUpToMark syncs next (length ms)
    up_to = passed-marks syncs old next (length ms) is.rise behind ahead marks

    -- a mark of just so many messages is one of those that were passed
    mark_here : (i : ℕ) (m : Mark) → slice_get syncs i ≡ Some m → m.handed ≡ length ms → IsMarkIn syncs old next m
    mark_here i m there same = record {
      place = i;
      there = there;
      low = elim (cases_lt i old) [ inl sooner ↦ (let less = behind i m there sooner in absurd (omega arith)) | inr later ↦ later ];
      high = elim (cases_lt i next) [ inl sooner ↦ sooner | inr later ↦ (let less = up_to.ahead i m there later in absurd (omega arith)) ];
    }

    -- none differs
    pub all-whole : IsWorst st.rows entries from syncs old next None → AreWhole tables syncs ms
    all-whole same i m table there few version =
        elim (cases_lt m.handed (length ms)) [
          | inl less ↦ whole i m table there less version
          | inr far ↦
              (let handed : m.handed ≡ length ms = omega arith in
              λ key.
              ap (λ (xs : List Message). table_of xs key) (take_all ms m.handed handed)
              ∙ same-there st refreshing ms heard m.version table version key (same m (mark_here i m there handed) key))
        ]

    module _ (key : Key) (worst : IsWorst st.rows entries from syncs old next (Some key)) where
      abbrev amiss_here : Breach
      amiss_here = record { kind = kinds.Amiss; message = length ms; key = Some key }

      amiss_is : (more : List Message) (ending : Ending) → Breached (ms ++ more) ending amiss_here
      amiss_is more ending =
          let m = worst.0 in
          let at = worst.1 in
          let there = get_there tables m.version (is.versions at.place m at.there) in
          let front : take (length ms) (ms ++ more) ≡ ms = take-append-le (length ms) ms more (omega arith) ∙ take_all ms (length ms) refl in
          Amiss key (length ms) (record {
            mark = m;
            among = one-at m syncs at.place at.there;
            handed = marks.of m at;
            within = longer ms more;
            table = there.0;
            of_version = there.1;
            differs = λ same. differs-as st refreshing ms heard m.version there.0 there.1 key worst.2 (sym (ap (λ (xs : List Message). table_of xs key) front) ∙ same);
          })

      least_too : (more : List Message) (ending : Ending) (q : Key) → IsAmiss past (table_in tables) syncs session.lost (last_table session tables) (ms ++ more) ending q (length ms) → key_cmp key q ≢ Greater
      least_too more ending q h =
          let at = place-of h.mark syncs h.among in
          let front : take (length ms) (ms ++ more) ≡ ms = take-append-le (length ms) ms more (omega arith) ∙ take_all ms (length ms) refl in
          worst.3 h.mark q (mark_here at.0 h.mark at.1 h.handed)
          (differs-there st refreshing ms heard h.mark.version h.table h.of_version q (λ same. h.differs (ap (λ (xs : List Message). table_of xs q) front ∙ same)))

      not_sooner : (more : List Message) (ending : Ending) (q : Key) (n : ℕ) → IsAmiss past (table_in tables) syncs session.lost (last_table session tables) (ms ++ more) ending q n → n < length ms → ⊥
      not_sooner more ending q n h less =
          let at = place-of h.mark syncs h.among in
          let handed = h.handed in
          let alike = whole at.0 h.mark h.table at.1 (omega arith) h.of_version q in
          let same : take n (ms ++ more) ≡ take h.mark.handed ms = take-append-le n ms more (omega arith) ∙ ap (λ k. take k ms) (sym handed) in
          h.differs (ap (λ (xs : List Message). table_of xs q) same ∙ alike)

      amiss_first : (more : List Message) (ending : Ending) (other : Breach) → Breached (ms ++ more) ending other → is_short other ≡ false → breach_cmp amiss_here other ≢ Greater
      amiss_first more ending _ (Unread u) long = by_message amiss_here (breach_of kinds.Unread (suc (length (ms ++ more))) None) (let l = longer ms more in omega arith)
      amiss_first more ending _ (Stuck q n h) long =
          elim (cases_lt n (length ms)) [
            | inl sooner ↦ absurd (not-stuck ms (goes-up st refreshing ms heard) more ending q n h (omega arith))
            | inr later ↦ by_message amiss_here (breach_of kinds.Stuck (suc n) (Some q)) (omega arith)
          ]
      amiss_first more ending _ (Amiss q n h) long =
          elim (cases_order n (length ms)) [
            | inl same ↦
                by_key amiss_here (breach_of kinds.Amiss n (Some q)) (sym same) refl
                (least_too more ending q (subst (λ k. IsAmiss past (table_in tables) syncs session.lost (last_table session tables) (ms ++ more) ending q k) same h))
            | inr apart ↦ elim apart [
              | inl sooner ↦ absurd (not_sooner more ending q n h sooner)
              | inr later ↦ by_message amiss_here (breach_of kinds.Amiss n (Some q)) later
            ]
          ]
      amiss_first more ending _ (Short h) long = absurd cc
      amiss_first more ending _ (Off q h) long = by_later amiss_here (breach_of kinds.Off (length (ms ++ more)) (Some q)) (longer ms more) (omega arith)

      pub found-amiss : IsFound session past tables amiss_here next ms
      found-amiss = record { early = omega arith; marks = up_to; is = amiss_is; first = amiss_first }

  -- ---- what was found stays found

  pub found-more : (b : Breach) (next : ℕ) (ms : List Message) (m : Message) → IsFound session past tables b next ms → IsFound session past tables b next (ms ++ m ∷ [])
  found-more b next ms m h = record {
    early = (let early = h.early in let s = length-append ms (m ∷ []) in omega arith);
    marks = h.marks;
    is = λ more ending. subst (λ (xs : List Message). Breached xs ending b) (sym (append_assoc ms (m ∷ []) more)) (h.is (m ∷ more) ending);
    first = λ more ending other breach long. h.first (m ∷ more) ending other (subst (λ (xs : List Message). Breached xs ending other) (append_assoc ms (m ∷ []) more) breach) long;
  }
