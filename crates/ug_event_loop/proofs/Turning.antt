-- What turns come to, one after the other.
use Rattle.std.proofs.Common.{◌≡◌, ◌+◌, ℕ, Bool, true, false, List, [], ◌∷◌, ◌++◌, length, length-append, Option, Some, None, Ok, Err, refl, sym, ◌∙◌, ap, subst, arith, append_assoc}
use Rattle.std.specs.Prelude.{filter, min, not}
use Rattle.std.proofs.lemmas.List.{append-nil}
use Rattle.std.proofs.lemmas.List.Elements.{filter-append, All-append, All-nil}
use Rattle.ug_board.specs.declared.steps.BoardStep.{BoardStep}
use Rattle.ug_board.specs.declared.steps.BoardStep.TheVariants.{Job as DoJob, Lane as LaneTakes}
use Rattle.ug_board.specs.Entry.{Entry}
use Rattle.ug_board.specs.Rules.{Rules}
use Rattle.ug_board.specs.History.{BoardState, replay, state_of, job_entry}
use Rattle.ug_board.proofs.Histories.{replay_from-append}
use Rattle.ug_turnstile.specs.Passes.{Adds, StartsWith, owned_by}
use Rattle.ug_board.specs.Deeds.{Each, of_pass}
use Rattle.ug_events.specs.Events.{Happening, Saying, SaysNothing, SaysSync, Says}
use Rattle.ug_events.specs.Reads.{Reads}
use Rattle.ug_world.specs.Verdicts.{verdict}
use Rattle.ug_speaker.specs.Speech.{Speech, Purpose, TakesEvent, MarksTold, Ends, Prepares}
use Rattle.ug_speaker.specs.Told.{world_at}
use Rattle.ug_speaker.specs.Owes.{StepsRight, IsTimely, StaysDrained, closed_by}
use Rattle.ug_speaker.specs.Story.{IsUnasked, IsUnaskedStep, IsBetween, IsDone, DoesEvent, Does}
use Rattle.ug_types.specs.declared.mark.Mark.{Mark}
use Rattle.ug_report.specs.Report.{Answer, Passed, Refused, Took, Synced}
use Rattle.ug_event_loop.specs.Turns.{PreparesBy, IsPreparing, GoesOn, WindsUp, EndsNot, IsOpenBy, StaysOpen, Answers, AnswersAt, AreMore}

pub each_more : {A : Type 0} (P : A → Type 0) (xs ys : List A) → Each P xs → Each P ys → Each P (xs ++ ys)
each_more P [] ys a b = b
each_more P (x ∷ xs) ys a b = (a.0, each_more P xs ys a.1 b)

-- what holds by one fact of each holds by another that follows from it
pub each_by : {A : Type 0} (P Q : A → Type 0) → ((x : A) → P x → Q x) → (xs : List A) → Each P xs → Each Q xs
each_by P Q so [] a = tt
each_by P Q so (x ∷ xs) a = (so x a.0, each_by P Q so xs a.1)

pub adds_nothing : {E : Type 0} (owner : E → ℕ) (number : ℕ) (h : List E) → Adds owner number h h
adds_nothing owner number h = ([], sym (append-nil h), All-nil (λ e. owner e ≡ number))

pub adds_further : {E : Type 0} (owner : E → ℕ) (number : ℕ) (a b c : List E) → Adds owner number a b → Adds owner number b c → Adds owner number a c
adds_further {E} owner number a b c one two =
    (one.0 ++ two.0, two.1 ∙ ap (λ (z : List E). z ++ two.0) one.1 ∙ append_assoc a one.0 two.0, All-append (λ e. owner e ≡ number) one.0 two.0 one.2 two.2)

-- so many more
pub none_more : {E : Type 0} (h : List E) → AreMore 0 h h
none_more h few = omega arith

pub one_more : {E : Type 0} (count further : ℕ) (a b c : List E) (x : E) → further ≡ min (count + 1) 18446744073709551615 → AreMore count a b → c ≡ b ++ x ∷ [] → AreMore further a c
one_more count further a b c x counted more is few =
    let size = ap length is ∙ length-append b (x ∷ []) in
    let before = more (omega (arith, counted, few)) in
    omega (arith, counted, few, size, before)

-- what adds nothing is nothing
pub append-same : {A : Type 0} (xs ys : List A) → xs ++ ys ≡ xs → ys ≡ []
append-same [] ys same = same
append-same (x ∷ xs) ys same = append-same xs ys (cc same)

module _ {Opening State Job Said : Type 0} (rules : Rules Opening State Job Said) (speech : Speech Opening State Job Said) where
  pub goes_nowhere : (h : List (Entry Job Said)) → GoesOn rules speech h h
  goes_nowhere h = record { more = []; parts = sym (append-nil h); prepares = tt }

  pub goes_further : (a b c : List (Entry Job Said)) → GoesOn rules speech a b → GoesOn rules speech b c → GoesOn rules speech a c
  goes_further a b c one two = record {
    more = one.more ++ two.more;
    parts = two.parts ∙ ap (λ (z : List (Entry Job Said)). z ++ two.more) one.parts ∙ append_assoc a one.more two.more;
    prepares = each_more (IsPreparing rules speech) one.more two.more one.prepares two.prepares;
  }

  -- a job that prepares
  pub goes_by_job :
      (opening : Opening) (job : Job) (a b : List (Entry Job Said)) → speech.purpose job ≡ Prepares
      → b ≡ a ++ job_entry rules 0 job (replay rules opening a) ∷ [] → GoesOn rules speech a b
  goes_by_job opening job a b is parts = record {
    more = job_entry rules 0 job (replay rules opening a) ∷ [];
    parts = parts;
    prepares = ((λ own. is), tt);
  }

  -- an event that the world refuses
  pub answers_refused :
      (opening : Opening) (e : Happening) (number : ℕ) (a : List (Entry Job Said)) → verdict (world_at rules speech opening a) e ≡ Some number
      → Answers rules speech opening (Ok (Says e)) (Refused (record { number = number; inner = None })) a a
  answers_refused opening e number a refused =
      let here : verdict (world_at rules speech opening (a ++ [])) e ≡ Some number = rw (append-nil a) refused in
      record {
        quiet = [];
        did = [];
        parts = sym (append-nil a);
        prepares = tt;
        does = rw here (refl, refl);
        is = rw here refl;
      }

  -- an event that was taken
  pub answers_taken :
      (opening : Opening) (e : Happening) (job : Job) (said : Said) (a b : List (Entry Job Said)) → verdict (world_at rules speech opening a) e ≡ None
      → speech.purpose job ≡ TakesEvent e → rules.legal job (replay rules opening a) ≡ true → said ≡ rules.reply job (replay rules opening a)
      → b ≡ a ++ job_entry rules 0 job (replay rules opening a) ∷ []
      → Answers rules speech opening (Ok (Says e)) (Took (speech.marks said)) a b
  answers_taken opening e job said a b accepted is legal reply parts =
      let same = append-nil a in
      let here : verdict (world_at rules speech opening (a ++ [])) e ≡ None = rw same accepted in
      record {
        quiet = [];
        did = job_entry rules 0 job (replay rules opening a) ∷ [];
        parts = parts;
        prepares = tt;
        does = rw here (record { job = job; is = is; legal = rw same legal; entry = rw same refl; marks = rw same (ap speech.marks reply) });
        is = rw here refl;
      }

  -- a mark
  pub answers_synced :
      (opening : Opening) (job : Job) (said : Said) (a b : List (Entry Job Said))
      → speech.purpose job ≡ MarksTold → rules.legal job (replay rules opening a) ≡ true → said ≡ rules.reply job (replay rules opening a)
      → b ≡ a ++ job_entry rules 0 job (replay rules opening a) ∷ []
      → Answers rules speech opening (Ok SaysSync) (Synced (speech.marks said)) a b
  answers_synced opening job said a b is legal reply parts =
      let same = append-nil a in
      record {
        quiet = [];
        did = job_entry rules 0 job (replay rules opening a) ∷ [];
        parts = parts;
        prepares = tt;
        does = record { job = job; is = is; legal = rw same legal; entry = rw same refl; marks = rw same (ap speech.marks reply) };
        is = refl;
      }

  -- work before a line belongs to what was done for it
  pub answers_later :
      (opening : Opening) (line : Reads Saying) (answer : Answer) (a b c : List (Entry Job Said))
      → GoesOn rules speech a b → Answers rules speech opening line answer b c → Answers rules speech opening line answer a c
  answers_later opening line answer a b c one two =
      let same : a ++ (one.more ++ two.quiet) ≡ b ++ two.quiet =
      sym (append_assoc a one.more two.quiet) ∙ ap (λ (z : List (Entry Job Said)). z ++ two.quiet) (sym one.parts) in
      record {
        quiet = one.more ++ two.quiet;
        did = two.did;
        parts = two.parts ∙ ap (λ (z : List (Entry Job Said)). z ++ (two.quiet ++ two.did)) one.parts
            ∙ append_assoc a one.more (two.quiet ++ two.did) ∙ ap (λ (z : List (Entry Job Said)). a ++ z) (sym (append_assoc one.more two.quiet two.did));
        prepares = each_more (IsPreparing rules speech) one.more two.quiet one.prepares two.prepares;
        does = rw same two.does;
        is = rw same two.is;
      }

  -- an entry of another, before such entries
  none_before : (own : Bool) (entry : Entry Job Said) (entries : List (Entry Job Said)) → of_pass 0 entry ≡ own
      → filter (of_pass 0) (entry ∷ entries) ≡ [] → (of_pass 0 entry ≡ false) × (filter (of_pass 0) entries ≡ [])
  none_before true entry entries is none = absurd cc
  none_before false entry entries is none = (is, rw is at none)

  -- of what others did nothing is said
  pub none_prepares : (entries : List (Entry Job Said)) → filter (of_pass 0) entries ≡ [] → Each (IsPreparing rules speech) entries
  none_prepares [] none = tt
  none_prepares (entry ∷ entries) none =
      let parts = none_before (of_pass 0 entry) entry entries refl none in
      ((λ own. absurd cc), none_prepares entries parts.1)

  -- since the builder's last turn others alone did something
  pub goes_by_others :
      (seen entries : List (Entry Job Said)) → StartsWith entries seen
      → owned_by (λ (entry : Entry Job Said). entry.pass) 0 entries ≡ owned_by (λ (entry : Entry Job Said). entry.pass) 0 seen
      → GoesOn rules speech seen entries
  goes_by_others seen entries starts owned =
      let mine = λ (xs : List (Entry Job Said)). filter (of_pass 0) xs in
      let none : mine starts.0 ≡ [] = append-same (mine seen) (mine starts.0) (sym (filter-append (of_pass 0) seen starts.0) ∙ ap mine (sym starts.1) ∙ owned) in
      record { more = starts.0; parts = starts.1; prepares = none_prepares starts.0 none }

  -- ---- work that winds up, and work that doesn't

  step_between : (step : BoardStep Job) → PreparesBy rules speech step → IsUnaskedStep rules speech step
  step_between (DoJob job) is = subst (λ (p : Purpose). IsUnasked p) (sym is) tt
  step_between (LaneTakes step) is = absurd is

  -- what prepares no line asks for
  pub preparing-between : (entries : List (Entry Job Said)) → Each (IsPreparing rules speech) entries → Each (IsBetween rules speech) entries
  preparing-between entries h = each_by (IsPreparing rules speech) (IsBetween rules speech) (λ entry prepares own. step_between entry.step (prepares own)) entries h

  pub winds_by_going : (a b : List (Entry Job Said)) → GoesOn rules speech a b → WindsUp rules speech a b
  winds_by_going a b goes = record { more = goes.more; parts = goes.parts; between = preparing-between goes.more goes.prepares }

  pub winds_further : (a b c : List (Entry Job Said)) → WindsUp rules speech a b → WindsUp rules speech b c → WindsUp rules speech a c
  winds_further a b c one two = record {
    more = one.more ++ two.more;
    parts = two.parts ∙ ap (λ (z : List (Entry Job Said)). z ++ two.more) one.parts ∙ append_assoc a one.more two.more;
    between = each_more (IsBetween rules speech) one.more two.more one.between two.between;
  }

  pub winds_behind : (a b c : List (Entry Job Said)) → GoesOn rules speech a b → WindsUp rules speech b c → WindsUp rules speech a c
  winds_behind a b c one two = winds_further a b c (winds_by_going a b one) two

  other_purpose : (purpose other : Purpose) → purpose ≡ other → (other ≡ Ends → ⊥) → purpose ≡ Ends → ⊥
  other_purpose purpose other is never end = never (sym is ∙ end)

  step_open : (step : BoardStep Job) → PreparesBy rules speech step → EndsNot rules speech step
  step_open (DoJob job) is = other_purpose (speech.purpose job) Prepares is (λ is. absurd cc)
  step_open (LaneTakes step) is = absurd is

  preparing_open : (entries : List (Entry Job Said)) → Each (IsPreparing rules speech) entries → Each (IsOpenBy rules speech) entries
  preparing_open entries h = each_by (IsPreparing rules speech) (IsOpenBy rules speech) (λ entry prepares own. step_open entry.step (prepares own)) entries h

  pub stays_by_going : (a b : List (Entry Job Said)) → GoesOn rules speech a b → StaysOpen rules speech a b
  stays_by_going a b goes = record { more = goes.more; parts = goes.parts; each = preparing_open goes.more goes.prepares }

  none_open : (did : List (Entry Job Said)) → did ≡ [] → Each (IsOpenBy rules speech) did
  none_open did none = subst (λ (es : List (Entry Job Said)). Each (IsOpenBy rules speech) es) (sym none) tt

  done_open : (purpose : Purpose) (opening : Opening) (before : List (Entry Job Said)) (ms : List Mark) (did : List (Entry Job Said)) → (purpose ≡ Ends → ⊥)
      → IsDone rules speech purpose opening before ms did → Each (IsOpenBy rules speech) did
  done_open purpose opening before ms did never done =
      subst (λ (es : List (Entry Job Said)). Each (IsOpenBy rules speech) es) (sym done.entry) ((λ own. other_purpose (speech.purpose done.job) purpose done.is never), tt)

  event_open : (v : Option ℕ) (e : Happening) (opening : Opening) (before : List (Entry Job Said)) (ms : List Mark) (did : List (Entry Job Said))
      → DoesEvent rules speech v e opening before ms did → Each (IsOpenBy rules speech) did
  event_open None e opening before ms did does = done_open (TakesEvent e) opening before ms did (λ is. absurd cc) does
  event_open (Some number) e opening before ms did does = none_open did does.1

  line_open : (line : Reads Saying) (opening : Opening) (before : List (Entry Job Said)) (ms : List Mark) (did : List (Entry Job Said))
      → Does rules speech line opening before ms did → Each (IsOpenBy rules speech) did
  line_open (Ok SaysNothing) opening before ms did does = none_open did does.1
  line_open (Ok SaysSync) opening before ms did does = done_open MarksTold opening before ms did (λ is. absurd cc) does
  line_open (Ok (Says e)) opening before ms did does = event_open (verdict (world_at rules speech opening before) e) e opening before ms did does
  line_open (Err refusal) opening before ms did does = none_open did does.1

  -- no line ends the work
  pub stays_by_line : (opening : Opening) (line : Reads Saying) (answer : Answer) (a b : List (Entry Job Said)) → Answers rules speech opening line answer a b → StaysOpen rules speech a b
  stays_by_line opening line answer a b answers = record {
    more = answers.quiet ++ answers.did;
    parts = answers.parts;
    each = each_more (IsOpenBy rules speech) answers.quiet answers.did (preparing_open answers.quiet answers.prepares) (line_open line opening (a ++ answers.quiet) _ answers.did answers.does);
  }

  -- ---- what everything being told comes to at the end

  stays_by : (purpose : Purpose) (s s' : State) → purpose ≡ Ends → StaysDrained rules speech purpose s s' → speech.drained s ≡ true → speech.drained s' ≡ true
  stays_by purpose s s' is stays drained = subst (λ (p : Purpose). StaysDrained rules speech p s s') is stays drained

  pub drained_closed :
      (steps : StepsRight rules speech) (old new : BoardState Opening Job Said) (job : Job) → speech.purpose job ≡ Ends
      → rules.legal job (state_of rules old) ≡ true → new.opening ≡ old.opening → new.history ≡ old.history ++ job_entry rules 0 job (state_of rules old) ∷ []
      → speech.drained (state_of rules old) ≡ true → speech.drained (state_of rules new) ≡ true
  drained_closed steps old new job is legal opening history drained =
      let there : state_of rules new ≡ rules.after job (state_of rules old) =
      ap (λ (o : Opening). replay rules o new.history) opening
      ∙ (ap (replay rules old.opening) history
      ∙ replay_from-append rules (rules.start old.opening) old.history (job_entry rules 0 job (state_of rules old) ∷ [])) in
      rw there (stays_by (speech.purpose job) (state_of rules old) (rules.after job (state_of rules old)) is (steps.drained_after_job job (state_of rules old) legal) drained)

  closes_by : (purpose : Purpose) (closed closed' : Bool) → purpose ≡ Ends → closed' ≡ closed_by rules speech purpose closed → closed' ≡ true
  closes_by purpose closed closed' is by = subst (λ (p : Purpose). closed' ≡ closed_by rules speech p closed) is by

  pub closed_closed :
      (steps : StepsRight rules speech) (old new : BoardState Opening Job Said) (job : Job) → speech.purpose job ≡ Ends
      → rules.legal job (state_of rules old) ≡ true → new.opening ≡ old.opening → new.history ≡ old.history ++ job_entry rules 0 job (state_of rules old) ∷ []
      → speech.closed (state_of rules new) ≡ true
  closed_closed steps old new job is legal opening history =
      let there : state_of rules new ≡ rules.after job (state_of rules old) =
      ap (λ (o : Opening). replay rules o new.history) opening
      ∙ (ap (replay rules old.opening) history
      ∙ replay_from-append rules (rules.start old.opening) old.history (job_entry rules 0 job (state_of rules old) ∷ [])) in
      rw there (closes_by (speech.purpose job) (speech.closed (state_of rules old)) (speech.closed (rules.after job (state_of rules old))) is (steps.closed_after_job job (state_of rules old) legal))

  not_false : (closed : Bool) → false ≡ not closed → closed ≡ true
  not_false true is = refl
  not_false false is = cc

  refused_by : (purpose : Purpose) (legal : Bool) (s : State) → purpose ≡ Ends → legal ≡ false → IsTimely rules speech purpose legal s → speech.closed s ≡ true
  refused_by purpose legal s is refused timely =
      not_false (speech.closed s) (sym refused ∙ subst (λ (p : Purpose). IsTimely rules speech p legal s) is timely)

  -- Where the end may not be made, it was made before.
  pub refused_closed :
      (steps : StepsRight rules speech) (old new : BoardState Opening Job Said) (job : Job) → speech.purpose job ≡ Ends
      → rules.legal job (state_of rules old) ≡ false → new.opening ≡ old.opening → new.history ≡ old.history
      → speech.closed (state_of rules new) ≡ true
  refused_closed steps old new job is refused opening history =
      let there : state_of rules new ≡ state_of rules old =
      ap (λ (o : Opening). replay rules o new.history) opening ∙ ap (replay rules old.opening) history in
      rw there (refused_by (speech.purpose job) (rules.legal job (state_of rules old)) (state_of rules old) is refused (steps.timely job (state_of rules old)))

  -- ---- lines for which nothing is done

  pub answers_passed : (root : Option Opening) (line : Reads Saying) (seen : List (Entry Job Said)) → line ≡ Ok SaysNothing → AnswersAt rules speech root line Passed seen seen
  answers_passed None line seen is = tt
  answers_passed (Some opening) line seen is = rw is (record { quiet = []; did = []; parts = sym (append-nil seen); prepares = tt; does = (refl, refl); is = refl })

  pub answers_unread :
      (root : Option Opening) (line : Reads Saying) (number : ℕ) (inner : Option ℕ) (seen : List (Entry Job Said)) → line ≡ Err (record { number = number; inner = inner })
      → AnswersAt rules speech root line (Refused (record { number = number; inner = inner })) seen seen
  answers_unread None line number inner seen is = tt
  answers_unread (Some opening) line number inner seen is = rw is (record { quiet = []; did = []; parts = sym (append-nil seen); prepares = tt; does = (refl, refl); is = refl })
