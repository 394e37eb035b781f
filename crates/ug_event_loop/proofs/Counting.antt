-- How the numbers of a builder's jobs add up.
use Rattle.std.proofs.Common.{◌≡◌, ℕ, ◌+◌, ◌≤◌, Bool, true, false, List, [], ◌∷◌, ◌++◌, Option, Some, Result, Ok, Err, refl, sym, ◌∙◌, ap, subst, arith}
use Rattle.std.specs.Prelude.{filter, OnOk, OnErr, if◌then◌else◌}
use Rattle.std.proofs.lemmas.List.Elements.{filter-append}
use Rattle.ug_board.specs.Entry.{Entry}
use Rattle.ug_board.specs.Rules.{Rules}
use Rattle.ug_board.specs.History.{BoardState, replay, replay_from, state_of, after_step, job_entry}
use Rattle.ug_turnstile.specs.Passes.{Held, Agrees, owned_by}
use Rattle.ug_board.specs.Deeds.{Each, of_pass}
use Rattle.ug_event_loop.specs.Counts.{of_step, sum_from, sum_of, sum_at, least_of, most_of, least_at, most_at, RisesBy, RisesWithin}
use Rattle.ug_event_loop.proofs.Turning.{append-same}

module _ {Opening State Job Said : Type 0} (rules : Rules Opening State Job Said) (number : Job → State → ℕ) where
  sum-append : (state : State) (xs ys : List (Entry Job Said)) → sum_from rules number state (xs ++ ys) ≡ sum_from rules number state xs + sum_from rules number (replay_from rules state xs) ys
  sum-append state [] ys = omega arith
  sum-append state (x ∷ xs) ys = let rest = sum-append (after_step rules x.step state) xs ys in omega (arith, rest)

  -- what others did counts nothing
  sum-others : (state : State) (xs : List (Entry Job Said)) → filter (of_pass 0) xs ≡ [] → sum_from rules number state xs ≡ 0
  sum-others state [] none = refl
  sum-others state (x ∷ xs) none = by (of_pass 0 x) none (sum-others (after_step rules x.step state) xs)
    where
      by : (own : Bool) → (if own then x ∷ filter (of_pass 0) xs else filter (of_pass 0) xs) ≡ [] → (filter (of_pass 0) xs ≡ [] → sum_from rules number (after_step rules x.step state) xs ≡ 0)
          → ((if own then of_step rules number x.step state else 0) + sum_from rules number (after_step rules x.step state) xs) ≡ 0
      by true none rest = absurd cc
      by false none rest = let r = rest none in omega (arith, r)

  -- entries of others
  pub sum-behind : (opening : Opening) (seen later : List (Entry Job Said)) → Each (λ (entry : Entry Job Said). of_pass 0 entry ≡ false) later → sum_of rules number opening (seen ++ later) ≡ sum_of rules number opening seen
  unfolding sum_of
  sum-behind opening seen later others =
      let all = sum-append (rules.start opening) seen later in
      let nothing = sum-each (replay_from rules (rules.start opening) seen) later others in
      omega (arith, all, nothing)
    where
      sum-each : (state : State) (xs : List (Entry Job Said)) → Each (λ (entry : Entry Job Said). of_pass 0 entry ≡ false) xs → sum_from rules number state xs ≡ 0
      sum-each state [] others = refl
      sum-each state (x ∷ xs) others =
          ap (λ own. (if own then of_step rules number x.step state else 0) + sum_from rules number (after_step rules x.step state) xs) others.0
          ∙ (let r = sum-each (after_step rules x.step state) xs others.1 in omega (arith, r))

  sum-job : (opening : Opening) (a b : List (Entry Job Said)) (job : Job) → b ≡ a ++ job_entry rules 0 job (replay rules opening a) ∷ []
      → sum_of rules number opening b ≡ sum_of rules number opening a + number job (replay rules opening a)
  unfolding sum_of
  sum-job opening a b job is =
      let last = sum-append (rules.start opening) a (job_entry rules 0 job (replay rules opening a) ∷ []) in
      ap (sum_from rules number (rules.start opening)) is ∙ omega (arith, last)

  -- since the builder's last turn nothing was counted
  pub sum-since : (opening : Opening) (seen entries more : List (Entry Job Said)) → entries ≡ seen ++ more → filter (of_pass 0) more ≡ [] → sum_of rules number opening entries ≡ sum_of rules number opening seen
  unfolding sum_of
  sum-since opening seen entries more parts none =
      let all = sum-append (rules.start opening) seen more in
      let nothing = sum-others (replay_from rules (rules.start opening) seen) more none in
      ap (sum_from rules number (rules.start opening)) parts ∙ omega (arith, all, nothing)

module _ {Opening State Job Said : Type 0} (rules : Rules Opening State Job Said) where
  -- a job that was done, or not
  module _ (old new : BoardState Opening Job Said) (job : Job) (before after : ℕ) where
    pub job-least : {A E : Type 0} (r : Result A E) → OnOk r (before + rules.least job (state_of rules old) ≤ after) → before ≤ after
        → OnOk r (new.history ≡ old.history ++ job_entry rules 0 job (state_of rules old) ∷ []) → OnErr r (new.history ≡ old.history)
        → RisesBy before after (least_of rules old.opening old.history) (least_of rules old.opening new.history)
    job-least (Ok x) least counted history same = let is = sum-job rules rules.least old.opening old.history new.history job history in omega (arith, is, least)
    job-least (Err x) least counted history same = let is = ap (sum_of rules rules.least old.opening) same in omega (arith, is, counted)

    pub job-most : {A E : Type 0} (r : Result A E) → after ≤ before + rules.most job (state_of rules old)
        → OnOk r (new.history ≡ old.history ++ job_entry rules 0 job (state_of rules old) ∷ [])
        → OnOk r (RisesWithin before after (most_of rules old.opening old.history) (most_of rules old.opening new.history))
    job-most (Ok x) most history = let is = sum-job rules rules.most old.opening old.history new.history job history in omega (arith, is, most)
    job-most (Err x) most history = tt

module _ {Opening State Job Said : Type 0} (rules : Rules Opening State Job Said) where
  -- the turn: the pass before it, the board as it was taken, as it was lent and as it was given, and the entries of the pass after it
  module _ (pass : Held (Entry Job Said) Opening) (took lent gave : BoardState Opening Job Said) (seen : List (Entry Job Said))
      (number : pass.number ≡ 0) (agrees : Agrees (λ (entry : Entry Job Said). entry.pass) took.opening took.history pass) (same : lent ≡ took) (seen_is : seen ≡ gave.history) where
    root_is : pass.root ≡ Some lent.opening
    root_is = agrees.0 ∙ ap Some (sym (ap (λ (b : BoardState Opening Job Said). b.opening) same))

    none_since : filter (of_pass 0) (agrees.1).0 ≡ []
    none_since =
        let mine = λ (xs : List (Entry Job Said)). filter (of_pass 0) xs in
        let owned = subst (λ n. owned_by (λ (entry : Entry Job Said). entry.pass) n took.history ≡ owned_by (λ (entry : Entry Job Said). entry.pass) n pass.seen) number agrees.2 in
        append-same (mine pass.seen) (mine (agrees.1).0) (sym (filter-append (of_pass 0) pass.seen (agrees.1).0) ∙ ap mine (sym (agrees.1).1) ∙ owned)

    module _ (of : Job → State → ℕ) where
      at_new : sum_at rules of pass.root seen ≡ sum_of rules of lent.opening gave.history
      unfolding sum_at
      at_new = ap (λ r. sum_at rules of r seen) root_is ∙ ap (sum_of rules of lent.opening) seen_is

      at_old : sum_at rules of pass.root pass.seen ≡ sum_of rules of lent.opening lent.history
      unfolding sum_at
      at_old =
          ap (λ r. sum_at rules of r pass.seen) root_is
          ∙ (sym (sum-since rules of lent.opening pass.seen took.history (agrees.1).0 (agrees.1).1 none_since)
          ∙ ap (λ (b : BoardState Opening Job Said). sum_of rules of lent.opening b.history) (sym same))

    pub least-over : (before after : ℕ) → RisesBy before after (least_of rules lent.opening lent.history) (least_of rules lent.opening gave.history)
        → RisesBy before after (least_at rules pass.root pass.seen) (least_at rules pass.root seen)
    least-over before after h = let new = at_new rules.least in let old = at_old rules.least in omega (arith, h, new, old)

    pub most-over : (before after : ℕ) → RisesWithin before after (most_of rules lent.opening lent.history) (most_of rules lent.opening gave.history)
        → RisesWithin before after (most_at rules pass.root pass.seen) (most_at rules pass.root seen)
    most-over before after h = let new = at_new rules.most in let old = at_old rules.most in omega (arith, h, new, old)

  -- one after the other, with one root
  module _ (p q : Option Opening) (a b c : List (Entry Job Said)) (start middle end : ℕ) (same : q ≡ p) where
    pub least-further : RisesBy start middle (least_at rules p a) (least_at rules p b) → RisesBy middle end (least_at rules q b) (least_at rules q c) → RisesBy start end (least_at rules p a) (least_at rules p c)
    least-further h k =
        let next = subst (λ (r : Option Opening). RisesBy middle end (least_at rules r b) (least_at rules r c)) same k in
        omega (arith, h, next)

    pub most-further : RisesWithin start middle (most_at rules p a) (most_at rules p b) → RisesWithin middle end (most_at rules q b) (most_at rules q c) → RisesWithin start end (most_at rules p a) (most_at rules p c)
    most-further h k =
        let next = subst (λ (r : Option Opening). RisesWithin middle end (most_at rules r b) (most_at rules r c)) same k in
        omega (arith, h, next)

  -- ---- a whole history, from a pass that has seen nothing

  module _ (root : Option Opening) (opening : Opening) (known : root ≡ Some opening) (none seen later history : List (Entry Job Said)) (nothing : none ≡ []) (parts : history ≡ seen ++ later)
      (others : Each (λ (entry : Entry Job Said). of_pass 0 entry ≡ false) later) (before after : ℕ) where
    module _ (of : Job → State → ℕ) where
      at_none : sum_at rules of root none ≡ 0
      unfolding sum_at sum_of
      at_none = ap (λ r. sum_at rules of r none) known ∙ ap (sum_of rules of opening) nothing

      at_all : sum_of rules of opening history ≡ sum_at rules of root seen
      unfolding sum_at
      at_all = ap (sum_of rules of opening) parts ∙ (sum-behind rules of opening seen later others ∙ sym (ap (λ r. sum_at rules of r seen) known))

    pub least-whole : RisesBy before after (least_at rules root none) (least_at rules root seen) → before + least_of rules opening history ≤ after
    least-whole h = let a = at_none rules.least in let b = at_all rules.least in omega (arith, h, a, b)

    pub most-whole : RisesWithin before after (most_at rules root none) (most_at rules root seen) → after ≤ before + most_of rules opening history
    most-whole h = let a = at_none rules.most in let b = at_all rules.most in omega (arith, h, a, b)
