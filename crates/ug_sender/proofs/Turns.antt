-- What a lane's step on a board tells.
use Rattle.std.proofs.Common.{◌≡◌, ℕ, ◌≤◌, Bool, true, false, List, [], ◌∷◌, ◌++◌, length, Option, Some, None, refl, sym, ◌∙◌, ap, subst, arith, length-append, append_assoc, if◌then◌else◌, inl, inr}
use Rattle.std.proofs.lemmas.List.{append-nil}
use Rattle.std.proofs.lemmas.Bool.{eq-eqb}
use Rattle.ug_board.specs.declared.steps.BoardStep.TheVariants.{Lane as LaneTakes}
use Rattle.ug_board.specs.declared.steps.BoardSaid.TheVariants.{Lane as LaneGot}
use Rattle.ug_board.specs.declared.steps.LaneStep.{LaneStep}
use Rattle.ug_board.specs.declared.steps.LaneStep.TheVariants.{Next, Lost}
use Rattle.ug_board.specs.declared.steps.LaneSaid.{LaneSaid}
use Rattle.ug_board.specs.declared.steps.LaneSaid.TheVariants.{Begun, Hand, Idle, Stop, Noted}
use Rattle.ug_board.specs.Entry.{Entry}
use Rattle.ug_board.specs.Rules.{Rules, IsMachine, IsNext, LeavesHanded, counts, says_more, lane_said}
use Rattle.ug_board.specs.History.{IsLegal, IsLegalFrom, after_step, replay, lane_entries, spent_said}
use Rattle.std.specs.Prelude.{filter, ◌⊎◌}
use Rattle.std.proofs.lemmas.List.Elements.{filter-append}
use Rattle.ug_turnstile.specs.Passes.{StartsWith, owned_by}
use Rattle.ug_board.specs.Deeds.{Deed, Hands, Loses, Each, when, of_pass, to_peer, lane_is_to, lane_deeds, deeds, deeds_from, begins}
use Rattle.ug_board.proofs.Growth.{deeds_from-append, deeds_from-others}
use Rattle.ug_board.proofs.Beginnings.{begins-at_most}
use Rattle.ug_sender.specs.Lanes.{AreOfPeer, MayNotLoseAt, deeds_at}
use Rattle.ug_sender.specs.Tellings.{TellsNext, TellsLoss}

pub Each-append : {A : Type 0} → (P : A → Type 0) → (old new : List A) → Each P old → Each P new → Each P (old ++ new)
Each-append P [] new first rest = rest
Each-append P (x ∷ old) new first rest = (first.0, Each-append P old new first.1 rest)

module _ {Opening State Job Said : Type 0} (rules : Rules Opening State Job Said) where
  -- the entries that a lane's step leaves, where it leaves one or not
  some_entries : Bool → ℕ → LaneStep → State → List (Entry Job Said)
  some_entries counted number step state =
      if counted then record { pass = number; step = LaneTakes step; said = LaneGot (lane_said rules step state) } ∷ [] else []

  entries_own : (counted : Bool) (peer number : ℕ) (step : LaneStep) (state : State) → lane_is_to peer step ≡ true → AreOfPeer peer number (some_entries counted number step state)
  unfolding some_entries
  entries_own true peer number step state to = ((λ mine. to), tt)
  entries_own false peer number step state to = tt

  pub own-grown :
      (peer number : ℕ) (step : LaneStep) (state : State) (history : List (Entry Job Said)) → lane_is_to peer step ≡ true
      → AreOfPeer peer number history → AreOfPeer peer number (history ++ lane_entries rules number step state)
  unfolding some_entries
  own-grown peer number step state history to own =
      Each-append (λ entry. of_pass number entry ≡ true → to_peer peer entry ≡ true) history (lane_entries rules number step state) own
      (entries_own (counts rules step state) peer number step state to)

  entries_tell :
      (counted : Bool) (number : ℕ) (step : LaneStep) (state : State)
      → deeds_from rules rules.handed (of_pass number) state (some_entries counted number step state)
      ≡ when counted (lane_deeds rules.handed step (lane_said rules step state) state)
  unfolding some_entries
  entries_tell true number step state =
      rw (eq-eqb number number refl) (append-nil (lane_deeds rules.handed step (lane_said rules step state) state))
  entries_tell false number step state = refl

  -- what a lane's step adds to the deeds of its number
  pub deeds-grown :
      (opening : Opening) (history : List (Entry Job Said)) (number : ℕ) (step : LaneStep)
      → deeds rules rules.handed (of_pass number) opening (history ++ lane_entries rules number step (replay rules opening history))
      ≡ deeds rules rules.handed (of_pass number) opening history
      ++ when (counts rules step (replay rules opening history)) (lane_deeds rules.handed step (lane_said rules step (replay rules opening history)) (replay rules opening history))
  unfolding some_entries
  deeds-grown opening history number step =
      deeds_from-append rules rules.handed (of_pass number) (rules.start opening) history (lane_entries rules number step (replay rules opening history))
      ∙ ap (λ ds. deeds rules rules.handed (of_pass number) opening history ++ ds)
      (entries_tell (counts rules step (replay rules opening history)) number step (replay rules opening history))

  next_adds :
      (peer : ℕ) (said : LaneSaid) (buf : List ℕ) (old new : List (Deed (List ℕ))) (state after : State)
      → IsNext rules peer state said after → LeavesHanded rules (Next peer) said state buf
      → begins old ≤ rules.begun peer state
      → new ≡ old ++ when (says_more said) (lane_deeds rules.handed (Next peer) said state)
      → TellsNext said buf old new
  next_adds peer (Begun session) buf old new state after is handed most grown = (grown, let n = is.number in omega arith)
  next_adds peer (Hand session made len) buf old new state after is handed most grown =
      (grown ∙ ap (λ x. old ++ Hands session x ∷ []) (sym handed), is.fits)
  next_adds peer Idle buf old new state after is handed most grown = grown ∙ append-nil old
  next_adds peer Stop buf old new state after is handed most grown = grown ∙ append-nil old
  next_adds peer Noted buf old new state after is handed most grown = absurd is

  -- What the answer to what is next tells
  pub next-tells :
      (machine : IsMachine rules) (opening : Opening) (history : List (Entry Job Said)) (peer number : ℕ) (said : LaneSaid) (buf : List ℕ)
      → IsLegal rules opening history → AreOfPeer peer number history
      → said ≡ rules.lane_reply (Next peer) (replay rules opening history)
      → LeavesHanded rules (Next peer) said (replay rules opening history) buf
      → TellsNext said buf (deeds rules rules.handed (of_pass number) opening history)
      (deeds rules rules.handed (of_pass number) opening (history ++ lane_entries rules number (Next peer) (replay rules opening history)))
  next-tells machine opening history peer number said buf legal own is handed =
      let state = replay rules opening history in
      let after = rules.after_lane (Next peer) state in
      let next : IsNext rules peer state said after = subst (λ s. IsNext rules peer state s after) (sym is) (machine.next peer state) in
      let none = machine.none_begun opening peer in
      let most = begins-at_most rules rules.handed machine peer (of_pass number) (rules.start opening) history legal own in
      next_adds peer said buf (deeds rules rules.handed (of_pass number) opening history)
      (deeds rules rules.handed (of_pass number) opening (history ++ lane_entries rules number (Next peer) state)) state after next handed
      (omega arith)
      (deeds-grown opening history number (Next peer) ∙ ap (λ s. deeds rules rules.handed (of_pass number) opening history ++ when (says_more s) (lane_deeds rules.handed (Next peer) s state)) (sym is))

  -- what a loss tells, where it may be noted or not
  pub loss-tells :
      (may : Bool) (opening : Opening) (history : List (Entry Job Said)) (peer number session : ℕ)
      → rules.may_lose peer session (replay rules opening history) ≡ may
      → TellsLoss may session (deeds rules rules.handed (of_pass number) opening history)
      (deeds rules rules.handed (of_pass number) opening (history ++ lane_entries rules number (Lost peer session) (replay rules opening history)))
  loss-tells true opening history peer number session may =
      deeds-grown opening history number (Lost peer session)
      ∙ ap (λ b. deeds rules rules.handed (of_pass number) opening history ++ when b (Loses session ∷ [])) may
  loss-tells false opening history peer number session may =
      (deeds-grown opening history number (Lost peer session)
      ∙ ap (λ b. deeds rules rules.handed (of_pass number) opening history ++ when b (Loses session ∷ [])) may)
      ∙ append-nil (deeds rules rules.handed (of_pass number) opening history)

  legal-front :
      (state : State) (old new : List (Entry Job Said)) → IsLegalFrom rules state (old ++ new) → IsLegalFrom rules state old
  legal-front state [] new legal = tt
  legal-front state (entry ∷ old) new legal = (legal.0, legal-front (after_step rules entry.step state) old new legal.1)

  -- what the answer to what is next tells, of a board that may be spent
  pub next-told :
      (machine : IsMachine rules) (spent : Bool) (opening opening' : Opening) (history history' : List (Entry Job Said))
      (peer number : ℕ) (said : LaneSaid) (buf : List ℕ)
      → opening' ≡ opening → IsLegal rules opening' history' → AreOfPeer peer number history
      → (spent ≡ false → said ≡ lane_said rules (Next peer) (replay rules opening history))
      → (spent ≡ false → history' ≡ history ++ lane_entries rules number (Next peer) (replay rules opening history))
      → (spent ≡ false → LeavesHanded rules (Next peer) said (replay rules opening history) buf)
      → (spent ≡ true → said ≡ spent_said (Next peer))
      → (spent ≡ true → history' ≡ history)
      → TellsNext said buf (deeds_at rules (Some opening) number history) (deeds_at rules (Some opening') number history')
  next-told machine false opening opening' history history' peer number said buf same legal own is grown handed stops stays =
      let added = lane_entries rules number (Next peer) (replay rules opening history) in
      let whole : IsLegal rules opening (history ++ added) = subst (λ h. IsLegal rules opening h) (grown refl) (subst (λ o. IsLegal rules o history') same legal) in
      let told = next-tells machine opening history peer number said buf (legal-front (rules.start opening) history added whole) own (is refl) (handed refl) in
      subst (λ o. TellsNext said buf (deeds_at rules (Some opening) number history) (deeds_at rules (Some o) number history')) (sym same)
      (subst (λ h. TellsNext said buf (deeds_at rules (Some opening) number history) (deeds_at rules (Some opening) number h)) (sym (grown refl)) told)
  next-told machine true opening opening' history history' peer number said buf same legal own is grown handed stops stays =
      let kept : deeds_at rules (Some opening') number history' ≡ deeds_at rules (Some opening) number history =
      ap (λ o. deeds_at rules (Some o) number history') same ∙ ap (λ h. deeds_at rules (Some opening) number h) (stays refl) in
      subst (λ s. TellsNext s buf (deeds_at rules (Some opening) number history) (deeds_at rules (Some opening') number history')) (sym (stops refl)) kept

  -- what a loss tells, of a board that may be spent
  pub loss-told :
      (spent may : Bool) (opening opening' : Opening) (history history' : List (Entry Job Said)) (peer number session : ℕ)
      → opening' ≡ opening
      → (spent ≡ true → may ≡ false)
      → (spent ≡ false → may ≡ rules.may_lose peer session (replay rules opening history))
      → (spent ≡ false → history' ≡ history ++ lane_entries rules number (Lost peer session) (replay rules opening history))
      → (spent ≡ true → history' ≡ history)
      → TellsLoss may session (deeds_at rules (Some opening) number history) (deeds_at rules (Some opening') number history')
  loss-told false may opening opening' history history' peer number session same passes is grown stays =
      let told = loss-tells may opening history peer number session (sym (is refl)) in
      subst (λ o. TellsLoss may session (deeds_at rules (Some opening) number history) (deeds_at rules (Some o) number history')) (sym same)
      (subst (λ h. TellsLoss may session (deeds_at rules (Some opening) number history) (deeds_at rules (Some opening) number h)) (sym (grown refl)) told)
  loss-told true may opening opening' history history' peer number session same passes is grown stays =
      let kept : deeds_at rules (Some opening') number history' ≡ deeds_at rules (Some opening) number history =
      ap (λ o. deeds_at rules (Some o) number history') same ∙ ap (λ h. deeds_at rules (Some opening) number h) (stays refl) in
      subst (λ b. TellsLoss b session (deeds_at rules (Some opening) number history) (deeds_at rules (Some opening') number history')) (sym (passes refl)) kept

  none-counted :
      (counted : Bool) (number : ℕ) (step : LaneStep) (state : State) → counted ≡ false → some_entries counted number step state ≡ []
  unfolding some_entries
  none-counted true number step state is = cc
  none-counted false number step state is = refl

  -- a loss that may not be noted leaves no entry
  pub unlost :
      (history : List (Entry Job Said)) (peer number session : ℕ) (state : State)
      → rules.may_lose peer session state ≡ false → history ++ lane_entries rules number (Lost peer session) state ≡ history
  unfolding some_entries
  unlost history peer number session state is =
      ap (λ es. history ++ es) (none-counted (rules.may_lose peer session state) number (Lost peer session) state is) ∙ append-nil history

  -- which losses a board passes over
  pub loss-passed :
      (spent may : Bool) (spent' : Bool) (opening opening' : Opening) (history history' : List (Entry Job Said)) (peer number session : ℕ)
      → opening' ≡ opening → spent' ≡ spent
      → (spent ≡ false → may ≡ rules.may_lose peer session (replay rules opening history))
      → (spent ≡ false → history' ≡ history ++ lane_entries rules number (Lost peer session) (replay rules opening history))
      → may ≡ false → (spent' ≡ true) ⊎ MayNotLoseAt rules (Some opening') peer session history'
  loss-passed true may spent' opening opening' history history' peer number session same kept is grown none = inl kept
  loss-passed false may spent' opening opening' history history' peer number session same kept is grown none =
      let never : rules.may_lose peer session (replay rules opening history) ≡ false = sym (is refl) ∙ none in
      let stays : history' ≡ history = grown refl ∙ unlost history peer number session (replay rules opening history) never in
      inr (subst (λ o. MayNotLoseAt rules (Some o) peer session history') (sym same)
      (subst (λ h. MayNotLoseAt rules (Some opening) peer session h) (sym stays) never))

  -- Between two turns of a pass others may add entries: they tell nothing of it.
  nothing-more : {A : Type 0} → (xs ys : List A) → xs ++ ys ≡ xs → ys ≡ []
  nothing-more xs [] same = refl
  nothing-more xs (y ∷ ys) same = let longer = ap length same in absurd (omega (arith, length-append xs (y ∷ ys)))

  rest-none :
      (number : ℕ) (seen rest : List (Entry Job Said))
      → owned_by (λ entry. entry.pass) number (seen ++ rest) ≡ owned_by (λ entry. entry.pass) number seen
      → filter (of_pass number) rest ≡ []
  rest-none number seen rest same =
      nothing-more (filter (of_pass number) seen) (filter (of_pass number) rest) (sym (filter-append (of_pass number) seen rest) ∙ same)

  none_by_case :
      (b : Bool) (peer number : ℕ) (entry : Entry Job Said) (entries : List (Entry Job Said))
      → of_pass number entry ≡ b → filter (of_pass number) (entry ∷ entries) ≡ []
      → (filter (of_pass number) entries ≡ [] → AreOfPeer peer number entries) → AreOfPeer peer number (entry ∷ entries)
  none_by_case true peer number entry entries is none rest = let none' : entry ∷ filter (of_pass number) entries ≡ [] = rw is at none in cc
  none_by_case false peer number entry entries is none rest = ((λ mine. cc), rest (rw is at none))

  pub none-own : (peer number : ℕ) (entries : List (Entry Job Said)) → filter (of_pass number) entries ≡ [] → AreOfPeer peer number entries
  none-own peer number [] none = tt
  none-own peer number (entry ∷ entries) none = none_by_case (of_pass number entry) peer number entry entries refl none (λ rest. none-own peer number entries rest)

  -- the entries of the pass are still its peer's
  pub own-before :
      (peer number : ℕ) (seen before : List (Entry Job Said)) → StartsWith before seen
      → owned_by (λ entry. entry.pass) number before ≡ owned_by (λ entry. entry.pass) number seen
      → AreOfPeer peer number seen → AreOfPeer peer number before
  own-before peer number seen before starts same own =
      let same' : owned_by (λ entry. entry.pass) number (seen ++ starts.0) ≡ owned_by (λ entry. entry.pass) number seen =
      ap (λ es. owned_by (λ entry. entry.pass) number es) (sym starts.1) ∙ same in
      subst (λ es. AreOfPeer peer number es) (sym starts.1)
      (Each-append (λ entry. of_pass number entry ≡ true → to_peer peer entry ≡ true) seen starts.0 own (none-own peer number starts.0 (rest-none number seen starts.0 same')))

  -- and they tell what they told
  pub deeds-before :
      (root : Option Opening) (opening : Opening) (number : ℕ) (seen before : List (Entry Job Said)) → root ≡ Some opening → StartsWith before seen
      → owned_by (λ entry. entry.pass) number before ≡ owned_by (λ entry. entry.pass) number seen
      → deeds_at rules root number seen ≡ deeds_at rules (Some opening) number before
  deeds-before root opening number seen before is starts same =
      let same' : owned_by (λ entry. entry.pass) number (seen ++ starts.0) ≡ owned_by (λ entry. entry.pass) number seen =
      ap (λ es. owned_by (λ entry. entry.pass) number es) (sym starts.1) ∙ same in
      let none = deeds_from-others rules rules.handed (of_pass number) (replay rules opening seen) starts.0 (rest-none number seen starts.0 same') in
      let whole = deeds_from-append rules rules.handed (of_pass number) (rules.start opening) seen starts.0 in
      ap (λ r. deeds_at rules r number seen) is
      ∙ (sym (append-nil (deeds rules rules.handed (of_pass number) opening seen))
      ∙ (ap (λ ds. deeds rules rules.handed (of_pass number) opening seen ++ ds) (sym none)
      ∙ (sym whole ∙ ap (λ es. deeds rules rules.handed (of_pass number) opening es) (sym starts.1))))

  pub deeds-none :
      (root : Option Opening) (number : ℕ) (seen : List (Entry Job Said)) → filter (of_pass number) seen ≡ [] → deeds_at rules root number seen ≡ []
  deeds-none None number seen none = refl
  deeds-none (Some root) number seen none = deeds_from-others rules rules.handed (of_pass number) (rules.start root) seen none

  pub deeds-same :
      (root root' : Option Opening) (number number' : ℕ) (seen seen' : List (Entry Job Said))
      → root ≡ root' → number ≡ number' → seen ≡ seen' → deeds_at rules root number seen ≡ deeds_at rules root' number' seen'
  deeds-same root root' number number' seen seen' r n s =
      ap (λ x. deeds_at rules x number seen) r ∙ (ap (λ x. deeds_at rules root' x seen) n ∙ ap (λ x. deeds_at rules root' number' x) s)

pub told-over :
    (T : List (Deed (List ℕ)) → List (Deed (List ℕ)) → Type 0) (a a' b b' : List (Deed (List ℕ))) → a ≡ a' → b ≡ b' → T a' b' → T a b
told-over T a a' b b' e f t = subst (λ x. T x b) (sym e) (subst (λ y. T a' y) (sym f) t)

pub starts_with_more : {E : Type 0} → (a b c : List E) → StartsWith b a → StartsWith c b → StartsWith c a
starts_with_more a b c ab bc = (ab.0 ++ bc.0, bc.1 ∙ (ap (λ x. x ++ bc.0) ab.1 ∙ append_assoc a ab.0 bc.0))
