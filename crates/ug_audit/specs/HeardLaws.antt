-- Bytes that came one piece after another.
use Rattle.std.proofs.Common.{ℕ, List, [], ◌++◌, refl, sym, subst, ◌∙◌, append_assoc}
use Rattle.std.proofs.lemmas.List.{append-nil}
use Rattle.ug_hearing.specs.declared.session.Session.{Session}
use Rattle.ug_audit.specs.declared.listener.Listener.{Listener}
use Rattle.ug_audit.specs.Heard.{HasHeard, HasGone}

pub goes_nowhere : (t : Listener) (s : Session) → HasGone t s t s []
goes_nowhere t s = (refl, λ c stream h. subst (λ (x : List ℕ). HasHeard c s t x) (sym (append-nil stream)) h)

pub goes_further : (t u v : Listener) (s s' s'' : Session) (front more : List ℕ) → HasGone t s u s' front → HasGone u s' v s'' more → HasGone t s v s'' (front ++ more)
goes_further t u v s s' s'' front more first next = (
  next.0 ∙ first.0,
  λ c stream h.
      subst (λ (x : List ℕ). HasHeard c s v x) (append_assoc stream front more)
      (subst (λ (x : Session). HasHeard c x v ((stream ++ front) ++ more)) first.0 (next.1 c (stream ++ front) (subst (λ (x : Session). HasHeard c x u (stream ++ front)) (sym first.0) (first.1 c stream h)))),
)
