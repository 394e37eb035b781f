-- Bytes of a report that came one piece after another.
use Rattle.std.proofs.Common.{ℕ, List, [], ◌++◌, refl, sym, subst, ◌∙◌, append_assoc}
use Rattle.std.proofs.lemmas.List.{append-nil}
use Rattle.ug_world.specs.World.{World}
use Rattle.ug_audit_rules.specs.declared.reading.Reading.{Reading}
use Rattle.ug_audit_rules.specs.declared.stop.Stop.{Stop}
use Rattle.ug_audit_rules.specs.Told.{IsStop}
use Rattle.ug_audit_rules.specs.Reading.{whole_entries, HasReadTo, HasGone, HasStoppedIn}

pub goes_nowhere : (r : Reading) (w : World) → HasGone r w r w []
goes_nowhere r w = (refl, λ stream h. subst (HasReadTo w r) (sym (append-nil stream)) h)

pub goes_further : (r s t : Reading) (w w' w'' : World) (front more : List ℕ) → HasGone r w s w' front → HasGone s w' t w'' more → HasGone r w t w'' (front ++ more)
goes_further r s t w w' w'' front more first next = (
  next.0 ∙ first.0,
  λ stream h.
      subst (HasReadTo w t) (append_assoc stream front more)
      (subst (λ (x : World). HasReadTo x t ((stream ++ front) ++ more)) first.0 (next.1 (stream ++ front) (subst (λ (x : World). HasReadTo x s (stream ++ front)) (sym first.0) (first.1 stream h)))),
)

pub stops_further : (r s t : Reading) (w w' w'' : World) (front more : List ℕ) (stop : Stop) → HasGone r w s w' front → HasStoppedIn s w' t w'' more stop → HasStoppedIn r w t w'' (front ++ more) stop
stops_further r s t w w' w'' front more stop first later = (
  later.0 ∙ first.0,
  λ stream h.
      subst (λ (bytes : List ℕ). IsStop stop (whole_entries w bytes)) (append_assoc stream front more)
      (subst (λ (x : World). IsStop stop (whole_entries x ((stream ++ front) ++ more))) first.0 (later.1 (stream ++ front) (subst (λ (x : World). HasReadTo x s (stream ++ front)) (sym first.0) (first.1 stream h)))),
)
