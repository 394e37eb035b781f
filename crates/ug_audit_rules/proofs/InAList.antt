-- The private tables of all versions, as one list.
use Rattle.std.proofs.Common.{◌≡◌, ℕ, Bool, List, map, slice_get, Option, subst}
use Rattle.std.proofs.lemmas.Option.{slice_get-map}
use Rattle.ug_types.specs.declared.mark.Mark.{Mark}
use Rattle.ug_types.specs.Messages.{Message}
use Rattle.ug_message.specs.Tables.{Table}
use Rattle.ug_world.specs.declared.peer_state.PeerState.{PeerState}
use Rattle.ug_world.specs.World.{World}
use Rattle.ug_world.specs.Private.{private_table}
use Rattle.ug_world.specs.Worlds.{past}
use Rattle.ug_hearing.specs.declared.breach.Ending.{Ending}
use Rattle.ug_hearing.specs.declared.breach.Breach.{Breach}
use Rattle.ug_hearing.specs.Breaches as breaches
use Rattle.ug_audit_rules.specs.Audited.{marks_to, table_at, open_table, IsHeardRight, IsFirstBreach}

alike_functions : {A B : Type 0} (f h : A → B) → ((x : A) → f x ≡ h x) → f ≡ h
alike_functions f h same = λ i. λ x. same x i

same_tables : (ws : List World) (p : ℕ) → (λ (version : ℕ). slice_get (map (private_table p) ws) version) ≡ table_at ws p
same_tables ws p = alike_functions (λ (version : ℕ). slice_get (map (private_table p) ws) version) (table_at ws p) (λ version. slice_get-map (private_table p) ws version)

module _ (ws : List World) (last : World) (p n : ℕ) (s : PeerState) (syncs : List Mark) (lost : Bool) (messages : List Message) (ending : Ending) where
  pub right-by : breaches.IsHeardRight (past p n ws) (λ (version : ℕ). slice_get (map (private_table p) ws) version) (marks_to p n syncs) lost (open_table last p n s) messages ending
      → IsHeardRight ws last p n s syncs lost messages ending
  right-by h = subst (λ (at : ℕ → Option Table). breaches.IsHeardRight (past p n ws) at (marks_to p n syncs) lost (open_table last p n s) messages ending) (same_tables ws p) h

  pub first-by : (b : Breach) → breaches.IsFirstBreach (past p n ws) (λ (version : ℕ). slice_get (map (private_table p) ws) version) (marks_to p n syncs) lost (open_table last p n s) messages ending b
      → IsFirstBreach ws last p n s syncs lost messages ending b
  first-by b h = subst (λ (at : ℕ → Option Table). breaches.IsFirstBreach (past p n ws) at (marks_to p n syncs) lost (open_table last p n s) messages ending b) (same_tables ws p) h
