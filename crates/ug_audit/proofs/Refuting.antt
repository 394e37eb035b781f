-- Where a session was heard right nothing was found.
use Rattle.std.proofs.Common.{◌≡◌, ℕ, zero, suc, inl, inr, Bool, List, [], ◌∷◌, take, Option, Some, None, refl, sym, ◌∙◌, ap, subst, arith}
use Rattle.std.proofs.lemmas.List.{append-nil}
use Rattle.ug_types.specs.declared.key.Key.{Key}
use Rattle.ug_types.specs.declared.mark.Mark.{Mark}
use Rattle.ug_types.specs.Messages.{Message}
use Rattle.ug_message.specs.Tables.{Table, table_of, tables_after}
use Rattle.ug_message.specs.Climbing.{ClimbsFrom, values_at}
use Rattle.ug_hearing.specs.declared.breach.Ending.{Ending}
use Rattle.ug_hearing.specs.declared.breach.Breach.{Breach}
use Rattle.ug_hearing.specs.Breaches.{IsAmiss, IsShort, IsBreach, Unread, Stuck, Amiss, Short, Off, IsHeardRight}
use Rattle.ug_hearing.specs.declared.session.Session.{Session}
use Rattle.ug_hearing.specs.declared.judge.Judge.{Judge}
use Rattle.ug_hearing.specs.Judged.{IsJudged, IsSo, table_in, last_table}

-- a climb is one to each of its messages
climbs-front : {V : Type 0} (past vs : List V) (from m : ℕ) → ClimbsFrom past from vs → ClimbsFrom past from (take m vs)
climbs-front past [] from zero h = tt
climbs-front past [] from (suc m) h = tt
climbs-front past (v ∷ vs) from zero h = tt
climbs-front past (v ∷ vs) from (suc m) h = (h.0, h.1, climbs-front past vs h.0 m h.2)

same_table : (a b : Table) → Some a ≡ Some b → a ≡ b
same_table a b e = cc

module _ (past : List Table) (table_at : ℕ → Option Table) (syncs : List Mark) (lost : Bool) (last : Option Table) (messages : List Message) (ending : Ending) (right : IsHeardRight past table_at syncs lost last messages ending) where
  amiss_not : (key : Key) (m : ℕ) → IsAmiss past table_at syncs lost last messages ending key m → ⊥
  amiss_not key m a = elim (right.synced a.mark a.among) [
    | inl whole ↦ (
        let one = same_table whole.table a.table (sym whole.of_version ∙ a.of_version) in
        a.differs (ap (λ (k : ℕ). table_of (take k messages) key) (sym a.handed) ∙ whole.whole key ∙ ap (λ (t : Table). t key) one))
    | inr short ↦ (let within = a.within in let handed = a.handed in let less = short.0 in absurd (omega (arith, within, handed, less)))
  ]

  short_not : IsShort past table_at syncs lost last messages ending → ⊥
  short_not s = elim (right.synced s.mark s.among) [
    | inl whole ↦ (let within = whole.within in let short = s.short in absurd (omega (arith, within, short)))
    | inr lost_is ↦ (let clash = sym lost_is.1 ∙ s.whole in cc)
  ]

  pub refuted : (b : Breach) → IsBreach past table_at syncs lost last messages ending b → ⊥
  refuted b (Unread u) = right.read u
  refuted b (Stuck key m s) = s.stuck (climbs-front (values_at key past) (values_at key (tables_after messages)) 0 (suc m) (right.never_back key))
  refuted b (Amiss key m a) = amiss_not key m a
  refuted b (Short s) = short_not s
  refuted b (Off key o) = o.differs (right.end o.table o.is_open o.whole key)

pub found_none : (session : Session) (past tables : List Table) (j : Judge) (ms : List Message) (ending : Ending) → IsJudged session past tables j ms
    → IsHeardRight past (table_in tables) session.syncs.items session.lost (last_table session tables) ms ending → j.found ≡ None
found_none session past tables j ms ending judged right = by j.found judged.so
  where
    by : (o : Option Breach) → IsSo session past tables j ms o → o ≡ None
    by None so = refl
    by (Some b) so =
        absurd (refuted past (table_in tables) session.syncs.items session.lost (last_table session tables) ms ending right b
        (subst (λ (xs : List Message). IsBreach past (table_in tables) session.syncs.items session.lost (last_table session tables) xs ending b) (append-nil ms) (so.is [] ending)))
