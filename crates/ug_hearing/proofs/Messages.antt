-- The judge after one message more.
use Rattle.std.proofs.Common.{◌≡◌, ℕ, suc, ◌+◌, ◌<◌, ◌≤◌, false, List, [], ◌∷◌, ◌++◌, length, take, slice_get, Option, Some, None, refl, sym, ◌∙◌, ap, subst, arith, length-append}
use Rattle.std.specs.Prelude.{is_some}
use Rattle.std.proofs.lemmas.List.{take-append-le}
use Rattle.ug_types.specs.declared.key.Key.{Key}
use Rattle.ug_types.specs.declared.mark.Mark.{Mark}
use Rattle.ug_types.specs.Messages.{Message}
use Rattle.ug_message.specs.Tables.{Table, table_of}
use Rattle.ug_hearing.specs.declared.breach.Breach.{Breach}
use Rattle.ug_hearing.specs.declared.breach.BreachKind.TheVariants as kinds
use Rattle.ug_hearing.specs.Breaches.{AreAlike}
use Rattle.ug_hearing.specs.declared.hearing.Hearing.{Hearing}
use Rattle.ug_hearing.specs.Heard.{IsHeard, IsTaken}
use Rattle.ug_hearing.specs.declared.session.Session.{Session}
use Rattle.ug_hearing.specs.declared.judge.Judge.{Judge}
use Rattle.ug_hearing.specs.declared.watch.Watch.{Watch}
use Rattle.ug_hearing.specs.Watched.{IsWatched}
use Rattle.ug_hearing.specs.Least.{IsLeastOf}
use Rattle.ug_hearing.specs.Marked.{IsWorst, AreMarksOf}
use Rattle.ug_hearing.specs.Judged.{IsSession, found_amiss, IsChecked, IsClear, IsFound, IsSo, IsJudged}
use Rattle.ug_hearing.proofs.Judging.{found-stuck, found-amiss, all-whole, up_to, found-more}

pub none-there : {X : Type 0} (o : Option X) → is_some o ≡ false → o ≡ None
none-there None is = refl
none-there (Some x) is = absurd cc

module _ (session : Session) (past tables : List Table) (is : IsSession session past tables) where
  abbrev Heard : Hearing → List Message → Type 0
  Heard h ms = IsHeard session.course.changes session.course.from session.course.to past tables h.standings h.refreshing ms

  -- the marks of the messages so far were checked
  pub checked-so : (mid new : Judge) (ms : List Message) → mid.messages ≡ length ms → mid.messages < 18446744073709551615 → mid.found ≡ None → Heard mid.hearing ms
      → ((i : ℕ) (m : Mark) (table : Table) → slice_get session.syncs.items i ≡ Some m → m.handed < length ms → slice_get tables m.version ≡ Some table → AreAlike (table_of (take m.handed ms)) table)
      → ((i : ℕ) (m : Mark) → slice_get session.syncs.items i ≡ Some m → i < mid.next → m.handed < length ms)
      → ((i : ℕ) (m : Mark) → slice_get session.syncs.items i ≡ Some m → mid.next ≤ i → length ms ≤ m.handed)
      → AreMarksOf session.syncs.items mid.next new.next mid.messages
      → IsChecked mid new (IsWorst mid.hearing.standings.rows session.course.changes session.course.from session.syncs.items mid.next new.next)
      → IsWatched mid.hearing.standings.rows session.course.changes session.course.from new.watch → IsJudged session past tables new ms
  checked-so mid new ms count room none heard whole behind ahead marks h watched =
      record { count = h.messages ∙ count; room = subst (λ k. k < 18446744073709551615) (sym h.messages) room; so = by h.worst h.it h.found }
    where
      marks' : AreMarksOf session.syncs.items mid.next new.next (length ms)
      marks' = subst (λ k. AreMarksOf session.syncs.items mid.next new.next k) count marks

      by : (w : Option Key) → IsWorst mid.hearing.standings.rows session.course.changes session.course.from session.syncs.items mid.next new.next w → new.found ≡ found_amiss mid.messages w mid.found → IsSo session past tables new ms new.found
      by None it found =
          subst (λ (o : Option Breach). IsSo session past tables new ms o) (sym (found ∙ none))
          (record {
            heard = subst (λ (x : Hearing). Heard x ms) (sym h.hearing) heard;
            marks = up_to session past tables is ms mid.hearing.standings mid.hearing.refreshing heard mid.next new.next whole behind ahead marks';
            whole = all-whole session past tables is ms mid.hearing.standings mid.hearing.refreshing heard mid.next new.next whole behind ahead marks' it;
            watched = subst (λ (x : Hearing). IsWatched x.standings.rows session.course.changes session.course.from new.watch) (sym h.hearing) watched;
          })
      by (Some key) it found =
          subst (λ (o : Option Breach). IsSo session past tables new ms o) (sym found)
          (subst (λ k. IsFound session past tables (record { kind = kinds.Amiss; message = k; key = Some key }) new.next ms) (sym count)
          (found-amiss session past tables is ms mid.hearing.standings mid.hearing.refreshing heard mid.next new.next whole behind ahead marks' key it))

  pub clear-of : (old : Judge) (ms : List Message) → IsJudged session past tables old ms → old.found ≡ None → IsClear session past tables old ms
  clear-of old ms judged none = subst (λ (o : Option Breach). IsSo session past tables old ms o) none judged.so

  module _ (old : Judge) (ms : List Message) (m : Message) (judged : IsJudged session past tables old ms) (none : old.found ≡ None) (few : old.messages + 1 < 18446744073709551615) (hearing : Hearing) (failed : List Key)
      (taken : IsTaken session.course.changes session.course.from session.course.to past tables failed hearing.standings hearing.refreshing (ms ++ m ∷ [])) where
    pub clear : IsClear session past tables old ms
    clear = subst (λ (o : Option Breach). IsSo session past tables old ms o) none judged.so

    size : length (ms ++ m ∷ []) ≡ suc (length ms)
    size = length-append ms (m ∷ []) ∙ omega arith

    number : suc (length ms) ≡ old.messages + 1
    number = let count = judged.count in omega arith

    -- a key is stuck
    pub stuck-so : (key : Key) → IsLeastOf failed (Some key)
        → IsJudged session past tables (record { hearing = hearing; messages = old.messages + 1; next = old.next; found = Some (record { kind = kinds.Stuck; message = old.messages + 1; key = Some key }); watch = old.watch }) (ms ++ m ∷ [])
    stuck-so key least = record {
      count = sym (size ∙ number);
      room = few;
      so =
          subst (λ k. IsFound session past tables (record { kind = kinds.Stuck; message = k; key = Some key }) old.next (ms ++ m ∷ [])) number
          (found-stuck session past tables is ms m old.hearing.standings hearing.standings old.hearing.refreshing hearing.refreshing failed key clear.heard clear.whole taken least old.next);
    }

    -- none is, and the marks were checked
    pub goes-so : (watch : Watch) (new : Judge) → failed ≡ [] → AreMarksOf session.syncs.items old.next new.next (old.messages + 1)
        → IsChecked (record { hearing = hearing; messages = old.messages + 1; next = old.next; found = old.found; watch = watch }) new
        (IsWorst hearing.standings.rows session.course.changes session.course.from session.syncs.items old.next new.next) → IsWatched hearing.standings.rows session.course.changes session.course.from new.watch
        → IsJudged session past tables new (ms ++ m ∷ [])
    goes-so watch new empty marks h watched =
        checked-so (record { hearing = hearing; messages = old.messages + 1; next = old.next; found = old.found; watch = watch }) new (ms ++ m ∷ []) (sym (size ∙ number)) few none (taken.heard empty)
        (λ i mark table there less version key.
        let few : mark.handed ≤ length ms = (let s = size in omega arith) in
        ap (λ (xs : List Message). table_of xs key) (take-append-le mark.handed ms (m ∷ []) few) ∙ clear.whole i mark table there few version key)
        (λ i mark there less. let few = clear.marks.behind i mark there less in let s = size in omega arith)
        (λ i mark there low. let more = clear.marks.ahead i mark there low in let s = size in omega arith) marks h watched

  -- a breach was found before
  pub still-found : (old : Judge) (ms : List Message) (m : Message) (b : Breach) → old.found ≡ Some b → old.messages + 1 < 18446744073709551615 → IsJudged session past tables old ms
      → IsJudged session past tables (record { hearing = old.hearing; messages = old.messages + 1; next = old.next; found = old.found; watch = old.watch }) (ms ++ m ∷ [])
  still-found old ms m b found few judged = record {
    room = few;
    count = (let count = judged.count in let s = length-append ms (m ∷ []) in omega arith);
    so =
        subst (λ (o : Option Breach). IsSo session past tables (record { hearing = old.hearing; messages = old.messages + 1; next = old.next; found = old.found; watch = old.watch }) (ms ++ m ∷ []) o) (sym found)
        (found-more session past tables is b old.next ms m (subst (λ (o : Option Breach). IsSo session past tables old ms o) found judged.so));
  }
