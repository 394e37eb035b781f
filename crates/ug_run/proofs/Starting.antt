-- A run before its first line.
use Rattle.std.specs.Prelude.{◌⊎◌}
use Rattle.std.proofs.Common.{◌≡◌, ℕ, ◌+◌, ◌≤◌, Bool, true, false, List, [], ◌∷◌, length, map, take, Option, Some, None, Result, Ok, Err, inl, inr, refl, sym, ◌∙◌, ap, subst, arith}
use Rattle.std.proofs.lemmas.List.{append-nil, length-map}
use Rattle.ug_edge.specs.Told.{Rose, TakesFront, HasPicked, WireName, WiresMade, Picks, AppendsAll, FileText, FileTold, file_told}
use Rattle.ug_board.specs.Deeds.{Each}
use Rattle.ug_world.specs.World.{World}
use Rattle.ug_report.specs.Report.{names_in}
use Rattle.ug_run.specs.Wires.{AreNewWires, HasMade, AreMadeFor}
use Rattle.ug_event_loop.specs.Contents.{WireTold}
use Rattle.ug_board.specs.Entry.{Entry}
use Rattle.ug_commands.specs.Files.{AppendsThenStatus, IsUnbegun}
use Rattle.ug_report.specs.Statuses.{row_of, status_text}
use Rattle.ug_report.specs.declared.status.Status.{Status}
use Rattle.ug_report.specs.declared.status.Status.TheVariants as statuses
use Rattle.ug_commands.proofs.Ends.{rest_of, part_read, agrees_read, unread_of, part_unread}
use Rattle.ug_run.specs.Told.{RunTold}
use Rattle.ug_run.specs.Promise.{IsUnmade, IsEarly, IsUntouched, IsUnread, EndsEarly}
use Rattle.ug_run.specs.Commands.{IsUnconfigured}

-- wires as they are made are untouched
pub new-untouched : {W : Type 0} (sessions : W → Option (List (List ℕ))) (begun faults : W → ℕ) (wires : List W) → AreNewWires sessions begun faults wires
    → Each IsUntouched (map (λ (wire : W). record { sessions = sessions wire; faults = faults wire }) wires)
new-untouched sessions begun faults [] new = tt
new-untouched sessions begun faults (wire ∷ wires) new = ((new.0, new.2), new-untouched sessions begun faults wires new.3)

same_names : {A : Type 0} (names : Option (List A)) → AppendsAll names names []
same_names None = tt
same_names (Some names) = sym (append-nil names)

-- no wire was made
pub made-none : (made : WiresMade) (dir : List ℕ) (names : List (List ℕ)) → HasMade made made dir (take 0 names)
made-none made dir names = record { counted = omega arith; named = same_names made.names }

-- all names of a world, or as many as there are wires
pub all-names : (w : World) → length (names_in w) ≡ length w.peers
all-names w = length-map w.peers _

-- the statuses of a run that ended before its first line
abbrev pub IsSoon : Status → Type 0
IsSoon status = (status ≡ statuses.ReadFault) ⊎ IsUnmade status

early-as : (peers wires : ℕ) (is_open : Bool) (status : Status) → IsSoon status → (status ≡ statuses.ReadFault → (is_open ≡ false) × (wires ≡ peers)) → wires ≤ peers → IsEarly peers wires is_open status
early-as peers wires is_open status (inl is) unpicked few = subst (λ (s : Status). IsEarly peers wires is_open s) (sym is) (unpicked is)
early-as peers wires is_open status (inr (inl is)) unpicked few = subst (λ (s : Status). IsEarly peers wires is_open s) (sym is) few
early-as peers wires is_open status (inr (inr is)) unpicked few = subst (λ (s : Status). IsEarly peers wires is_open s) (sym is) few

module _ {W : Type 0} (sessions : W → Option (List (List ℕ))) (begun faults : W → ℕ) where
  abbrev pub seen_of : W → WireTold
  seen_of wire = record { sessions = sessions wire; faults = faults wire }

  module _ {J R : Type 0} (w : World) (events : List ℕ) (files : Option (List FileText)) (picks picks' : Picks) (left : Option (List ℕ)) (made made' : WiresMade) (before held : Option (List ℕ)) (writes writes' : ℕ) (made_for : List WireName) where
    -- what stood outside before it and behind it, and a run that ended so
    abbrev pub ended-as : Status → List W → List (Entry J R) → Bool → RunTold J R
    ended-as status wires history spent = record {
      before = record { files = files; picks = picks; made = made; held = before; faults = writes };
      after = record { picks = picks'; left = left; made = made'; held = held; faults = writes' };
      status = status;
      wires = map seen_of wires;
      made_for = made_for;
      history = history;
      spent = spent;
    }

    -- A run that ended before its first line.
    pub ends-early : (status : Status) (wires : List W) (history : List (Entry J R)) (spent : Bool)
        → IsSoon status → (status ≡ statuses.ReadFault → (picks'.is_open ≡ false) × (length wires ≡ length w.peers))
        → IsUnread events (file_told files events) picks.names picks'.names picks'.is_open left → length wires ≤ length w.peers → AreNewWires sessions begun faults wires
        → history ≡ [] → spent ≡ false → AppendsThenStatus before held (Rose writes writes') [] (status_text status)
        → EndsEarly w events (ended-as status wires history spent)
    ends-early status wires history spent soon unpicked unread few new none unspent report = record {
      early =
          let same = length-map wires seen_of in
          early-as (length w.peers) (length (map seen_of wires)) picks'.is_open status soon (λ is. ((unpicked is).0, same ∙ (unpicked is).1)) (rw same few);
      unread = unread;
      untouched = new-untouched sessions begun faults wires new;
      none = none;
      unspent = unspent;
      report = report;
    }

    -- the same, with the status and the wires as they are handed on
    pub early-home : (status mid given : Status) (wires back : List W) (history : List (Entry J R)) (spent : Bool) → given ≡ mid → mid ≡ status → back ≡ wires → history ≡ [] → spent ≡ false
        → IsSoon status → (status ≡ statuses.ReadFault → (picks'.is_open ≡ false) × (length wires ≡ length w.peers))
        → IsUnread events (file_told files events) picks.names picks'.names picks'.is_open left → length wires ≤ length w.peers → AreNewWires sessions begun faults wires
        → AppendsThenStatus before held (Rose writes writes') [] (status_text status)
        → EndsEarly w events (ended-as given back history spent)
    early-home status mid given wires back history spent one other back_is none unspent soon unpicked unread few new report =
        subst (λ (s : Status). EndsEarly w events (ended-as s back history spent)) (sym (one ∙ other))
        (subst (λ (ws : List W). EndsEarly w events (ended-as status ws history spent)) (sym back_is)
        (ends-early status wires history spent soon unpicked unread few new none unspent report))

-- the statuses of wires that could not be made
pub unmade-early : (status : Status) → IsUnmade status → IsSoon status
unmade-early status is = inr is

-- those of a file that could not be picked
pub unbegun-early : (status : Status) → IsUnbegun status → IsSoon status
unbegun-early status (inl is) = inl is
unbegun-early status (inr is) = inr (inr is)

pub early-completed : (status : Status) (P : Type 0) → IsSoon status → (row_of status).completed ≡ true → P
early-completed status P (inl is) done = let at : (row_of statuses.ReadFault).completed ≡ true = subst (λ (s : Status). (row_of s).completed ≡ true) is done in absurd cc
early-completed status P (inr (inl is)) done = let at : (row_of statuses.SiteFault).completed ≡ true = subst (λ (s : Status). (row_of s).completed ≡ true) is done in absurd cc
early-completed status P (inr (inr is)) done = let at : (row_of statuses.NoMemory).completed ≡ true = subst (λ (s : Status). (row_of s).completed ≡ true) is done in absurd cc

pub unmade-unread : (status : Status) (P : Type 0) → IsUnmade status → status ≡ statuses.ReadFault → P
unmade-unread status P (inl is) e = let at : statuses.SiteFault ≡ statuses.ReadFault = sym is ∙ e in absurd cc
unmade-unread status P (inr is) e = let at : statuses.NoMemory ≡ statuses.ReadFault = sym is ∙ e in absurd cc

pub early-reported : (status : Status) (P : Type 0) → IsSoon status → status ≡ statuses.ReportFault → P
early-reported status P (inl is) e = let at : statuses.ReadFault ≡ statuses.ReportFault = sym is ∙ e in absurd cc
early-reported status P (inr (inl is)) e = let at : statuses.SiteFault ≡ statuses.ReportFault = sym is ∙ e in absurd cc
early-reported status P (inr (inr is)) e = let at : statuses.NoMemory ≡ statuses.ReportFault = sym is ∙ e in absurd cc

pub unbegun-made : (status : Status) (P : Type 0) → IsUnbegun status → status ≡ statuses.SiteFault → P
unbegun-made status P (inl is) e = let at : statuses.ReadFault ≡ statuses.SiteFault = sym is ∙ e in absurd cc
unbegun-made status P (inr is) e = let at : statuses.NoMemory ≡ statuses.SiteFault = sym is ∙ e in absurd cc

-- no wire was made, and none is given back
pub made-idle : {W : Type 0} (made_for : W → WireName) (wires : List W) (made : WiresMade) (dir : List ℕ) (names : List (List ℕ)) → wires ≡ [] → AreMadeFor made made dir names (map made_for wires)
made-idle {W} made_for wires made dir names none =
    subst (λ (ws : List W). AreMadeFor made made dir names (map made_for ws)) (sym none) (record { made = made-none made dir names; each = refl })

-- ---- nothing was read

takes-nothing : (left : Option (List ℕ)) → TakesFront left left []
takes-nothing None = tt
takes-nothing (Some left) = refl

-- the file was not picked
pub unread-unpicked : (name : List ℕ) (file : FileTold) (old new : Picks) (is_open : Bool) (left : Option (List ℕ)) → new ≡ old → IsUnread name file old.names new.names is_open left
unread-unpicked name file old new is_open left same = inl (subst (λ (p : Picks). AppendsAll old.names p.names []) (sym same) (same_names old.names))

-- its pick failed
pub unread-closed : (name : List ℕ) (file : FileTold) (old mid new : Picks) (left : Option (List ℕ)) (P : Type 0) → mid ≡ old → new.is_open ≡ false
    → AppendsAll mid.names new.names (name ∷ []) ⊎ (P × (new.names ≡ mid.names)) → IsUnread name file old.names new.names new.is_open left
unread-closed name file old mid new left P same closed (inl named) =
    inr (subst (λ (p : Picks). AppendsAll p.names new.names (name ∷ [])) same named, unread_of file, part_unread file, rw closed refl)
unread-closed name file old mid new left P same closed (inr none) =
    let back : new.names ≡ old.names = none.1 ∙ ap (λ (p : Picks). p.names) same in
    inl (subst (λ (ns : Option (List (List ℕ))). AppendsAll old.names ns []) (sym back) (same_names old.names))

-- it was picked, and all of it is left
pub unread-open : (name : List ℕ) (files mid_files : Option (List FileText)) (old mid new : Picks) (left : Option (List ℕ)) → mid_files ≡ files → mid ≡ old → new.is_open ≡ true
    → AppendsAll mid.names new.names (name ∷ []) → HasPicked mid_files name left → IsUnread name (file_told files name) old.names new.names new.is_open left
unread-open name files mid_files old mid new left files_same same opened named picked =
    let here = subst (λ (fs : Option (List FileText)). HasPicked fs name left) files_same picked in
    inr (
      subst (λ (p : Picks). AppendsAll p.names new.names (name ∷ [])) same named,
      rest_of left,
      part_read files name left left [] here (takes-nothing left),
      agrees_read new.is_open left [] opened,
    )

-- a configuration that stands for no world ends no run that completed
pub unset-completed : (file : FileTold) (status : Status) (P : Type 0) → IsUnconfigured file status → (row_of status).completed ≡ true → P
unset-completed file (statuses.Config number field) P h done = absurd cc
unset-completed file statuses.TooLong P h done = absurd cc
unset-completed file statuses.ReadFault P h done = absurd cc
unset-completed file statuses.NoMemory P h done = absurd cc
unset-completed file statuses.Ok P h done = absurd h
unset-completed file statuses.Usage P h done = absurd h
unset-completed file statuses.ReportFault P h done = absurd h
unset-completed file statuses.SiteFault P h done = absurd h
unset-completed file (statuses.Lost peer session) P h done = absurd h
unset-completed file (statuses.Malformed cause offset) P h done = absurd h
unset-completed file (statuses.Refuted peer session kind message key) P h done = absurd h
unset-completed file (statuses.Unclear line) P h done = absurd h

-- ---- what an answer says of its status

pub err_same : {A E : Type 0} (a b : E) (r s : Result A E) → r ≡ Err a → s ≡ Err b → r ≡ s → a ≡ b
err_same {A} {E} a b r s r_is s_is e = cc

pub ok_no_err : {A E : Type 0} (x : A) (b : E) → Ok x ≡ Err b → ⊥
ok_no_err {A} {E} x b e = cc
