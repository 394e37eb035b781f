-- What a report holds at its end, and what was read of a file.
use Rattle.std.proofs.Common.{◌≡◌, ◌⊎◌, ℕ, inl, inr, Bool, true, false, List, [], ◌∷◌, ◌++◌, Option, Some, None, Result, Err, refl, sym, ap, subst, ◌∙◌}
use Rattle.std.proofs.lemmas.List.{append-nil}
use Rattle.ug_edge.specs.Told.{AppendsPiece, AppendsAll, TakesFront, IsEnded, HasPicked, FileText, FileTold, Untold, Missing, Bytes, file_told, missing_or_bytes}
use Rattle.ug_pieces.specs.Reporting.{AppendsFront}
use Rattle.ug_pieces.specs.AppendingLaws.{AppendsPiece-more}
use Rattle.ug_report.specs.declared.status.Status.{Status}
use Rattle.ug_report.specs.declared.status.Status.TheVariants as statuses
use Rattle.ug_commands.specs.Files.{IsPartOf, AgreesWithSite, AppendsThenStatus, PicksJust, IsUnbegun}

pub then_status : (before mid held : Option (List ℕ)) (failed : Type 0) (text line : List ℕ) → AppendsPiece before mid text → AppendsThenStatus mid held failed [] line → AppendsThenStatus before held failed text line
then_status before mid held failed text line piece h = (h.0, h.1, h.2, AppendsPiece-more before mid held text h.0 piece h.3, h.4)

nothing : (a b : List ℕ) → [] ≡ a ++ b → a ≡ []
nothing [] b e = refl
nothing (x ∷ a) b e = absurd cc

pub no_status : (before mid held : Option (List ℕ)) (failed : Type 0) (text : List ℕ) → AppendsFront before mid text → AppendsThenStatus mid held failed [] [] → AppendsFront before held text
no_status before mid held failed text front h =
    let none = nothing h.0 h.1 h.2 in
    (front.0, front.1, front.2, subst (λ (bs : List ℕ). AppendsPiece before held bs) (ap (λ (bs : List ℕ). front.0 ++ bs) none ∙ append-nil front.0) (AppendsPiece-more before mid held front.0 h.0 front.3 h.3))

pub no_line : (before held : Option (List ℕ)) (failed : Type 0) (text : List ℕ) → AppendsThenStatus before held failed text [] → AppendsPiece before held (text ++ [])
no_line before held failed text h = subst (λ (bs : List ℕ). AppendsPiece before held (text ++ bs)) (nothing h.0 h.1 h.2) h.3

pub rest_of : Option (List ℕ) → List ℕ
rest_of None = []
rest_of (Some left) = left

pub part_read : (files : Option (List FileText)) (name : List ℕ) (left now : Option (List ℕ)) (read : List ℕ) → HasPicked files name left → TakesFront left now read → IsPartOf (file_told files name) read (rest_of now)
unfolding rest_of
part_read None name None now read picked taken = tt
part_read None name (Some left) now read picked taken = absurd picked
part_read (Some files) name None now read picked taken = absurd picked
part_read (Some files) name (Some left) None read picked taken = absurd taken
part_read (Some files) name (Some left) (Some now) read picked taken = subst (λ (file : Option (List ℕ)). IsPartOf (missing_or_bytes file) read now) (sym picked) taken

pub no_rest : (now : Option (List ℕ)) → IsEnded now → rest_of now ≡ []
unfolding rest_of
no_rest None h = refl
no_rest (Some left) h = h

-- a picked file is there
pub not_missing : (files : Option (List FileText)) (name : List ℕ) (left : Option (List ℕ)) → HasPicked files name left → file_told files name ≡ Missing → ⊥
not_missing None name left picked e = cc
not_missing (Some files) name None picked e = absurd picked
not_missing (Some files) name (Some left) picked e = let bytes : Bytes left ≡ Missing = ap missing_or_bytes (sym picked) ∙ e in cc

-- what is left to read is the rest
pub agrees_read : (is_open : Bool) (now : Option (List ℕ)) (read : List ℕ) → is_open ≡ true → AgreesWithSite is_open now read (rest_of now)
unfolding rest_of
agrees_read is_open None read now_picked = rw now_picked tt
agrees_read is_open (Some left) read now_picked = rw now_picked refl

-- where no file was picked, memory ran out, or the pick failed
pub unbegun_cause : (status : Status) (P : Type 0) → IsUnbegun status → (status ≡ statuses.ReadFault → ⊥) → (status ≡ statuses.NoMemory → P) → P
unbegun_cause status P (inl failed) not_failed starved = absurd (not_failed failed)
unbegun_cause status P (inr none) not_failed starved = starved none

-- where its pick failed too just that file was picked
pub picked_failed : {A : Type 0} (names names' : Option (List (List ℕ))) (name : List ℕ) (status given : Status) (r s : Result A Status) → given ≡ status → r ≡ Err status → s ≡ Err statuses.NoMemory
    → AppendsAll names names' (name ∷ []) ⊎ ((r ≡ s) × (names' ≡ names)) → PicksJust names names' name given
picked_failed {A} names names' name status given r s same r_is s_is (inl named) = inl named
picked_failed {A} names names' name status given r s same r_is s_is (inr none) =
    let equal : r ≡ s = none.0 in
    let starved : status ≡ statuses.NoMemory = cc in
    inr (same ∙ starved, none.1)

pub unread_of : FileTold → List ℕ
unread_of Untold = []
unread_of Missing = []
unread_of (Bytes bytes) = bytes

pub part_unread : (file : FileTold) → IsPartOf file [] (unread_of file)
unfolding unread_of
part_unread Untold = tt
part_unread Missing = (refl, refl)
part_unread (Bytes bytes) = refl

-- a fault within a part of a run is one of the run
pub later_status : (before held : Option (List ℕ)) (F G : Type 0) (text line : List ℕ) → (F → G) → AppendsThenStatus before held F text line → AppendsThenStatus before held G text line
later_status before held F G text line f h = (h.0, h.1, h.2, h.3, elim h.4 [ inl e ↦ inl e | inr failed ↦ inr (f failed) ])
